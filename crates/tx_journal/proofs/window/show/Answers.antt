use Rattle.std.proofs.Common.{sym, ◌∙◌}
use Rattle.tx_journal.proofs.Windows.{shows_front, shown_read, front_read}
use Rattle.tx_journal.proofs.window.show.Goals as goal

pub returns-then-has_front-clause-front : goal.returns-then-has_front-clause-front
returns-then-has_front-clause-front g c d tells =
    let within = c.has_front.ensures c.if-has_front.true in
    shows_front c.args.window.now.at c.args.at c.args.window.now.bytes.items d (c.requires.shown d tells) within.0 within.1

pub returns-clause-shown : goal.returns-clause-shown
returns-clause-shown g c d tells =
    shown_read c.read_at.result c.args.at c.args.width c.read_at.new.front.items d (c.read_at.ensures.read d (sym c.read_at.ensures.same ∙ tells)) c.read_at.ensures.failed

pub returns-clause-front : goal.returns-clause-front
returns-clause-front g c d tells =
    front_read c.read_at.result c.args.at c.args.width c.read_at.new.front.items d c.requires.wide (c.read_at.ensures.read d tells)
