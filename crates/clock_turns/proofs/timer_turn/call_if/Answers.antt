use Rattle.std.proofs.Common.{[]}
use Rattle.std.specs.Option.{option_copied}
use Rattle.exchanges.proofs.Diallings.{none_made}
use Rattle.clock_turns.proofs.Turns.{calls_there, calls_gone}
use Rattle.clock_turns.proofs.timer_turn.call_if.Goals as goal

pub returns-then-there : goal.returns-then-there
returns-then-there g c =
    let x = c.call_timer.ensures in
    (x.0, calls_there c.args.at.now c.args.due.now (option_copied c.args.chain) c.args.there x.0 c.call_timer.result c.if-there.true x.1, x.2)

pub returns : goal.returns
returns g c = ([], calls_gone c.args.at.now c.args.due.now (option_copied c.args.chain) c.args.there c.if-there.false, none_made _ _)
