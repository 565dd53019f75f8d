use Rattle.std.proofs.Common.{sym, ◌∙◌}
use Rattle.call_book.proofs.Firsts.{first_turn_fork}
use Rattle.call_book.proofs.keys.RowElement.summary_around.Goals as goal

pub returns : goal.returns
returns c = λ l r p q.
    let e = rw (c.first_from.ensures, p, q) at c.sooner.ensures in
    e ∙ sym (first_turn_fork l c.args.element.now r)
