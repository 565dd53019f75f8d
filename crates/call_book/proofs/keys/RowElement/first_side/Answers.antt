use Rattle.std.proofs.Common.{sym, ◌∙◌}
use Rattle.call_book.proofs.Firsts.{first_left, first_here, first_right}
use Rattle.call_book.proofs.keys.RowElement.first_side.Goals as goal

pub returns-then-is_first : goal.returns-then-is_first
returns-then-is_first c = λ l r p q.
    let b = rw (c.first_from.ensures, p, q) at c.is_first.ensures in
    first_left l c.args.element.now r (sym b ∙ c.if-is_first.true)

pub returns-then-is_first-2 : goal.returns-then-is_first-2
returns-then-is_first-2 c = λ l r p q.
    let b = rw (c.first_from.ensures, p, q) at c.is_first.ensures in
    let d = rw (c.done_turn.ensures, q) at c.is_first-else-is_first.ensures in
    first_here l c.args.element.now r (sym b ∙ c.if-is_first.false) (sym d ∙ c.if-is_first-2.true)

pub returns-else-is_first-2 : goal.returns-else-is_first-2
returns-else-is_first-2 c = λ l r p q.
    let b = rw (c.first_from.ensures, p, q) at c.is_first.ensures in
    let d = rw (c.done_turn.ensures, q) at c.is_first-else-is_first.ensures in
    first_right l c.args.element.now r (sym b ∙ c.if-is_first.false) (sym d ∙ c.if-is_first-2.false)
