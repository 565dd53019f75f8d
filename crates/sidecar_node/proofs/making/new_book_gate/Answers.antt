use Rattle.std.proofs.Common.{IfOk, subst}
use Rattle.timer_book.specs.Book.{BookState}
use Rattle.timer_book.specs.Machine.{TimerMoves}
use Rattle.sidecar_node.specs.Rows.{IsNewAt}
use Rattle.sidecar_node.proofs.News.{new_told}
use Rattle.sidecar_node.proofs.making.new_book_gate.Goals as goal

pub returns : goal.returns
returns c =
    subst (λ (b : BookState). IfOk c.new.result (λ r. IsNewAt TimerMoves b r.0 r.1)) c.new-book.ensures
    (new_told TimerMoves c.new-book.result c.new.result c.new.ensures.seat c.new.ensures.opening c.new.ensures.empty)
