use Rattle.std.proofs.Common.{IfOk, subst}
use Rattle.call_book.specs.Book.{CallBookState}
use Rattle.call_book.specs.Machine.{BookMoves}
use Rattle.sidecar_node.specs.Rows.{IsNewAt}
use Rattle.sidecar_node.proofs.News.{new_told}
use Rattle.sidecar_node.proofs.making.new_calls_gate.Goals as goal

pub returns : goal.returns
returns c =
    subst (λ (b : CallBookState). IfOk c.new.result (λ r. IsNewAt BookMoves b r.0 r.1)) c.new-book.ensures
    (new_told BookMoves c.new-book.result c.new.result c.new.ensures.seat c.new.ensures.opening c.new.ensures.empty)
