use Rattle.std.proofs.Common.{◌≡◌, length}
use Rattle.timer_book.specs.Book.{new_book}
use Rattle.timer_book.specs.Machine.{TimerMoves}
use Rattle.sidecar_node.specs.Rows.{Along, IsNewAt}
use Rattle.sidecar_node.specs.Nodes.{BookGate, BookSeat}
use Rattle.sidecar_node.proofs.making.new_books.Given as goal

abbrev pub invariant-loop-number : goal.invariant-loop-number
invariant-loop-number l = record {
  many : length l.gates.items ≡ l.number;
  new : Along (λ k (gate : BookGate) (seat : BookSeat). IsNewAt TimerMoves new_book gate seat) l.gates.items l.seats.items;
}
