use Rattle.sidecar_node.proofs.News.{new_seats}
use Rattle.sidecar_node.proofs.node.SidecarNode.new.Goals as goal

pub returns-clause-seats : goal.returns-clause-seats
returns-clause-seats c = record {
  parts = new_seats _ _ _ _ c.in_ok-part_gates.ensures.new;
  books = new_seats _ _ _ _ c.in_ok-book_gates.ensures.new;
  calls = c.in_ok-calls_gate.ensures.seat_of;
}
