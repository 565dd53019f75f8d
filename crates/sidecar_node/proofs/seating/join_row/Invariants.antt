use Rattle.std.proofs.Common.{◌≡◌, ◌++◌, vec_len}
use Rattle.sidecar_node.specs.Rows.{Along, AreSeatsOf}
use Rattle.sidecar_node.proofs.Joins.{JoinedFrom}
use Rattle.sidecar_node.proofs.seating.join_row.Given as goal

abbrev pub invariant-loop-seat : goal.invariant-loop-seat
invariant-loop-seat g l = record {
  seats : AreSeatsOf g.M.Machine.moves l.gates.items l.kept.items;
  rest : (rest : _) × (l.given.items ++ rest ≡ l.fn.given.items);
  joined : Along (JoinedFrom (vec_len l.given) l.fn.given.items) l.initial.kept.items l.kept.items;
}

abbrev pub decreases-loop-seat : goal.decreases-loop-seat
decreases-loop-seat g l = vec_len l.given
