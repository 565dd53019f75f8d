use Rattle.std.proofs.Common.{◌≡◌, ◌≤◌, length, take, vec_capacity}
use Rattle.sidecar_node.specs.Rows.{Along, AreSeatsOf, KeepsLists, StartsFrom}
use Rattle.sidecar_node.proofs.seating.split_row.Given as goal

abbrev pub invariant-loop-k : goal.invariant-loop-k
invariant-loop-k g l = record {
  seats : AreSeatsOf g.M.Machine.moves l.gates.items l.seats.items;
  kept : Along (λ k old new. KeepsLists old new) l.initial.seats.items l.seats.items;
  count : length l.others.items ≡ l.k;
  room : length l.gates.items ≤ vec_capacity l.others;
  others : AreSeatsOf g.M.Machine.moves (take l.k l.gates.items) l.others.items;
  given : Along (λ k old new. StartsFrom old new) (take l.k l.initial.seats.items) l.others.items;
}
