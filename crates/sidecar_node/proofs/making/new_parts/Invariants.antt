use Rattle.std.proofs.Common.{◌≡◌, [], length}
use Rattle.part_model.specs.Machine.{PartAllows}
use Rattle.part_model.specs.Part.{new_part}
use Rattle.sidecar_node.specs.Rows.{Along, IsNewAt}
use Rattle.sidecar_node.specs.Nodes.{PartGate, PartSeat}
use Rattle.sidecar_node.proofs.making.new_parts.Given as goal

abbrev pub invariant-loop-number : goal.invariant-loop-number
invariant-loop-number l = record {
  many : length l.gates.items ≡ l.number;
  new : Along (λ k (gate : PartGate) (seat : PartSeat). IsNewAt PartAllows (record { state = new_part l.member k l.kinds; recent = [] }) gate seat) l.gates.items l.seats.items;
}
