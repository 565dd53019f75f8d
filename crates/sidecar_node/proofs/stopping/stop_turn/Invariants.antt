use Rattle.std.proofs.Common.{◌≡◌, List}
use Rattle.sidecar_node.specs.Turns.{Said, first_spent}
use Rattle.sidecar_node.specs.Nodes.{IsSeatsOf, StopsAll}
use Rattle.sidecar_node.proofs.stopping.stop_turn.Given as goal

abbrev pub invariant-loop-part : goal.invariant-loop-part
invariant-loop-part g l = record {
  seats : IsSeatsOf l.node l.seats;
  stops : (saids : List Said) × StopsAll l.part saids l.initial.seats l.seats × (l.spent ≡ first_spent saids);
}
