use Rattle.std.proofs.Common.{◌≡◌, ◌≤◌, length, vec_capacity}
use Rattle.sidecar_node.specs.Rounds.{part_event}
use Rattle.sidecar_node.specs.Nodes.{part_gates, IsSeatsOf, GivesEach}
use Rattle.sidecar_node.proofs.node.SidecarNode.give_each.Given as goal

abbrev pub invariant-loop-part : goal.invariant-loop-part
invariant-loop-part g l = record {
  seats : IsSeatsOf l.self l.seats;
  many : length l.saids.items ≡ l.part;
  room : length (part_gates l.self) ≤ vec_capacity l.saids;
  gives : GivesEach (part_event l.event) l.saids.items l.initial.seats l.seats;
}
