use Rattle.std.proofs.Common.{◌≡◌, length}
use Rattle.sidecar_node.specs.Nodes.{part_gates, IsSeatsOf}
use Rattle.clock_turns.specs.declared.closing_stand.Stand.TheVariants.{On}
use Rattle.clock_turns.proofs.ClosingGoings.{Progress}
use Rattle.clock_turns.proofs.closing.close_cells.Given as goal

-- the takings so far lead to the part at which the turn stands; the desk has the same node, clock and addresses, and what
-- isn't called stays
abbrev pub invariant-loop : goal.invariant-loop
invariant-loop g l = record {
  node : l.desk.node.now ≡ l.initial.desk.node.now;
  seats : IsSeatsOf l.initial.desk.node.now l.desk.seats;
  progress : Progress l.initial.desk.links.app_at l.now (length (part_gates l.initial.desk.node.now)) l.initial.desk.seats l.desk.seats (g.A.Dial.dialled l.initial.desk.links.app) (g.A.Dial.dialled l.desk.links.app) (g.A.Dial.dial_faults l.initial.desk.links.app) (g.A.Dial.dial_faults l.desk.links.app) (On l.part) l.faulted;
  clock : l.desk.clock ≡ l.initial.desk.clock;
  places : (l.desk.links.app_at ≡ l.initial.desk.links.app_at) × (l.desk.links.store_at ≡ l.initial.desk.links.store_at);
  others : (l.desk.links.peers ≡ l.initial.desk.links.peers) × (l.desk.links.store ≡ l.initial.desk.links.store);
}
