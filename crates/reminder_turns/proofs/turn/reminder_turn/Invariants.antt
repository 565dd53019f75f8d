use Rattle.std.proofs.Common.{◌≡◌}
use Rattle.sidecar_node.specs.Nodes.{IsSeatsOf}
use Rattle.reminder_turns.specs.declared.standing.Stand.TheVariants.{On}
use Rattle.reminder_turns.proofs.Pages.{Progress}
use Rattle.reminder_turns.proofs.turn.reminder_turn.Given as goal

-- the pages so far were taken, and the next one is behind this place; the desk has the same node and addresses, and what
-- isn't called stays
abbrev pub invariant-loop : goal.invariant-loop
invariant-loop g l = record {
  node : l.desk.node.now ≡ l.initial.desk.node.now;
  seats : IsSeatsOf l.initial.desk.node.now l.desk.seats;
  progress : Progress l.initial.desk.node.now l.initial.desk.links.app_at l.initial.desk.links.store_at (g.K.Clock.shown l.initial.desk.clock) (On l.place) (g.K.Clock.shown l.desk.clock) l.initial.desk.seats l.desk.seats (g.A.Dial.dialled l.initial.desk.links.app) (g.A.Dial.dialled l.desk.links.app) (g.A.Dial.dial_faults l.initial.desk.links.app) (g.A.Dial.dial_faults l.desk.links.app) (g.S.Dial.dialled l.initial.desk.links.store) (g.S.Dial.dialled l.desk.links.store) (g.S.Dial.dial_faults l.initial.desk.links.store) (g.S.Dial.dial_faults l.desk.links.store) l.turns l.faulted;
  places : (l.desk.links.app_at ≡ l.initial.desk.links.app_at) × (l.desk.links.store_at ≡ l.initial.desk.links.store_at);
  peers : l.desk.links.peers ≡ l.initial.desk.links.peers;
}
