use Rattle.std.proofs.Common.{◌≡◌, ◌≤◌}
use Rattle.sidecar_node.specs.Nodes.{IsSeatsOf}
use Rattle.clock_turns.specs.declared.tick_stand.Stand.TheVariants.{On}
use Rattle.clock_turns.proofs.TickGoings.{Progress}
use Rattle.clock_turns.proofs.timers.fire_timers.Given as goal

-- the Dues so far lead to the book at which the tick stands; the desk has the same node and addresses, and what isn't
-- called stays
abbrev pub invariant-loop : goal.invariant-loop
invariant-loop g l = record {
  node : l.desk.node.now ≡ l.initial.desk.node.now;
  seats : IsSeatsOf l.initial.desk.node.now l.desk.seats;
  progress : Progress l.initial.desk.node.now l.initial.desk.links.app_at l.now l.initial.desk.seats l.desk.seats (g.A.Dial.dialled l.initial.desk.links.app) (g.A.Dial.dialled l.desk.links.app) (g.A.Dial.dial_faults l.initial.desk.links.app) (g.A.Dial.dial_faults l.desk.links.app) (g.K.Clock.shown l.initial.desk.clock) (g.K.Clock.shown l.desk.clock) (On l.book) l.turns l.faulted;
  clock : g.K.Clock.shown l.initial.desk.clock ≤ g.K.Clock.shown l.desk.clock;
  places : (l.desk.links.app_at ≡ l.initial.desk.links.app_at) × (l.desk.links.store_at ≡ l.initial.desk.links.store_at);
  others : (l.desk.links.peers ≡ l.initial.desk.links.peers) × (l.desk.links.store ≡ l.initial.desk.links.store);
}
