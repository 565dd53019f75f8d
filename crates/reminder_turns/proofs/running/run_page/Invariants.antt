use Rattle.std.proofs.Common.{◌≡◌, drop}
use Rattle.sidecar_node.specs.Nodes.{IsSeatsOf}
use Rattle.reminder_turns.proofs.Runs.{Progress}
use Rattle.reminder_turns.proofs.running.run_page.Given as goal

-- those before this one were run, and none of them ended the call; the desk has the same node and addresses, and what isn't
-- called stays
abbrev pub invariant-loop-entry : goal.invariant-loop-entry
invariant-loop-entry g l = record {
  node : l.desk.node.now ≡ l.initial.desk.node.now;
  seats : IsSeatsOf l.initial.desk.node.now l.desk.seats;
  progress : Progress l.initial.desk.node.now l.initial.desk.links.app_at l.initial.desk.links.store_at l.entries (g.K.Clock.shown l.initial.desk.clock) (drop l.entry-index l.entries) (g.K.Clock.shown l.desk.clock) l.initial.desk.seats l.desk.seats (g.A.Dial.dialled l.initial.desk.links.app) (g.A.Dial.dialled l.desk.links.app) (g.A.Dial.dial_faults l.initial.desk.links.app) (g.A.Dial.dial_faults l.desk.links.app) (g.S.Dial.dialled l.initial.desk.links.store) (g.S.Dial.dialled l.desk.links.store) (g.S.Dial.dial_faults l.initial.desk.links.store) (g.S.Dial.dial_faults l.desk.links.store) l.turns l.faulted;
  places : (l.desk.links.app_at ≡ l.initial.desk.links.app_at) × (l.desk.links.store_at ≡ l.initial.desk.links.store_at);
  peers : l.desk.links.peers ≡ l.initial.desk.links.peers;
}
