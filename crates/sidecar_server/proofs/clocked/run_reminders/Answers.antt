use Rattle.sidecar_server.proofs.ByClock.{reminders_leave}
use Rattle.sidecar_server.proofs.clocked.run_reminders.Goals as goal

pub returns-clause-leaves : goal.returns-clause-leaves
returns-clause-leaves g c = reminders_leave _ _ _ _ _ _ _ _ _ _ _ _ _ _ _ _ c.reminder_turn-end.ensures.turn
