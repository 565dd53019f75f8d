use Rattle.actor_calls.proofs.Causes.{invoked_entries, invoked_caused}
use Rattle.actor_calls.proofs.Completed.{invoked_completes}
use Rattle.actor_calls.proofs.law.call_law.Goals as goal

pub returns : goal.returns
returns c = record { entries = invoked_entries; causes = invoked_caused; completes = invoked_completes }
