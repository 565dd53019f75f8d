use Rattle.sidecar_requests.proofs.Causes.{record_entries, record_causes}
use Rattle.sidecar_requests.proofs.law.record_law.Goals as goal

pub returns : goal.returns
returns c = record { entries = record_entries; causes = record_causes }
