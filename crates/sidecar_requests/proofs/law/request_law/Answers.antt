use Rattle.sidecar_requests.proofs.Events.{request_entries}
use Rattle.sidecar_requests.proofs.law.request_law.Goals as goal

pub returns : goal.returns
returns c node app store side request after = request_entries c.call_law.ensures.entries node after app side request store
