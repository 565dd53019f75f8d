use Rattle.sidecar_requests.proofs.Sessions.{sends_other}
use Rattle.sidecar_requests.proofs.answering.response_of.Goals as goal

pub returns-in_default : goal.returns-in_default
returns-in_default c = sends_other c.args.side c.args.answer c.write_api.result c.in_default.not-Made c.in_default.not-Unanswered c.write_api.ensures
