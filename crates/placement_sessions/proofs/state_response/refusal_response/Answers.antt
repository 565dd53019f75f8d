use Rattle.std.proofs.Common.{ap}
use Rattle.actors_api.specs.declared.refusal.ApiRefusal.TheVariants as api
use Rattle.frame_wire.specs.declared.refusal.Refusal.{Refusal}
use Rattle.placement_sessions.specs.StateTexts.{refused_with, refusal_response}
use Rattle.placement_sessions.proofs.state_response.refusal_response.Goals as goal

pub returns-in-OutOfMemory : goal.returns-in-OutOfMemory
returns-in-OutOfMemory c = (refused_with api.OutOfMemory, ap (λ (r : Refusal). refusal_response r) c.in-OutOfMemory.is, c.refused_with.ensures)
