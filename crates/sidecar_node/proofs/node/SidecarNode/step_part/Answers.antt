use Rattle.sidecar_node.proofs.Stops.{step_spent}
use Rattle.sidecar_node.proofs.Givings.{one_acts}
use Rattle.sidecar_node.proofs.node.SidecarNode.step_part.Goals as goal

pub returns-clause-entry : goal.returns-clause-entry
returns-clause-entry g c = one_acts c.args.part c.args.event c.call_part.result c.args.seats.now c.call_part.new.seats c.call_part.ensures.steps c.call_part.ensures.others

pub returns-clause-spent : goal.returns-clause-spent
returns-clause-spent g c = step_spent c.args.part c.args.event c.call_part.result c.args.seats.now c.call_part.new.seats c.call_part.ensures.steps
