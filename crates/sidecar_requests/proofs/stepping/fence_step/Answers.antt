use Rattle.std.proofs.Common.{ℕ, subst}
use Rattle.part_model.specs.declared.event.PartEvent.TheVariants.{Lock}
use Rattle.sidecar_node.specs.Entries.{one_entry}
use Rattle.sidecar_node.specs.Nodes.{ActsAt, SpentAt}
use Rattle.sidecar_requests.proofs.stepping.fence_step.Goals as goal

pub returns-clause-entry : goal.returns-clause-entry
returns-clause-entry g c = subst (λ (p : ℕ). ActsAt p (one_entry (Lock 0) c.step_part.result) c.args.seats.now c.step_part.new.seats) c.part_of-part.ensures.part c.step_part.ensures.entry

pub returns-clause-spent : goal.returns-clause-spent
returns-clause-spent g c = subst (λ (p : ℕ). SpentAt p c.step_part.result c.step_part.new.seats) c.part_of-part.ensures.part c.step_part.ensures.spent
