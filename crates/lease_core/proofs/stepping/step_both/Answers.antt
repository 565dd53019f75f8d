use Rattle.std.proofs.Common.{◌≡◌, ℕ, List, sym, subst, inr}
use Rattle.part_model.specs.Part.{ring_owner}
use Rattle.cluster_model.specs.World.{key_part}
use Rattle.lease_core.specs.declared.event.LeaseEvent.{LeaseEvent}
use Rattle.lease_core.specs.declared.event.LeaseEvent.TheVariants as events
use Rattle.lease_core.specs.Books.{book_of}
use Rattle.lease_core.specs.Leased.{leased_step, IsLeasedStep}
use Rattle.lease_core.proofs.Givings.{shown}
use Rattle.lease_core.proofs.stepping.step_both.Goals as goal

pub returns-in-Pass : goal.returns-in-Pass
returns-in-Pass c k same =
    inr (subst (λ (e : LeaseEvent). IsLeasedStep c.pass.result (leased_step ring_owner key_part k e) (shown c.pass.new.world (book_of c.pass.new.book))) (sym c.in-Pass.is)
    (subst (λ (ss : List ℕ). IsLeasedStep c.pass.result (leased_step ring_owner key_part k (events.Pass c.in-Pass.placement ss)) (shown c.pass.new.world (book_of c.pass.new.book))) c.as_slice.ensures (c.pass.ensures k same)))

pub returns-in-Answer : goal.returns-in-Answer
returns-in-Answer c k same =
    inr (subst (λ (e : LeaseEvent). IsLeasedStep c.answer.result (leased_step ring_owner key_part k e) (shown c.args.world.now (book_of c.answer.new.book))) (sym c.in-Answer.is) (c.answer.ensures k same))
