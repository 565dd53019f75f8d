use Rattle.std.proofs.Common.{ap, sym, ◌∙◌, subst}
use Rattle.std.specs.Prelude.{Result, Ok}
use Rattle.world_run.specs.Post.{PostView}
use Rattle.part_model.specs.declared.event.PartEvent.{PartEvent}
use Rattle.cluster_parts.specs.Views.{StepsAt}
use Rattle.world_events.specs.declared.event.WorldEvent.TheVariants as lines
use Rattle.world_events.specs.declared.outcome.Outcome.{Outcome}
use Rattle.world_events.specs.declared.error.WorldError.{WorldError}
use Rattle.world_run.specs.Worlds.{WorldView, Happens, viewed}
use Rattle.world_run.proofs.Givings.{part_gives}
use Rattle.world_run.proofs.cluster.Cluster.part.Goals as goal

pub returns-in-Some-event : goal.returns-in-Some-event
returns-in-Some-event c =
    let i = c.self.inside in
    let r : Result Outcome WorldError = Ok c.told_outcome.result in
    let u : PostView → WorldView = λ p. viewed i.settings p c.step_at.new.self i.calls i.moment i.events in
    let told = sym c.in_ok-told.ensures.told ∙ c.in-Some.is in
    subst (λ (p : PostView). Happens r c.args.self.now (u p) (lines.Part c.args.number c.args.part)) (sym c.in_ok-told.ensures.same)
    (subst (λ (v : WorldView). Happens r v (u i.post) (lines.Part c.args.number c.args.part)) c.self.view_is
    (part_gives i.settings i.post i.calls i.moment i.events i.parts c.step_at.new.self c.args.number c.args.part c.in-Some.told c.in-Some-place_of.at c.in-Some-event.event c.step_at.result r told c.in-Some-event.is
    c.in-Some-place_of.ensures.place (subst (λ (e : PartEvent). StepsAt e c.step_at.result c.in-Some-place_of.at i.parts c.step_at.new.self) c.in-Some-event.event-is c.step_at.ensures.step) c.in-Some-place_of.ensures.within (ap (λ (o : Outcome). let q : Result Outcome WorldError = Ok o in q) c.told_outcome.ensures)))
