use Rattle.std.proofs.Common.{ap, subst}
use Rattle.std.specs.Prelude.{Result, Ok}
use Rattle.part_model.specs.declared.event.PartEvent.TheVariants as events
use Rattle.world_events.specs.declared.event.WorldEvent.TheVariants as lines
use Rattle.world_events.specs.declared.outcome.Outcome.{Outcome}
use Rattle.world_events.specs.declared.error.WorldError.{WorldError}
use Rattle.cluster_model.specs.World as world
use Rattle.world_run.specs.Worlds.{WorldView, Happens, viewed}
use Rattle.world_run.proofs.Givings.{does_gives}
use Rattle.world_run.proofs.cluster.Cluster.stop.Goals as goal

pub returns-clause-stops : goal.returns-clause-stops
returns-clause-stops c =
    let i = c.self.inside in
    let r : Result Outcome WorldError = Ok c.stop_outcome.result in
    let u : WorldView = viewed i.settings i.post c.step_at.new.self i.calls i.moment i.events in
    subst (λ (v : WorldView). Happens r v u (lines.Stop c.args.member c.args.part)) c.self.view_is
    (does_gives i.settings i.post i.calls i.moment i.events i.parts c.step_at.new.self _ c.in-Some.at (events.StopPart) (λ _. world.stop_outcome) c.step_at.result r
    c.in-Some.ensures.place c.step_at.ensures.step c.in-Some.ensures.within (λ m. absurd m)
    (ap (λ (o : Outcome). let q : Result Outcome WorldError = Ok o in q) c.stop_outcome.ensures))
