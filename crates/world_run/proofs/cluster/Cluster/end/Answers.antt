use Rattle.std.proofs.Common.{ap, sym, subst}
use Rattle.std.specs.Prelude.{Some, Result, Ok}
use Rattle.world_events.specs.declared.event.WorldEvent.TheVariants as lines
use Rattle.world_events.specs.declared.outcome.Outcome.{Outcome}
use Rattle.world_events.specs.declared.error.WorldError.{WorldError}
use Rattle.world_run.specs.Worlds.{WorldView, Happens, AskedAt, viewed}
use Rattle.cluster_parts.specs.CallIndex.{call_place}
use Rattle.world_run.proofs.Givings.{end_gives}
use Rattle.world_run.proofs.cluster.Cluster.end.Goals as goal

pub returns : goal.returns
returns c =
    let i = c.self.inside in
    let r : Result Outcome WorldError = Ok c.end_outcome.result in
    let u : WorldView = viewed i.settings i.post c.step_at-reply.new.self i.calls i.moment i.events in
    let asked = subst (λ (v : WorldView). AskedAt (Some c.in-Some.asked) v c.args.call) (sym c.self.view_is) c.in-Some.ensures in
    subst (λ (v : WorldView). Happens r v u (lines.End c.args.call)) c.self.view_is
    (end_gives i.settings i.post i.moment i.events i.parts c.step_at-reply.new.self i.calls c.args.call (call_place c.in-Some.asked) c.step_at-reply.result r asked.0 c.step_at-reply.ensures.step asked.1
    (ap (λ (o : Outcome). let q : Result Outcome WorldError = Ok o in q) c.end_outcome.ensures))
