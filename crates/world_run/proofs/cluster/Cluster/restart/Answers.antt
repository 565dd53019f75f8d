use Rattle.std.proofs.Common.{ℕ, List, inr, ap, subst}
use Rattle.std.specs.Prelude.{Result, Ok}
use Rattle.world_events.specs.declared.outcome.Outcome.TheVariants as out
use Rattle.world_run.specs.Post.{PostView}
use Rattle.world_events.specs.declared.event.WorldEvent.TheVariants as lines
use Rattle.world_events.specs.declared.outcome.Outcome.{Outcome}
use Rattle.world_events.specs.declared.error.WorldError.{WorldError}
use Rattle.world_run.specs.Worlds.{WorldView, Happens, viewed}
use Rattle.world_run.proofs.cluster.Cluster.restart.Goals as goal

pub returns : goal.returns
returns c =
    let i = c.self.inside in
    let r : Result Outcome WorldError = Ok (out.Restarted c.in_ok-versions.versions) in
    let u : WorldView = viewed i.settings c.restart.new.self i.parts i.calls i.moment i.events in
    subst (λ (v : WorldView). Happens r v u lines.Restart) c.self.view_is
    (inr (ap (λ (n : List ℕ). let q : Result Outcome WorldError = Ok (out.Restarted n) in q) c.in_ok-versions.ensures.versions, ap (λ (p : PostView). viewed i.settings p i.parts i.calls i.moment i.events) c.in_ok-versions.ensures.ok))
