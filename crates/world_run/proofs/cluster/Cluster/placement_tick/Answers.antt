use Rattle.std.proofs.Common.{◌≡◌, ap, sym, ◌∙◌, subst, inr}
use Rattle.std.specs.Prelude.{Option, None, Result, Ok}
use Rattle.actor_names.specs.declared.member.Member.{Member}
use Rattle.round_core.specs.declared.event.PlaceReply.{PlaceReply}
use Rattle.placement_core.specs.Placement.{late_in}
use Rattle.world_events.specs.declared.event.WorldEvent.TheVariants as lines
use Rattle.world_events.specs.declared.outcome.Outcome.{Outcome}
use Rattle.world_events.specs.declared.error.WorldError.{WorldError}
use Rattle.cluster_model.specs.World as world
use Rattle.world_run.specs.Post.{PostView}
use Rattle.cluster_parts.specs.Views.{PartsView}
use Rattle.world_run.specs.Worlds.{WorldView, Happens, Gives, cluster_of, viewed}
use Rattle.world_run.proofs.cluster.Cluster.placement_tick.Goals as goal

pub returns : goal.returns
returns c =
    let i = c.self.inside in
    let r : Result Outcome WorldError = Ok c.dropped_outcome.result in
    let v : WorldView = viewed i.settings i.post i.parts i.calls i.moment i.events in
    let u : PostView → WorldView = λ p. viewed i.settings p i.parts i.calls i.moment i.events in
    let none : None ≡ world.running_among i.parts.parts (late_in i.post.placement.rooms i.moment) = sym c.in_default.is ∙ c.first_running.ensures.first in
    let told : r ≡ Ok (world.dropped_outcome c.in_ok-reply.reply) = ap (λ (o : Outcome). let q : Result Outcome WorldError = Ok o in q) c.dropped_outcome.ensures in
    subst (λ (p : PartsView). Happens r c.args.self.now (viewed i.settings c.change.new.self p i.calls i.moment i.events) lines.PlacementTick) (sym c.first_running.ensures.same)
    (subst (λ (z : WorldView). Happens r z (u c.change.new.self) lines.PlacementTick) c.self.view_is
    (subst (λ (o : Option Member). Gives r v (u c.change.new.self) (world.honest_tick (cluster_of v) o)) none
    (inr (told ∙ ap (λ (z : PlaceReply). let q : Result Outcome WorldError = Ok (world.dropped_outcome z) in q) c.in_ok-reply.ensures.reply, ap u c.in_ok-reply.ensures.ok))))
