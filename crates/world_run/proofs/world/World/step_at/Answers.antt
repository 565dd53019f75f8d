use Rattle.std.proofs.Common.{◌≡◌, ℕ, sym, ap, ◌∙◌, subst}
use Rattle.part_model.specs.Part.{ring_owner}
use Rattle.cluster_model.specs.World.{ClusterState, WorldStep, key_part, cluster_step}
use Rattle.cluster_model.specs.Invariant.{IsSafeWorld}
use Rattle.world_run.specs.Moments.{event_at}
use Rattle.world_run.specs.Worlds.{WorldView, GivesStep, view_of, cluster_of}
use Rattle.world_run.proofs.Fits.{given_at, at_present}
use Rattle.world_run.proofs.world.World.step_at.Goals as goal

pub invariant_of-self : goal.invariant_of-self
invariant_of-self c =
    subst (λ (v : WorldView). IsSafeWorld ring_owner (cluster_of v)) (sym c.set_moment.ensures) (record { spaces = c.self.invariant.spaces; tables = c.self.invariant.tables; acks = c.self.invariant.acks })

pub invariant_of-self-2 : goal.invariant_of-self-2
invariant_of-self-2 c =
    subst (λ (v : WorldView). IsSafeWorld ring_owner (cluster_of v)) (sym c.set_moment-2.ensures) (record { spaces = c.self-2.invariant.spaces; tables = c.self-2.invariant.tables; acks = c.self-2.invariant.acks })

pub returns : goal.returns
returns c =
    let v = c.args.self.now in
    let now = c.args.now in
    let u = c.step-result.new.self in
    let r = c.step-result.result in
    let present : c.now-present.result ≡ v.moment = c.now-present.ensures ∙ ap (λ (z : WorldView). z.moment) c.self.view_is in
    let before : c.set_moment.new.self ≡ record v { moment = now } = c.set_moment.ensures ∙ ap (λ (z : WorldView). record z { moment = now }) c.self.view_is in
    let after : c.set_moment-2.new.self ≡ record u { moment = v.moment } = c.set_moment-2.ensures ∙ (λ i. record (c.self-2.view_is i) { moment = present i }) in
    let given : (w : ClusterState) → view_of w ≡ v → GivesStep r v (event_at ring_owner key_part w c.args.event now) c.set_moment-2.new.self =
    λ w e. given_at w v c.set_moment.new.self u c.set_moment-2.new.self c.args.event now r e before c.step-result.ensures after in
    record {
      given = given;
      present = λ other same w e.
          let at : now ≡ w.now = same ∙ sym (ap (λ (z : WorldView). z.moment) e) in
          subst (λ (s : WorldStep). GivesStep r v s c.set_moment-2.new.self) (ap (λ (n : ℕ). event_at ring_owner key_part w c.args.event n) at ∙ at_present w c.args.event other) (given w e);
      stays = ap (λ (z : WorldView). z.moment) after;
    }
