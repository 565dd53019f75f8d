use Rattle.std.proofs.Common.{◌≡◌, ◌+◌, ℕ, sym, ap, ◌∙◌, subst, arith}
use Rattle.part_model.specs.Part.{ring_owner}
use Rattle.cluster_model.specs.World.{key_part, cluster_step}
use Rattle.cluster_model.specs.Invariant.{IsSafeWorld}
use Rattle.world_run.specs.Worlds.{WorldView, Happens, GivesStep, cluster_of}
use Rattle.world_run.proofs.Fits.{fits, stays_safe, step_done, step_refused, is_done, is_refused}
use Rattle.world_run.proofs.world.World.step.Goals as goal

pub happens-result-requires : goal.happens-result-requires
happens-result-requires c = fits c.self.inside.cluster c.args.event c.self.invariant

pub invariant_of-self : goal.invariant_of-self
invariant_of-self c =
    subst (λ (v : WorldView). IsSafeWorld ring_owner (cluster_of v)) (sym c.set_events.ensures)
    (stays_safe c.self.inside.cluster c.happens-result.new.self c.args.event c.happens-result.result (c.events-events.result + 1) c.self.invariant c.happens-result.ensures)

pub invariant_of-self-else-is_ok : goal.invariant_of-self-else-is_ok
invariant_of-self-else-is_ok c = stays_safe c.self.inside.cluster c.happens-result.new.self c.args.event c.happens-result.result c.happens-result.new.self.events c.self.invariant c.happens-result.ensures

pub returns-then-is_ok : goal.returns-then-is_ok
returns-then-is_ok c w e =
    let v = c.args.self.now in
    let u = c.happens-result.new.self in
    let r = c.happens-result.result in
    let d = is_done r (sym c.if-is_ok.ensures.value) in
    let h : Happens r v u c.args.event = subst (λ (z : WorldView). Happens r z u c.args.event) c.self.view_is c.happens-result.ensures in
    let count : c.events-events.result ≡ v.events = c.events-events.ensures ∙ ap (λ (z : WorldView). z.events) c.self.view_is in
    subst (λ (z : WorldView). GivesStep r v (cluster_step ring_owner key_part w c.args.event) z) (sym (c.set_events.ensures ∙ ap (λ (n : ℕ). record u { events = n + 1 }) count))
    (step_done w v u c.args.event r d.0 e (omega arith) h d.1)

pub returns-else-is_ok : goal.returns-else-is_ok
returns-else-is_ok c w e =
    let v = c.args.self.now in
    let u = c.happens-result.new.self in
    let r = c.happens-result.result in
    let d = is_refused r (sym c.if-is_ok.ensures.value) in
    let h : Happens r v u c.args.event = subst (λ (z : WorldView). Happens r z u c.args.event) c.self.view_is c.happens-result.ensures in
    let count : c.events-events.result ≡ v.events = c.events-events.ensures ∙ ap (λ (z : WorldView). z.events) c.self.view_is in
    step_refused w v u c.args.event r d.0 e (omega arith) h d.1
