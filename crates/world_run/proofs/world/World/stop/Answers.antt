use Rattle.std.proofs.Common.{◌≡◌, ◌+◌, ℕ, sym, ap, ◌∙◌, subst, arith}
use Rattle.part_model.specs.Part.{ring_owner}
use Rattle.world_events.specs.declared.event.WorldEvent.{WorldEvent}
use Rattle.world_events.specs.declared.event.WorldEvent.TheVariants as lines
use Rattle.cluster_model.specs.World.{WorldStep, key_part, cluster_step}
use Rattle.cluster_model.specs.Invariant.{IsSafeWorld}
use Rattle.world_run.specs.Worlds.{WorldView, Happens, IsStep, cluster_of}
use Rattle.world_run.proofs.Fits.{stays_safe, step_done, done_whole, is_done}
use Rattle.world_run.proofs.world.World.stop.Goals as goal

pub invariant_of-self : goal.invariant_of-self
invariant_of-self c =
    subst (λ (v : WorldView). IsSafeWorld ring_owner (cluster_of v)) (sym c.set_events.ensures)
    (stays_safe c.self.inside.cluster c.stop-result.new.self (lines.Stop c.args.member c.args.part) c.stop-result.result (c.events-events.result + 1) c.self.invariant c.stop-result.ensures.stops)

pub returns : goal.returns
returns c w e =
    let v = c.args.self.now in
    let u = c.stop-result.new.self in
    let r = c.stop-result.result in
    let line : WorldEvent = lines.Stop c.args.member c.args.part in
    let step : WorldStep = cluster_step ring_owner key_part w line in
    let d = is_done r c.stop-result.ensures.memory in
    let h : Happens r v u line = subst (λ (z : WorldView). Happens r z u line) c.self.view_is c.stop-result.ensures.stops in
    let count : c.events-events.result ≡ v.events = c.events-events.ensures ∙ ap (λ (z : WorldView). z.events) c.self.view_is in
    subst (λ (z : WorldView). IsStep r step z) (sym (c.set_events.ensures ∙ ap (λ (n : ℕ). record u { events = n + 1 }) count))
    (done_whole w v (record u { events = v.events + 1 }) step r d.0 d.1 (step_done w v u line r d.0 e (omega arith) h d.1))
