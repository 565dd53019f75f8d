use Rattle.std.proofs.Common.{◌≡◌, List, [], ◌∷◌, ◌++◌, sym, ap, ◌∙◌, subst}
use Rattle.std.specs.Vec.Iter.{into_iter_items}
use Rattle.part_model.specs.Part.{ring_owner}
use Rattle.world_events.specs.declared.outcome.Outcome.{Outcome}
use Rattle.cluster_model.specs.World.{key_part, cluster_step}
use Rattle.world_run.specs.Worlds.{Runs}
use Rattle.world_run.proofs.RunSteps.{gave, run_more}
use Rattle.world_run.proofs.world.World.run.Goals as goal

pub loop-event-preserved : goal.loop-event-preserved
loop-event-preserved c =
    let pushed : c.push.new.self.items ≡ c.loop-event.outcomes.items ++ c.in_ok-outcome.outcome ∷ [] =
    (rw c.unwrap.ensures at c.push.ensures.items) ∙ ap (λ (os : List Outcome). os ++ c.in_ok-outcome.outcome ∷ []) c.reserve.ensures.items in (
      (λ w e.
          let h = c.loop-event.invariant.0 w e in
          let s = cluster_step ring_owner key_part h.0 c.in-Some.event in
          let d = gave c.step.result c.loop-event.self c.step.new.self s c.in_ok-outcome.outcome (c.step.ensures h.0 h.1) c.in_ok-outcome.was in (
            s.world,
            sym d.1,
            (λ r outs v runs. h.2 r outs v (run_more h.0 c.in-Some.event (into_iter_items c.next.new.self) (into_iter_items c.loop-event.event-iterator) c.loop-event.outcomes.items c.in_ok-outcome.outcome r outs v c.in-Some.ensures.steps.0 d.0
                (subst (λ (os : List Outcome). Runs s.world (into_iter_items c.next.new.self) os r outs v) pushed runs))),
          )),
      tt,
      tt,
    )
