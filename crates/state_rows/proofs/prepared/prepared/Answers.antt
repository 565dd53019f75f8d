use Rattle.std.proofs.Common.{◌≡◌, List, [], ◌∷◌, ◌++◌}
use Rattle.state_rows.specs.Prepared.{after_steps}
use Rattle.state_rows.proofs.Steps.{after_steps-more}
use Rattle.state_rows.proofs.prepared.prepared.Goals as goal

pub loop-op-preserved : goal.loop-op-preserved
loop-op-preserved c =
    let pushed : c.push.new.self.items ≡ c.loop-op.steps.items ++ c.in_ok-step.step ∷ [] = c.in_ok-push.ensures.items in (
      (λ rows.
          let k = rw c.in-Some.ensures.steps.0 at c.loop-op.invariant.0 rows in
          rw (pushed, after_steps-more c.args.actor.now c.loop-op.steps.items c.in_ok-step.step rows, c.in_ok-step.ensures (after_steps c.args.actor.now c.loop-op.steps.items rows)) k),
      tt,
      tt,
    )
