use Rattle.std.specs.Prelude.{◌≡◌, length, vec_capacity}
use Rattle.fence_rows.proofs.Lists.{StepsAlong}
use Rattle.fence_rows.proofs.fenced.Fenced.step_each.Given as goal

abbrev pub invariant-loop-event : goal.invariant-loop-event
invariant-loop-event g l =
    StepsAlong l.fn.self l.fn.asks.items l.asks.items l.answers.items l.self
    × (vec_capacity l.asks ≡ vec_capacity l.fn.asks)
    × (vec_capacity l.answers ≡ vec_capacity l.fn.answers)

abbrev pub decreases-loop-event : goal.decreases-loop-event
decreases-loop-event g l = length l.asks.items
