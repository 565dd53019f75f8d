use Rattle.std.proofs.Common.{◌≡◌}
use Rattle.std.specs.Vec.Iter.{into_iter_items}
use Rattle.lists_and_limits.specs.Orders.{Ascends}
use Rattle.state_rows.specs.Entries.{row_cmp}
use Rattle.state_rows.specs.Prepared.{after_steps, after_tx}
use Rattle.state_rows.proofs.prepared.make.Given as goal

abbrev pub invariant-loop-step : goal.invariant-loop-step
invariant-loop-step l =
    (after_steps l.fn.tx.actor (into_iter_items l.step-iterator) l.tree ≡ after_tx l.fn.tx l.fn.tree)
    × Ascends row_cmp l.tree
    × (goal.iterator-loop-step).can_next l.step-iterator
    × (goal.iterator-loop-step).is_finite l.step-iterator
