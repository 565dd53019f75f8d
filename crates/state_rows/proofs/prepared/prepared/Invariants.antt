use Rattle.std.proofs.Common.{◌≡◌, List}
use Rattle.std.specs.Vec.Iter.{into_iter_items}
use Rattle.state_rows.specs.declared.entry.StateEntry.{StateEntry}
use Rattle.state_rows.specs.Entries.{after_ops}
use Rattle.state_rows.specs.Prepared.{after_steps}
use Rattle.state_rows.proofs.prepared.prepared.Given as goal

abbrev pub invariant-loop-op : goal.invariant-loop-op
invariant-loop-op l =
    ((rows : List StateEntry) → after_ops l.fn.actor l.fn.now (into_iter_items l.op-iterator) (after_steps l.fn.actor l.steps.items rows) ≡ after_ops l.fn.actor l.fn.now l.fn.ops.items rows)
    × (goal.iterator-loop-op).can_next l.op-iterator
    × (goal.iterator-loop-op).is_finite l.op-iterator
