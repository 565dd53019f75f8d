use Rattle.std.proofs.Common.{◌≡◌, true}
use Rattle.std.specs.Vec.Iter.{into_iter_items}
use Rattle.store_tables.specs.Dues.{entries_of, fitting, told_with, entries_room}
use Rattle.store_tables.proofs.dues.entries_of.Given as goal

abbrev pub invariant-loop-key : goal.invariant-loop-key
invariant-loop-key l =
    (told_with l.entries.items l.room (entries_of l.reminders.rows (into_iter_items l.key-iterator)) ≡ fitting true entries_room (entries_of l.reminders.rows l.fn.keys.items))
    × (goal.iterator-loop-key).can_next l.key-iterator
    × (goal.iterator-loop-key).is_finite l.key-iterator
