use Rattle.std.proofs.Common.{◌≡◌, drop, map}
use Rattle.placement_core.specs.Entries.{has_entry}
use Rattle.placement_core.specs.Readings.{entry_of}
use Rattle.placement_core.proofs.readings.is_named.Given as goal

abbrev pub invariant-loop-entry : goal.invariant-loop-entry
invariant-loop-entry l = has_entry (map entry_of l.entries) l.space ≡ has_entry (map entry_of (drop l.entry-index l.entries)) l.space
