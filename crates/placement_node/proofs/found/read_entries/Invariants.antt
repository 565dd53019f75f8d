use Rattle.std.proofs.Common.{◌≡◌, map}
use Rattle.placement_core.specs.Readings.{entry_of}
use Rattle.placement_payloads.specs.Gives.{entries_of}
use Rattle.placement_node.specs.Records.{read_entry}
use Rattle.placement_node.proofs.found.read_entries.Given as goal

abbrev pub invariant-loop-one : goal.invariant-loop-one
invariant-loop-one l = map entry_of l.entries.items ≡ map read_entry (entries_of l.yielded)
