use Rattle.std.proofs.Common.{◌≡◌, ◌++◌, map, take}
use Rattle.wire_fields.specs.Fields.{spell_all}
use Rattle.placement_payloads.specs.Payloads.{entry}
use Rattle.placement_node.specs.Records.{spelled_entry}
use Rattle.placement_node.proofs.written.put_entries.Given as goal

abbrev pub invariant-loop-at : goal.invariant-loop-at
invariant-loop-at l = l.out.items ≡ l.fn.out.items ++ spell_all entry.spell (map spelled_entry (take l.at l.placement.recent))
