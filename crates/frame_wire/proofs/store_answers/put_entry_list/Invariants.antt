use Rattle.std.proofs.Common.{◌≡◌, ◌++◌, take}
use Rattle.wire_fields.specs.Fields.{spell_all}
use Rattle.frame_wire.specs.StoreParts.{due_entry}
use Rattle.frame_wire.proofs.store_answers.put_entry_list.Given as goal

abbrev pub invariant-loop-one : goal.invariant-loop-one
invariant-loop-one l = l.out.items ≡ l.initial.out.items ++ spell_all due_entry.spell (take l.one-index l.entries)
