use Rattle.std.proofs.Common.{◌≡◌, ◌-◌, None, Option}
use Rattle.frame_wire.specs.declared.store_answer.DueEntry.{DueEntry}
use Rattle.wire_fields.specs.Fields.{many_at, in_any_order}
use Rattle.frame_wire.specs.StoreParts.{due_entry}
use Rattle.wire_fields.proofs.Loops.{Stands}
use Rattle.frame_wire.proofs.store_answers.entry_list_at.Given as goal

abbrev pub invariant-loop : goal.invariant-loop
invariant-loop l = (b : Option DueEntry) × Stands (in_any_order due_entry) b l.entries.items (l.count - l.counter) l.rest.now (many_at (in_any_order due_entry) None l.count l.fn.rest.now)
