use Rattle.std.proofs.Common.{◌-◌, None, Option}
use Rattle.wire_fields.specs.Fields.{many_at, in_any_order}
use Rattle.wire_fields.proofs.Loops.{Stands}
use Rattle.placement_payloads.specs.Gives.{entries_of}
use Rattle.placement_payloads.specs.Payloads.{Entry, entry}
use Rattle.placement_payloads.proofs.payload.entry_list_at.Given as goal

abbrev pub invariant-loop : goal.invariant-loop
invariant-loop l = (b : Option Entry) × Stands (in_any_order entry) b (entries_of l.entries.items) (l.count - l.counter) l.rest.now (many_at (in_any_order entry) None l.count l.fn.rest.now)
