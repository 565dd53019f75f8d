use Rattle.std.proofs.Common.{◌-◌, None, Option}
use Rattle.stamp_lanes.specs.declared.answer.KeptNumber.{KeptNumber}
use Rattle.wire_fields.specs.Fields.{many_at, in_any_order}
use Rattle.wire_fields.proofs.Loops.{Stands}
use Rattle.store_payloads.specs.Fields.{kept_number}
use Rattle.store_payloads.proofs.lanes.number_list_at.Given as goal

abbrev pub invariant-loop : goal.invariant-loop
invariant-loop l = (b : Option KeptNumber) × Stands (in_any_order kept_number) b l.numbers.items (l.count - l.counter) l.rest.now (many_at (in_any_order kept_number) None l.count l.fn.rest.now)
