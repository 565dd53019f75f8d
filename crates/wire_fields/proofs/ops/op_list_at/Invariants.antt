use Rattle.std.proofs.Common.{◌≡◌, ◌-◌, None, Option}
use Rattle.state_rows.specs.declared.op.StateOp.{StateOp}
use Rattle.wire_fields.specs.Fields.{many_at, in_any_order}
use Rattle.wire_fields.specs.Records.{op}
use Rattle.wire_fields.proofs.Loops.{Stands}
use Rattle.wire_fields.proofs.ops.op_list_at.Given as goal

abbrev pub invariant-loop : goal.invariant-loop
invariant-loop l = (b : Option StateOp) × Stands (in_any_order op) b l.ops.items (l.count - l.counter) l.rest.now (many_at (in_any_order op) None l.count l.fn.rest.now)
