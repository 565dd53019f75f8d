use Rattle.std.proofs.Common.{take, None}
use Rattle.wire_fields.specs.Fields.{in_any_order, AllFit}
use Rattle.wire_fields.specs.Records.{op}
use Rattle.exchanges.proofs.rows.fits_each.Given as goal

abbrev pub invariant-loop-one : goal.invariant-loop-one
invariant-loop-one l = AllFit (in_any_order op) None (take l.one-index l.ops)
