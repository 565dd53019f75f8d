use Rattle.std.proofs.Common.{◌≡◌, ◌++◌, take}
use Rattle.wire_fields.specs.Fields.{spell_all}
use Rattle.wire_fields.specs.Records.{op}
use Rattle.wire_fields.proofs.ops.put_op_list.Given as goal

abbrev pub invariant-loop-one : goal.invariant-loop-one
invariant-loop-one l = l.out.items ≡ l.initial.out.items ++ spell_all op.spell (take l.one-index l.ops)
