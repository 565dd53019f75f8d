use Rattle.std.proofs.Common.{◌≡◌, ◌++◌, take}
use Rattle.wire_fields.specs.Fields.{spell_all}
use Rattle.store_payloads.specs.Fields.{kept_number}
use Rattle.store_payloads.proofs.lanes.put_piece.Given as goal

abbrev pub invariant-loop-number : goal.invariant-loop-number
invariant-loop-number l = l.out.items ≡ l.initial.out.items ++ spell_all kept_number.spell (take l.number-index l.numbers)
