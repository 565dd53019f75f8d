use Rattle.std.proofs.Common.{◌≡◌, ◌++◌, take}
use Rattle.wire_fields.specs.Fields.{spell_all}
use Rattle.placement_payloads.specs.Payloads.{local_place, member_local}
use Rattle.placement_payloads.proofs.members.put_member_list.Given as goal

abbrev pub invariant-loop-one : goal.invariant-loop-one
invariant-loop-one l = l.out.items ≡ l.initial.out.items ++ spell_all (λ m. local_place.spell (member_local m)) (take l.one-index l.members)
