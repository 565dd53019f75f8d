use Rattle.std.proofs.Common.{None}
use Rattle.wire_fields.specs.Fields.{in_any_order}
use Rattle.wire_fields.proofs.Loops.{fits_at, wrote_more}
use Rattle.placement_payloads.specs.Payloads.{local_place, local_member, member_local}
use Rattle.placement_payloads.proofs.members.put_member_list.Goals as goal

pub put_local_member-requires : goal.put_local_member-requires
unfolding local_member
put_local_member-requires c = rw c.one-item.is (fits_at (in_any_order (local_member c.requires.0)) (λ m. local_place.Fits (member_local m)) (λ b m h. h.0) None c.args.members.now c.loop-one.one-index _ c.requires.1 c.loop-one-test.true)

pub loop-one-preserved : goal.loop-one-preserved
loop-one-preserved c = wrote_more (λ m. local_place.spell (member_local m)) c.args.members.now c.loop-one.one-index _ _ c.loop-one.out.items c.put_local_member.new.out.items c.loop-one-test.true c.one-item.is c.loop-one.invariant c.in_ok-put_local_member.ensures
