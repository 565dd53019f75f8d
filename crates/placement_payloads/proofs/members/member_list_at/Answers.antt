use Rattle.std.proofs.Common.{Some}
use Rattle.std.proofs.lemmas.Result.{err_from_is_err_and}
use Rattle.wire_fields.specs.Fields.{in_any_order}
use Rattle.wire_fields.proofs.Loops.{goes_on, ends, is_done}
use Rattle.placement_payloads.specs.Payloads.{local_member}
use Rattle.placement_payloads.proofs.members.member_list_at.Goals as goal

pub returns-in_err-member : goal.returns-in_err-member
returns-in_err-member c =
    let p = err_from_is_err_and c.from_residual.result c.from_residual.ensures.1 in
    let so_far = c.loop.invariant in
    rw (p.1, p.2) (ends (in_any_order (local_member c.args.space.now)) so_far.0 c.in_err-member.field-0.0 c.loop.members.items c.args.count c.loop.counter c.loop.rest.now _ c.loop-test.true c.in_err-member.ensures so_far.1)

pub loop-preserved : goal.loop-preserved
loop-preserved c =
    let member = c.in_ok-member.member in
    let so_far = c.loop.invariant in
    (Some member, rw c.in_ok-push.ensures.items (goes_on (in_any_order (local_member c.args.space.now)) so_far.0 c.loop.members.items c.args.count c.loop.counter c.loop.rest.now member c.local_member_at.new.rest.now _ c.loop-test.true c.in_ok-member.ensures so_far.1))

pub returns : goal.returns
returns c =
    let so_far = c.loop.invariant in
    is_done (in_any_order (local_member c.args.space.now)) so_far.0 c.loop.members.items c.args.count c.loop.counter c.loop.rest.now _ c.loop-test.false so_far.1
