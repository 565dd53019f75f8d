use Rattle.std.proofs.Common.{◌≡◌, Some, Ok, refl, subst}
use Rattle.std.proofs.lemmas.Result.{err_from_is_err_and}
use Rattle.wire_fields.specs.Gives.{Fails}
use Rattle.wire_fields.specs.Parts.{host_after, host_behind}
use Rattle.wire_fields.proofs.Loops.{goes_on, ends, is_done}
use Rattle.wire_fields.proofs.members.host_list_at.Goals as goal

pub returns-in_err-host : goal.returns-in_err-host
returns-in_err-host c =
    let p = err_from_is_err_and c.from_residual.result c.from_residual.ensures.1 in
    let so_far = c.loop.invariant in
    let failed = subst (λ m. Fails c.in_err-host.field-0.0 ((host_after m).at c.loop.rest.now)) so_far.1 c.in_err-host.ensures in
    rw (p.1, p.2) (ends host_behind so_far.0 c.in_err-host.field-0.0 c.loop.hosts.items c.args.count c.loop.counter c.loop.rest.now _ c.loop-test.true failed so_far.2)

pub loop-preserved : goal.loop-preserved
loop-preserved c =
    let so_far = c.loop.invariant in
    let one = c.in_ok-host.host in
    let read = subst (λ m. (host_after m).at c.loop.rest.now ≡ Ok (one, c.host_after_at.new.rest.now)) so_far.1 c.in_ok-host.ensures in
    (Some one, refl, rw c.in_ok-push.ensures.items (goes_on host_behind so_far.0 c.loop.hosts.items c.args.count c.loop.counter c.loop.rest.now one c.host_after_at.new.rest.now _ c.loop-test.true read so_far.2))

pub returns : goal.returns
returns c =
    let so_far = c.loop.invariant in
    is_done host_behind so_far.0 c.loop.hosts.items c.args.count c.loop.counter c.loop.rest.now _ c.loop-test.false so_far.2
