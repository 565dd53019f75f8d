use Rattle.std.proofs.Common.{Some}
use Rattle.std.proofs.lemmas.Result.{err_from_is_err_and}
use Rattle.wire_fields.specs.Fields.{in_any_order}
use Rattle.wire_fields.proofs.Loops.{goes_on, ends, is_done}
use Rattle.store_payloads.specs.Fields.{kept_number}
use Rattle.store_payloads.proofs.lanes.number_list_at.Goals as goal

pub returns-in_err-number : goal.returns-in_err-number
returns-in_err-number c =
    let p = err_from_is_err_and c.from_residual.result c.from_residual.ensures.1 in
    let so_far = c.loop.invariant in
    rw (p.1, p.2) (ends (in_any_order kept_number) so_far.0 c.in_err-number.field-0.0 c.loop.numbers.items c.args.count c.loop.counter c.loop.rest.now _ c.loop-test.true c.in_err-number.ensures so_far.1)

pub loop-preserved : goal.loop-preserved
loop-preserved c =
    let so_far = c.loop.invariant in (
      Some c.in_ok-number.field-0,
      rw c.in_ok-push.ensures.items (goes_on (in_any_order kept_number) so_far.0 c.loop.numbers.items c.args.count c.loop.counter c.loop.rest.now c.in_ok-number.field-0 c.number_at.new.rest.now _ c.loop-test.true c.in_ok-number.ensures so_far.1),
    )

pub returns : goal.returns
returns c =
    let so_far = c.loop.invariant in
    is_done (in_any_order kept_number) so_far.0 c.loop.numbers.items c.args.count c.loop.counter c.loop.rest.now _ c.loop-test.false so_far.1
