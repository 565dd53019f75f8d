use Rattle.std.proofs.Common.{◌≡◌, Some, refl}
use Rattle.std.proofs.lemmas.Result.{err_from_is_err_and}
use Rattle.wire_fields.specs.Fields.{in_any_order}
use Rattle.frame_wire.specs.StoreParts.{due_entry}
use Rattle.wire_fields.proofs.Loops.{goes_on, ends, is_done}
use Rattle.frame_wire.proofs.store_answers.entry_list_at.Goals as goal

pub returns-in_err-entry : goal.returns-in_err-entry
returns-in_err-entry c =
    let p = err_from_is_err_and c.from_residual.result c.from_residual.ensures.1 in
    let so_far = c.loop.invariant in
    rw (p.1, p.2) (ends (in_any_order due_entry) so_far.0 c.in_err-entry.field-0.0 c.loop.entries.items c.args.count c.loop.counter c.loop.rest.now _ c.loop-test.true c.in_err-entry.ensures so_far.1)

pub loop-preserved : goal.loop-preserved
loop-preserved c =
    let one = c.in_ok-entry.entry in
    let so_far = c.loop.invariant in
    (Some one, rw c.in_ok-push.ensures.items (goes_on (in_any_order due_entry) so_far.0 c.loop.entries.items c.args.count c.loop.counter c.loop.rest.now one c.due_entry_at.new.rest.now _ c.loop-test.true c.in_ok-entry.ensures so_far.1))

pub returns : goal.returns
returns c =
    let so_far = c.loop.invariant in
    is_done (in_any_order due_entry) so_far.0 c.loop.entries.items c.args.count c.loop.counter c.loop.rest.now _ c.loop-test.false so_far.1
