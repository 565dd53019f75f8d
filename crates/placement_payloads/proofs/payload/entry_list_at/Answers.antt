use Rattle.std.proofs.Common.{◌∷◌, [], Some, ap, ◌∙◌}
use Rattle.std.proofs.lemmas.Result.{err_from_is_err_and}
use Rattle.std.proofs.lemmas.List.{map-append}
use Rattle.wire_fields.specs.Fields.{in_any_order}
use Rattle.wire_fields.proofs.Loops.{goes_on, ends, is_done}
use Rattle.placement_payloads.specs.Gives.{entry_of, entries_of}
use Rattle.placement_payloads.specs.Payloads.{entry}
use Rattle.placement_payloads.proofs.payload.entry_list_at.Goals as goal

pub returns-in_err-entry : goal.returns-in_err-entry
returns-in_err-entry c =
    let p = err_from_is_err_and c.from_residual.result c.from_residual.ensures.1 in
    let so_far = c.loop.invariant in
    rw (p.1, p.2) (ends (in_any_order entry) so_far.0 c.in_err-entry.field-0.0 (entries_of c.loop.entries.items) c.args.count c.loop.counter c.loop.rest.now _ c.loop-test.true c.in_err-entry.ensures so_far.1)

pub loop-preserved : goal.loop-preserved
loop-preserved c =
    let one = c.in_ok-entry.entry in
    let so_far = c.loop.invariant in (
      Some (entry_of one),
      rw (ap entries_of c.in_ok-push.ensures.items ∙ map-append entry_of c.loop.entries.items (one ∷ [])) (goes_on (in_any_order entry) so_far.0 (entries_of c.loop.entries.items) c.args.count c.loop.counter c.loop.rest.now (entry_of one) c.entry_at.new.rest.now _ c.loop-test.true c.in_ok-entry.ensures so_far.1),
    )

pub returns : goal.returns
returns c =
    let so_far = c.loop.invariant in
    is_done (in_any_order entry) so_far.0 (entries_of c.loop.entries.items) c.args.count c.loop.counter c.loop.rest.now _ c.loop-test.false so_far.1
