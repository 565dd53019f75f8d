use Rattle.std.proofs.Common.{◌≡◌, ◌∙◌, ◌<◌, ap, sym, length, true, false, Some, rules}
use Rattle.http_edge.specs.Fields.{is_same_word}
use Rattle.actors_api.proofs.Fields.{first_at, not_first_at}
use Rattle.actors_api.proofs.response.first_value.Goals as goal

pub returns-then-eq_ignore_ascii_case : goal.returns-then-eq_ignore_ascii_case
returns-then-eq_ignore_ascii_case c =
    let within : c.loop-field.field-index < length c.args.fields.now = c.loop-field-test.true in
    let same : is_same_word c.field-item.result.name c.args.name.now ≡ true = search rules in
    ap Some c.as_slice-then-eq_ignore_ascii_case.ensures ∙ sym (first_at c.args.name.now c.args.fields.now c.loop-field.field-index c.field-item.result within c.field-item.is same) ∙ c.loop-field.invariant

pub loop-field-preserved : goal.loop-field-preserved
loop-field-preserved c =
    let within : c.loop-field.field-index < length c.args.fields.now = c.loop-field-test.true in
    let other : is_same_word c.field-item.result.name c.args.name.now ≡ false = search rules in
    sym (not_first_at c.args.name.now c.args.fields.now c.loop-field.field-index c.field-item.result within c.field-item.is other) ∙ c.loop-field.invariant
