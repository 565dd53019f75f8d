use Rattle.std.proofs.Common.{Ok, sym, ap, ◌∙◌}
use Rattle.std.proofs.lemmas.Result.{err_from_is_err_and}
use Rattle.wire_fields.proofs.TextLaws.{text_read, text_refused, text_fails}
use Rattle.wire_fields.proofs.texts.text_at.Goals as goal

pub returns-in_err-bytes : goal.returns-in_err-bytes
returns-in_err-bytes c =
    let p = err_from_is_err_and c.from_residual.result c.from_residual.ensures.1 in
    rw (p.1, p.2) (text_fails c.args.rest.now.now c.in_err-bytes.field-0.0 c.in_err-bytes.ensures)

pub returns-in-Err : goal.returns-in-Err
returns-in-Err c = text_refused c.args.rest.now.now c.in_ok-bytes.bytes.now c.middle_bytes_at.new.rest.now c.in_ok-bytes.ensures c.in-Err.ensures.cases.0

pub returns-in-Ok-from_str : goal.returns-in-Ok-from_str
returns-in-Ok-from_str c =
    text_read c.args.rest.now.now c.in_ok-bytes.bytes.now c.middle_bytes_at.new.rest.now c.in_ok-bytes.ensures c.in-Ok.ensures.cases.1
    ∙ ap (λ l. Ok (l, c.middle_bytes_at.new.rest.now)) (sym (c.in-Ok-from_str.ensures.ok ∙ c.in-Ok.ensures.cases.0))
