use Rattle.std.proofs.Common.{ap, ◌∙◌, ◌++◌}
use Rattle.http_edge.specs.Texts.{status_line, field_lines, ending, response_text}
use Rattle.http_edge.proofs.Appended.{on_ok, three}
use Rattle.http_edge.proofs.writing.add_response.Goals as goal

pub returns : goal.returns
unfolding response_text
returns c =
    let r = c.args.response.now in
    on_ok c.add_ending.result
    (λ e. three c.args.into.now.items c.add_status.new.into.items c.add_fields.new.into.items c.add_ending.new.into.items (status_line r.status) (field_lines r.fields) (ending r.status r.body) c.in_ok-add_status.ensures (c.in_ok-add_fields.ensures ∙ ap (λ l. c.add_status.new.into.items ++ field_lines l) c.as_slice.ensures) (e ∙ ap (λ l. c.add_fields.new.into.items ++ ending r.status l) c.as_slice-2.ensures))
    c.add_ending.ensures
