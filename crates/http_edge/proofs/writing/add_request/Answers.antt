use Rattle.std.proofs.Common.{ap, ◌∙◌, ◌++◌}
use Rattle.http_edge.specs.Texts.{request_line, field_lines, sized, request_text}
use Rattle.http_edge.proofs.Appended.{on_ok, three}
use Rattle.http_edge.proofs.writing.add_request.Goals as goal

pub returns : goal.returns
unfolding request_text
returns c =
    let q = c.args.request.now in
    let i = c.args.into.now.items in
    on_ok c.add_sized.result
    (λ e. three i c.add_request_line.new.into.items c.add_fields.new.into.items c.add_sized.new.into.items (request_line q.method q.target) (field_lines q.fields) (sized q.body)
    (c.in_ok-add_request_line.ensures ∙ ap (λ l. i ++ request_line l c.as_slice-2.result.now) c.as_slice.ensures ∙ ap (λ l. i ++ request_line q.method l) c.as_slice-2.ensures)
    (c.in_ok-add_fields.ensures ∙ ap (λ l. c.add_request_line.new.into.items ++ field_lines l) c.as_slice-3.ensures)
    (e ∙ ap (λ l. c.add_fields.new.into.items ++ sized l) c.as_slice-4.ensures))
    c.add_sized.ensures
