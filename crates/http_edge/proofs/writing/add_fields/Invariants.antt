use Rattle.std.proofs.Common.{◌≡◌, ◌++◌, drop}
use Rattle.http_edge.specs.Texts.{field_lines}
use Rattle.http_edge.proofs.writing.add_fields.Given as goal

-- the lines so far, and those of the fields still to be written
abbrev pub invariant-loop-field : goal.invariant-loop-field
invariant-loop-field l = l.into.items ++ field_lines (drop l.field-index l.fields) ≡ l.initial.into.items ++ field_lines l.fields
