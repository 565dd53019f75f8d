use Rattle.std.proofs.Common.{◌≡◌, drop}
use Rattle.app_texts.specs.Texts.{first_value}
use Rattle.app_texts.proofs.fields.first_value.Given as goal

abbrev pub invariant-loop-field : goal.invariant-loop-field
invariant-loop-field l = first_value l.name (drop l.field-index l.fields) ≡ first_value l.name l.fields
