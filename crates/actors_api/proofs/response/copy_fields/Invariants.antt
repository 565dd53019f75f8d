use Rattle.std.proofs.Common.{◌≡◌, take}
use Rattle.actors_api.proofs.response.copy_fields.Given as goal

-- the fields so far are copied
abbrev pub invariant-loop-field : goal.invariant-loop-field
invariant-loop-field l = l.copies.items ≡ take l.field-index l.fields
