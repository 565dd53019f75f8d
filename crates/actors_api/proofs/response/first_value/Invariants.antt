use Rattle.std.proofs.Common.{◌≡◌, drop}
use Rattle.actors_api.specs.Responses.{first_value}
use Rattle.actors_api.proofs.response.first_value.Given as goal

-- no field so far has the name
abbrev pub invariant-loop-field : goal.invariant-loop-field
invariant-loop-field l = first_value l.name (drop l.field-index l.fields) ≡ first_value l.name l.fields
