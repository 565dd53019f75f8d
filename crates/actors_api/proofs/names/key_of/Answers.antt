use Rattle.std.proofs.Common.{◌≡◌, true, arith, rules}
use Rattle.std.specs.Str.{is_utf8}
use Rattle.std.proofs.lemmas.Grind.{common_steps}
use Rattle.std.proofs.lemmas.Str.{IsUtf8-from_is_utf8}
use Rattle.actors_api.proofs.names.key_of.Goals as goal

pub unwrap-requires : goal.unwrap-requires
unwrap-requires c =
    let tested : is_utf8 c.args.bytes.items ≡ true = first_of (search rules, grind (arith, common_steps)) in
    c.from_utf8.ensures.succeeds (IsUtf8-from_is_utf8 c.args.bytes.items tested)
