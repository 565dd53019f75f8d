use Rattle.std.proofs.Common.{◌≡◌, Some, None, sym, ◌∙◌}
use Rattle.actor_names.specs.Names.{node_fault, before_slash}
use Rattle.lists_and_limits.specs.Limits.{last_number}
use Rattle.actor_names.specs.Numerals.{boot_fault}
use Rattle.actor_names.proofs.Slashes.{has_slash, second_sound}
use Rattle.actor_names.proofs.Numerals.{number_fault-none, IsNumber}
use Rattle.actor_names.proofs.member.read_local_member.Goals as goal

pub second_piece-requires : goal.second_piece-requires
second_piece-requires c = has_slash c.args.text.now (node_fault (before_slash c.args.text.now)) boot_fault (sym c.local_member_fault.ensures ∙ c.in-None.is)

pub unwrap-boot-requires : goal.unwrap-boot-requires
unwrap-boot-requires c =
    let sound : boot_fault c.second_piece.result.now ≡ None = second_sound c.args.text.now c.second_piece.result.now (node_fault (before_slash c.args.text.now)) boot_fault (sym c.local_member_fault.ensures ∙ c.in-None.is) c.second_piece.ensures in
    let number : IsNumber 1 last_number c.second_piece.result.now = number_fault-none 1 4611686018427387904 c.second_piece.result.now sound in
    let is : c.read_decimal.result ≡ Some number.value = c.read_decimal.ensures ∙ number.reads in
    rw is
