use Rattle.std.proofs.Common.{sym, ◌∙◌}
use Rattle.actor_names.proofs.Slashes.{local_key_has_slash}
use Rattle.actor_names.proofs.actor_key.read_local_key.Goals as goal

pub second_piece-requires : goal.second_piece-requires
second_piece-requires c = local_key_has_slash c.args.text.now (sym c.local_key_fault.ensures ∙ c.in-None.is)
