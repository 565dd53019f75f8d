use Rattle.std.proofs.Common.{Some, ap, arith}
use Rattle.std.proofs.lemmas.Grind.{common_steps}
use Rattle.actor_names.proofs.Slashes.{after_slash-some}
use Rattle.actor_names.proofs.slash.second_piece.Goals as goal

pub returns : goal.returns
returns c = rw (after_slash-some c.args.text.now c.requires, ← c.slash_place-end.ensures.place) (ap Some (grind (arith, common_steps)))
