use Rattle.std.proofs.Common.{◌∙◌, ap, take}
use Rattle.actor_names.proofs.Slashes.{take-before_slash}
use Rattle.actor_names.proofs.slash.first_piece.Goals as goal

pub returns : goal.returns
returns c = ap (λ n. take n c.args.text.now) c.slash_place-end.ensures.place ∙ take-before_slash c.args.text.now
