use Rattle.std.proofs.Common.{◌≡◌, ◌+◌, drop, option_map}
use Rattle.actor_names.specs.Names.{space_end}
use Rattle.actor_names.proofs.spaced.space_end.Given as goal

abbrev pub invariant-loop-at : goal.invariant-loop-at
invariant-loop-at l = space_end l.text ≡ option_map (λ n. l.at + n) (space_end (drop l.at l.text))
