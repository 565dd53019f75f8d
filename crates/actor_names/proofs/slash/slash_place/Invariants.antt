use Rattle.std.proofs.Common.{◌≡◌, ◌+◌, length, drop}
use Rattle.actor_names.specs.Names.{before_slash}
use Rattle.actor_names.proofs.slash.slash_place.Given as goal

abbrev pub invariant-loop-at : goal.invariant-loop-at
invariant-loop-at l = length (before_slash l.text) ≡ l.at + length (before_slash (drop l.at l.text))
