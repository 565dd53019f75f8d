use Rattle.std.proofs.Common.{◌≡◌, ◌+◌, length, drop}
use Rattle.actors_api.specs.Paths.{before}
use Rattle.actors_api.proofs.path.place_of.Given as goal

-- the byte isn't among those so far
abbrev pub invariant-loop-at : goal.invariant-loop-at
invariant-loop-at l = length (before l.stop l.text) ≡ l.at + length (before l.stop (drop l.at l.text))
