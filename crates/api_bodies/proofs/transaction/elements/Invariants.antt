use Rattle.std.proofs.Common.{◌≡◌, take, length}
use Rattle.api_bodies.specs.Transactions.{elements}
use Rattle.api_bodies.proofs.transaction.elements.Given as goal

-- the elements so far were taken
abbrev pub invariant-loop-index : goal.invariant-loop-index
invariant-loop-index l = record { taken : l.items.items ≡ take l.index (elements l.whole); many : l.count ≡ length (elements l.whole) }
