use Rattle.std.proofs.Common.{◌≡◌, ℕ, length}
use Rattle.lists_and_limits.specs.Decimals.{digits_number}
use Rattle.command_words.proofs.count.without_zeros.Given as goal

abbrev pub invariant-loop-rest : goal.invariant-loop-rest
invariant-loop-rest l = (most : ℕ) → digits_number most l.rest ≡ digits_number most l.fn.text

abbrev pub decreases-loop-rest : goal.decreases-loop-rest
decreases-loop-rest l = length l.rest
