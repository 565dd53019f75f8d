use Rattle.std.specs.Prelude.{◌≡◌, length, vec_capacity}
use Rattle.outside_tests.proofs.groups.adder.AdderGrouped.step_all.Given as goal

abbrev pub invariant-loop-number : goal.invariant-loop-number
invariant-loop-number l = (length l.answers.items ≡ l.number-index) × (vec_capacity l.answers ≡ vec_capacity l.fn.answers)
