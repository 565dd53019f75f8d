use Rattle.std.proofs.Common.{◌≡◌, ◌+◌, length, drop}
use Rattle.std.specs.Prelude.{take_while}
use Rattle.lists_and_limits.specs.Decimals.{is_digit}
use Rattle.actor_names.proofs.numeral.digits_end.Given as goal

abbrev pub invariant-loop-at : goal.invariant-loop-at
invariant-loop-at l = l.fn.start + length (take_while is_digit (drop l.fn.start l.text)) ≡ l.at + length (take_while is_digit (drop l.at l.text))
