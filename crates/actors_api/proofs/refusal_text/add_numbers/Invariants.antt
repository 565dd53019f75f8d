use Rattle.std.proofs.Common.{◌≡◌, ◌++◌, drop}
use Rattle.std.specs.String.{string_bytes}
use Rattle.actors_api.specs.Refusals.{spaced_numbers}
use Rattle.actors_api.proofs.refusal_text.add_numbers.Given as goal

-- with the numbers that are left, the text so far is the whole text
abbrev pub invariant-loop-number : goal.invariant-loop-number
invariant-loop-number l = string_bytes l.into ++ spaced_numbers (drop l.number-index l.numbers) ≡ string_bytes l.fn.into ++ spaced_numbers l.numbers
