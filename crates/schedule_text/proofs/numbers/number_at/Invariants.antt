use Rattle.std.proofs.Common.{◌≡◌, true, drop}
use Rattle.schedule_text.specs.Numbers.{number_from, behind_digits}
use Rattle.schedule_text.proofs.numbers.number_at.Given as goal

abbrev pub invariant-loop-at : goal.invariant-loop-at
invariant-loop-at l = (number_from true l.number (drop l.at l.text) ≡ number_from true 0 l.text) × (behind_digits (drop l.at l.text) ≡ behind_digits l.text)
