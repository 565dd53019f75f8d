use Rattle.std.proofs.Common.{◌≡◌, ◌<◌, ◌≤◌, ◌+◌, ◌*◌, drop}
use Rattle.schedule_text.specs.Numbers.{billionths_from, behind_billionths, first_weight, billionth}
use Rattle.schedule_text.proofs.numbers.billionths_at.Given as goal

abbrev pub invariant-loop-at : goal.invariant-loop-at
invariant-loop-at l = (billionths_from l.weight l.number (drop l.at l.text) ≡ billionths_from first_weight 0 l.text) × (behind_billionths l.weight (drop l.at l.text) ≡ behind_billionths first_weight l.text) × (l.number < billionth) × (l.number + l.weight * 10 ≤ billionth)
