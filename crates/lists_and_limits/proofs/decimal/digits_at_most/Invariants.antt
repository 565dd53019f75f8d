use Rattle.std.proofs.Common.{◌≡◌, ◌≤◌, drop}
use Rattle.lists_and_limits.proofs.Digits.{digits_from}
use Rattle.lists_and_limits.proofs.decimal.digits_at_most.Given as goal

abbrev pub invariant-loop-byte : goal.invariant-loop-byte
invariant-loop-byte l = (l.number ≤ l.most) × (digits_from l.most 0 l.text ≡ digits_from l.most l.number (drop l.byte-index l.text))
