use Rattle.std.proofs.Common.{◌∙◌}
use Rattle.lists_and_limits.proofs.Digits.{walk_ends, walk_stops}
use Rattle.lists_and_limits.proofs.decimal.digits_at_most.Goals as goal

pub returns-in_err-number : goal.returns-in_err-number
returns-in_err-number c = c.from_residual.ensures ∙ walk_stops _ _ _ c.args.text.now c.loop-byte.invariant.1 c.loop-byte-test.true c.in_err-number.ensures

pub returns : goal.returns
returns c = walk_ends _ _ _ c.args.text.now c.loop-byte.invariant.1 c.loop-byte-test.false
