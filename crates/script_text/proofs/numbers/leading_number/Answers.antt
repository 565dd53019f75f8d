use Rattle.std.proofs.Common.{◌≡◌, true, get_or, sym, ◌∙◌, arith}
use Rattle.lists_and_limits.specs.Decimals.{is_digit}
use Rattle.script_text.proofs.NumberLemmas.{digits_more, value_more, digit_range}
use Rattle.script_text.proofs.numbers.leading_number.Goals as goal

pub loop-at-preserved : goal.loop-at-preserved
loop-at-preserved c =
    let before = c.loop-at.invariant in
    let tested = c.is_ascii_digit.ensures.value in
    let digit : is_digit (get_or c.args.text.now c.loop-at.at 0) ≡ true = sym tested ∙ c.if-not-is_ascii_digit.false in
    let below = c.loop-at-test.true in
    let value = value_more c.args.text.now c.loop-at.at below in
    record {
      digits = digits_more c.args.text.now c.loop-at.at below before.digits digit;
      value = omega (arith, value, before.value);
      low = omega (arith, (digit_range (get_or c.args.text.now c.loop-at.at 0) digit).1);
    }
