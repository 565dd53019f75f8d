use Rattle.std.proofs.Common.{◌≡◌, ◌≤◌, true, take}
use Rattle.std.specs.List.{list_all}
use Rattle.lists_and_limits.specs.Decimals.{is_digit, decimal_value}
use Rattle.script_text.specs.Reading.{greatest_number}
use Rattle.script_text.proofs.numbers.leading_number.Given as goal

abbrev pub invariant-loop-at : goal.invariant-loop-at
invariant-loop-at l =
    record {
      digits : list_all is_digit (take l.at l.text) ≡ true;
      value : l.number ≡ decimal_value (take l.at l.text);
      low : l.number ≤ greatest_number;
    }
