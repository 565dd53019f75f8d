-- The lines of the remaining moments of a schedule.
use Rattle.std.proofs.Common.{◌≡◌, ℕ, List, ◌++◌, Option, None, Some, append-nil, ap, ◌∙◌}
use Rattle.schedule_text.specs.declared.advance.Schedule.{Schedule}
use Rattle.schedule_text.specs.Firing.{firings_by}
use Rattle.schedule_text.proofs.Firings.{firings_from-zero}
use Rattle.plain_commands.specs.Schedule.{moment_lines}

-- the lines so far and those that remain
abbrev pub lines_left : List ℕ → ℕ → Schedule → Option ℕ → List ℕ
lines_left text most rest next = text ++ moment_lines (firings_by most rest next)

pub lines_left-zero : (text : List ℕ) (rest : Schedule) (next : Option ℕ) → lines_left text 0 rest next ≡ text
lines_left-zero text rest None = append-nil text
lines_left-zero text rest (Some moment) = ap (λ ms. text ++ moment_lines ms) (firings_from-zero rest moment) ∙ append-nil text
