-- The limit of numbers that are drawn or counted one by one. Own.
use Rattle.std.specs.Prelude.{ℕ, ◌^◌}

-- the last of them
abbrev pub last_number : ℕ
last_number = 2 ^ 62
