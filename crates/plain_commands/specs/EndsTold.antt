-- How the program ends a line whose event is refused.
use Rattle.std.specs.Prelude.{◌≡◌, ℕ}
use Rattle.world_events.specs.declared.error.WorldError.{WorldError}
use Rattle.world_events.specs.declared.error.WorldError.TheVariants.{Spent, Dishonest, WrongNumber, OutOfMemory}
use Rattle.plain_commands.specs.declared.line_end.LineEnd.{LineEnd}
use Rattle.plain_commands.specs.declared.line_end.LineEnd.TheVariants as ending
use Rattle.plain_commands.specs.Replay.{refused_at}

-- at the column at which the event is refused, or out of memory
abbrev pub EndsAt : WorldError → ℕ → LineEnd → Type 0
EndsAt OutOfMemory column end = end ≡ ending.OutOfMemory
EndsAt (Spent count) column end = end ≡ ending.Refused (refused_at column (Spent count))
EndsAt (Dishonest member) column end = end ≡ ending.Refused (refused_at column (Dishonest member))
EndsAt (WrongNumber next) column end = end ≡ ending.Refused (refused_at column (WrongNumber next))
