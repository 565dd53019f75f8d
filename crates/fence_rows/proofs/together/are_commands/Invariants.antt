use Rattle.std.proofs.Common.{◌≡◌, drop}
use Rattle.fence_rows.specs.Together.{are_commands}
use Rattle.fence_rows.proofs.together.are_commands.Given as goal

abbrev pub invariant-loop-event : goal.invariant-loop-event
invariant-loop-event l = are_commands l.events ≡ are_commands (drop l.event-index l.events)
