use Rattle.std.proofs.Common.{◌≡◌, ◌-◌}
use Rattle.plain_commands.proofs.Moments.{lines_left}
use Rattle.plain_commands.proofs.schedule.push_firings.Given as goal

abbrev pub invariant-loop : goal.invariant-loop
invariant-loop l = lines_left l.text.items (l.count - l.counter) l.rest l.next ≡ lines_left l.fn.text.items l.fn.count l.fn.schedule l.fn.schedule.first
