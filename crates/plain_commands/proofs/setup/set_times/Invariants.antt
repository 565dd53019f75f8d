use Rattle.std.proofs.Common.{◌≡◌, ◌++◌, map, take, drop}
use Rattle.plain_commands.specs.SetupTold.{timed}
use Rattle.plain_commands.proofs.setup.set_times.Given as goal

abbrev pub invariant-loop-kind : goal.invariant-loop-kind
invariant-loop-kind l = l.kind-items ≡ map (timed l.idle_ms l.drain_ms) (take l.kind-index l.initial.kind-items) ++ drop l.kind-index l.initial.kind-items
