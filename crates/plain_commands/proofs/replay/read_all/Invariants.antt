use Rattle.std.proofs.Common.{◌≤◌, ◌+◌, ◌-◌, vec_len}
use Rattle.plain_commands.specs.Replay.{most_bytes}
use Rattle.plain_commands.specs.ReplayTold.{HasRead}
use Rattle.plain_commands.proofs.replay.read_all.Given as goal

abbrev pub invariant-loop-bytes : goal.invariant-loop-bytes
invariant-loop-bytes g l =
    record {
      within : vec_len l.bytes ≤ most_bytes + 1;
      read : HasRead (g.I.Source.remaining l.initial.input) (g.I.Source.remaining l.input) l.bytes.items;
      faults : g.I.Source.read_faults l.initial.input ≤ g.I.Source.read_faults l.input;
    }

abbrev pub decreases-loop-bytes : goal.decreases-loop-bytes
decreases-loop-bytes g l = most_bytes + 1 - vec_len l.bytes
