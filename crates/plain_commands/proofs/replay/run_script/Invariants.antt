use Rattle.std.proofs.Common.{◌≡◌, ◌++◌, ◌+◌, ◌≤◌, ℕ, List, length}
use Rattle.script_text.specs.Lines.{lines_of}
use Rattle.plain_commands.specs.Scripts.{ScriptLog, Unread}
use Rattle.plain_commands.specs.Replay.{run_lines}
use Rattle.plain_commands.specs.ReplayTold.{IsOf, Writes}
use Rattle.plain_commands.proofs.replay.run_script.Given as goal

abbrev pub invariant-loop-rest : goal.invariant-loop-rest
invariant-loop-rest g l =
    record {
      written : List ℕ;
      log : ScriptLog;
      is_of : IsOf log l.state;
      held : Writes (g.W.Sink.contents l.initial.output) (g.W.Sink.contents l.output) written;
      text : (written ++ l.transcript) ++ (run_lines l.number log (lines_of l.rest)).text ≡ (run_lines 1 Unread (lines_of l.script)).text;
      status : (run_lines l.number log (lines_of l.rest)).status ≡ (run_lines 1 Unread (lines_of l.script)).status;
      within : l.number + length l.rest ≤ length l.script + 1;
      faults : g.W.Sink.write_faults l.initial.output ≤ g.W.Sink.write_faults l.output;
    }

abbrev pub decreases-loop-rest : goal.decreases-loop-rest
decreases-loop-rest g l = length l.rest
