use Rattle.std.proofs.Common.{◌≡◌, ◌≤◌, None}
use Rattle.step_gate.specs.Gates.{IsSeatOf}
use Rattle.placement_node.specs.Node.{NodeAllows}
use Rattle.placement_sessions.proofs.StateGoing.{Progress}
use Rattle.placement_sessions.proofs.state_session.placement_state_session.Given as goal

-- each request so far was answered whole; the bytes behind the last one are those that the reader keeps
abbrev pub invariant-loop-requests : goal.invariant-loop-requests
invariant-loop-requests g l = record {
  progress : Progress l.initial.seat l.seat (g.K.Clock.shown l.initial.clock) (g.K.Clock.shown l.clock) (g.C.Source.read_traffic l.initial.conn) (g.C.Source.read_traffic l.conn) l.reader.kept l.requests;
  seat : IsSeatOf NodeAllows l.gate l.seat;
  whole : l.reader.failed ≡ None;
  faults : g.C.Source.read_faults l.initial.conn ≤ g.C.Source.read_faults l.conn;
}
