use Rattle.std.proofs.Common.{◌≤◌}
use Rattle.frame_session.proofs.Turning.{Progress}
use Rattle.frame_session.proofs.session.frame_session.Given as goal

-- each frame so far was asked and was answered whole; the bytes behind the last one are those that the reader keeps
abbrev pub invariant-loop : goal.invariant-loop
invariant-loop g l = record {
  progress : Progress g.G.Askable.made g.G.Askable.known g.A.AnswersFrames.event_of g.A.AnswersFrames.answer_of g.A.AnswersFrames.breaks_off l.initial.seat l.seat (g.K.Clock.shown l.initial.clock) (g.K.Clock.shown l.clock) (g.C.Source.read_traffic l.initial.conn) (g.C.Source.read_traffic l.conn) l.reader l.faulty l.requests;
  seat : g.G.Askable.seats l.gate l.seat;
  faults : g.C.Source.read_faults l.initial.conn ≤ g.C.Source.read_faults l.conn;
}
