use Rattle.std.proofs.Common.{◌≡◌, ◌≤◌, List, []}
use Rattle.http_session.proofs.Sessions.{Progress}
use Rattle.sidecar_node.specs.Nodes.{IsSeatsOf}
use Rattle.sidecar_requests.specs.Sessions.{Deed, IsAnswered, account, standing}
use Rattle.sidecar_requests.proofs.session.sidecar_session.Given as goal

-- each request so far was served, answered whole and didn't ask to close; the bytes behind the last one are those that the
-- reader keeps
abbrev pub invariant-loop-requests : goal.invariant-loop-requests
invariant-loop-requests g l = record {
  progress : (deeds : List Deed) × Progress (IsAnswered l.side)
      (account (standing g.A.Dial.dialled g.A.Dial.dial_faults g.P.Dial.dialled g.P.Dial.dial_faults g.S.Dial.dialled g.S.Dial.dial_faults g.K.Clock.shown l.initial.desk.node.now l.initial.desk.seats l.initial.desk.links l.initial.desk.clock) [])
      (account (standing g.A.Dial.dialled g.A.Dial.dial_faults g.P.Dial.dialled g.P.Dial.dial_faults g.S.Dial.dialled g.S.Dial.dial_faults g.K.Clock.shown l.desk.node.now l.desk.seats l.desk.links l.desk.clock) deeds)
      (g.C.Source.read_traffic l.initial.conn) (g.C.Source.read_traffic l.conn) l.reader l.requests;
  node : l.desk.node.now ≡ l.initial.desk.node.now;
  ready : IsSeatsOf l.initial.desk.node.now l.desk.seats;
  places : (l.desk.links.app_at ≡ l.initial.desk.links.app_at) × (l.desk.links.store_at ≡ l.initial.desk.links.store_at);
  faults : g.C.Source.read_faults l.initial.conn ≤ g.C.Source.read_faults l.conn;
}
