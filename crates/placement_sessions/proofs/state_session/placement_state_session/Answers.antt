use Rattle.std.proofs.Common.{◌≡◌, ℕ, sym, ap, subst, arith}
use Rattle.actor_ports.specs.declared.port.PortError.TheVariants as ports
use Rattle.actor_ports.specs.declared.session.SessionEnd.{SessionEnd}
use Rattle.actor_ports.specs.declared.session.SessionEnd.TheVariants.{Spent}
use Rattle.http_edge.specs.declared.error.EdgeError.TheVariants as edge
use Rattle.http_edge.specs.Requests.{ReaderState}
use Rattle.placement_sessions.specs.StateSessions.{IsStateSession, most_requests}
use Rattle.placement_sessions.proofs.StateGoing.{Progress, start, read_nothing, read_cut, read_refused, answered_on, answered_last, answer_cut, answer_broken, answer_spent, requests_spent}
use Rattle.placement_sessions.proofs.state_session.placement_state_session.Goals as goal

pub loop-requests-init : goal.loop-requests-init
loop-requests-init g c =
    let s = c.args.seat in
    let shown = g.K.Clock.shown c.args.clock.now in
    let traffic = g.C.Source.read_traffic c.args.conn.now in
    record {
      progress = subst (λ (r : ReaderState). Progress s s shown shown traffic traffic r.kept 0) (sym c.new-reader.ensures) (start s shown traffic);
      seat = c.requires;
      whole = ap (λ (r : ReaderState). r.failed) c.new-reader.ensures;
      faults = omega arith;
    }

-- ---- no request was read

pub returns-in-Ok-None-clause-session : goal.returns-in-Ok-None-clause-session
returns-in-Ok-None-clause-session g c = read_nothing _ _ _ _ _ _ _ _ c.loop-requests.invariant.progress c.read.new.self.kept _ (rw c.in-Ok-None.field-0-is at (c.in-Ok-None.ensures.reads c.loop-requests.invariant.whole))

pub returns-in-Err-ConnFault-clause-session : goal.returns-in-Err-ConnFault-clause-session
returns-in-Err-ConnFault-clause-session g c = read_cut _ _ _ _ _ _ _ _ c.loop-requests.invariant.progress c.read.new.self.kept _ ports.Failed edge.ConnFault (rw c.in-Err-ConnFault.field-0-is at (c.in-Err-ConnFault.ensures.reads c.loop-requests.invariant.whole))

pub returns-in-Err-OutOfMemory-clause-session : goal.returns-in-Err-OutOfMemory-clause-session
returns-in-Err-OutOfMemory-clause-session g c = read_cut _ _ _ _ _ _ _ _ c.loop-requests.invariant.progress c.read.new.self.kept _ ports.OutOfMemory edge.OutOfMemory (rw c.in-Err-OutOfMemory.field-0-is at (c.in-Err-OutOfMemory.ensures.reads c.loop-requests.invariant.whole))

pub returns-in-Err-clause-session : goal.returns-in-Err-clause-session
returns-in-Err-clause-session g c = read_refused _ _ _ _ _ _ _ _ c.loop-requests.invariant.progress c.read.new.self.kept _ c.in-Err.error _ (c.in-Err.ensures.reads c.loop-requests.invariant.whole) c.refuse.ensures.refuses

-- ---- a request was read

pub returns-in-Answered-true-clause-session : goal.returns-in-Answered-true-clause-session
returns-in-Answered-true-clause-session g c = answered_last _ _ _ _ _ _ _ _ c.loop-requests.invariant.progress c.read.new.self.kept _ c.in-Ok-Some.request (rw c.in-Ok-Some.field-0-is at (c.in-Ok-Some.ensures.reads c.loop-requests.invariant.whole)) c.answer_request-turn.new.seat _ _ (rw c.in-Answered-true.closes-test at c.in-Answered-true.ensures.answers)

pub returns-in-Cut-clause-session : goal.returns-in-Cut-clause-session
returns-in-Cut-clause-session g c =
    subst (λ (e : SessionEnd). IsStateSession c.args.seat c.answer_request-turn.new.seat (g.K.Clock.shown c.args.clock.now) (g.K.Clock.shown c.answer_request-turn.new.clock) (g.C.Source.read_traffic c.args.conn.now) (g.C.Source.read_traffic c.answer_request-turn.new.conn) e) (sym c.cut_end.ensures)
    (answer_cut _ _ _ _ _ _ _ _ c.loop-requests.invariant.progress c.read.new.self.kept _ c.in-Ok-Some.request (rw c.in-Ok-Some.field-0-is at (c.in-Ok-Some.ensures.reads c.loop-requests.invariant.whole)) c.answer_request-turn.new.seat _ _ c.in-Cut.error c.in-Cut.ensures.answers)

pub returns-in-Broken-clause-session : goal.returns-in-Broken-clause-session
returns-in-Broken-clause-session g c = answer_broken _ _ _ _ _ _ _ _ c.loop-requests.invariant.progress c.read.new.self.kept _ c.in-Ok-Some.request (rw c.in-Ok-Some.field-0-is at (c.in-Ok-Some.ensures.reads c.loop-requests.invariant.whole)) c.answer_request-turn.new.seat _ _ c.in-Broken.ensures.answers

pub returns-in-Spent-clause-session : goal.returns-in-Spent-clause-session
returns-in-Spent-clause-session g c = answer_spent _ _ _ _ _ _ _ _ c.loop-requests.invariant.progress c.read.new.self.kept _ c.in-Ok-Some.request (rw c.in-Ok-Some.field-0-is at (c.in-Ok-Some.ensures.reads c.loop-requests.invariant.whole)) c.answer_request-turn.new.seat _ _ c.in-Spent.count c.in-Spent.ensures.answers

pub loop-requests-preserved : goal.loop-requests-preserved
loop-requests-preserved g c = record {
  progress = answered_on _ _ _ _ _ _ _ _ c.loop-requests.invariant.progress c.read.new.self.kept _ c.in-Ok-Some.request (rw c.in-Ok-Some.field-0-is at (c.in-Ok-Some.ensures.reads c.loop-requests.invariant.whole)) c.answer_request-turn.new.seat _ _ (rw c.in-Answered-false.closes-test at c.in-Answered-false.ensures.answers);
  seat = c.answer_request-turn.ensures.seat;
  whole = c.in-Ok-Some.ensures.failed c.loop-requests.invariant.whole;
  faults = omega (arith, c.in-Ok-Some.ensures.cause c.loop-requests.invariant.whole, c.in-Answered-false.ensures.cause);
}

-- ---- the requests can't be counted on

pub returns-clause-session : goal.returns-clause-session
returns-clause-session g c =
    let most : c.loop-requests.requests ≡ most_requests = omega arith in
    subst (λ (n : ℕ). IsStateSession c.args.seat c.loop-requests.seat (g.K.Clock.shown c.args.clock.now) (g.K.Clock.shown c.loop-requests.clock) (g.C.Source.read_traffic c.args.conn.now) (g.C.Source.read_traffic c.loop-requests.conn) (Spent n n)) most
    (requests_spent _ _ _ _ _ _ _ _ c.loop-requests.invariant.progress most)
