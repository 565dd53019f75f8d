use Rattle.std.proofs.Common.{◌≡◌, ◌≤◌, refl, sym, subst, arith, ◌∙◌, ℕ, [], ◌∷◌, ◌++◌}
use Rattle.actor_ports.specs.declared.session.SessionEnd.{SessionEnd}
use Rattle.http_edge.specs.Requests.{ReaderState}
use Rattle.http_session.specs.Sessions.{IsSession, SessionCause}
use Rattle.http_session.proofs.Sessions.{Progress, start, ends_done, ends_unread, ends_cut, ends_closed, goes_on, ends_spent, read_up, unread_cause, cut_cause}
use Rattle.sidecar_requests.specs.Sessions.{Deed, IsAnswered, account, edge_response, standing}
use Rattle.sidecar_requests.proofs.Sessions.{is_turn, adds_up}
use Rattle.sidecar_requests.proofs.session.sidecar_session.Goals as goal

pub loop-requests-init : goal.loop-requests-init
loop-requests-init g c =
    let s = standing g.A.Dial.dialled g.A.Dial.dial_faults g.P.Dial.dialled g.P.Dial.dial_faults g.S.Dial.dialled g.S.Dial.dial_faults g.K.Clock.shown c.args.desk.now.node.now c.args.desk.now.seats c.args.desk.now.links c.args.desk.now.clock in
    let t = g.C.Source.read_traffic c.args.conn.now in
    let none = account s [] in
    record {
      progress = ([], subst (λ (r : ReaderState). Progress (IsAnswered c.args.side) none none t t r 0) (sym c.new-reader.ensures) (start (IsAnswered c.args.side) none t));
      node = refl;
      ready = c.requires;
      places = (refl, refl);
      faults = omega arith;
    }

pub returns-in-Ok-None-clause-session : goal.returns-in-Ok-None-clause-session
returns-in-Ok-None-clause-session g c =
    let p = c.loop-requests.invariant.progress.1 in
    let faults = g.C.Source.read_faults in
    let read = rw c.in-Ok-None.field-0-is at c.in-Ok-None.ensures.reads in
    adds_up c.args.side _ _ _ _ _ _ _ (c.loop-requests.invariant.progress.0, ends_done (IsAnswered c.args.side) (edge_response c.args.side) _ _ _ _ c.loop-requests.reader c.loop-requests.requests p _ c.read.new.self (faults c.args.conn.now) (faults c.read.new.conn) (read p.sound))

pub returns-in-Ok-None-clause-cause : goal.returns-in-Ok-None-clause-cause
returns-in-Ok-None-clause-cause g c =
    let p = c.loop-requests.invariant.progress.1 in
    let faults = g.C.Source.read_faults in
    let up = c.loop-requests.invariant.faults in
    let on : faults c.loop-requests.conn ≤ faults c.read.new.conn = c.in-Ok-None.ensures.cause p.sound in
    (let h : faults c.args.conn.now ≤ faults c.read.new.conn = omega arith in h)

pub returns-in-Err-clause-session : goal.returns-in-Err-clause-session
returns-in-Err-clause-session g c =
    let p = c.loop-requests.invariant.progress.1 in
    let faults = g.C.Source.read_faults in
    let up = c.loop-requests.invariant.faults in
    let on = read_up (faults c.loop-requests.conn) (faults c.read.new.conn) c.in-Err.error (c.in-Err.ensures.cause p.sound) in
    let under : faults c.args.conn.now ≤ faults c.read.new.conn = omega arith in
    let ends = c.end_unread.ensures.ends (edge_response c.args.side c.in-Err.error) c.edge_response-refusal.ensures in
    adds_up c.args.side _ _ _ _ _ _ _ (
      c.loop-requests.invariant.progress.0,
      ends_unread (IsAnswered c.args.side) (edge_response c.args.side) _ _ _ _ c.loop-requests.reader c.loop-requests.requests p _ c.read.new.self
          (faults c.args.conn.now) (faults c.read.new.conn) (faults c.end_unread.new.conn) _ c.in-Err.error c.end_unread.result under (c.in-Err.ensures.reads p.sound) ends,
    )

pub returns-in-Err-clause-cause : goal.returns-in-Err-clause-cause
returns-in-Err-clause-cause g c =
    let p = c.loop-requests.invariant.progress.1 in
    let faults = g.C.Source.read_faults in
    let ends = c.end_unread.ensures.ends (edge_response c.args.side c.in-Err.error) c.edge_response-refusal.ensures in
    unread_cause (edge_response c.args.side c.in-Err.error) c.in-Err.error c.loop-requests.requests (faults c.args.conn.now) (faults c.loop-requests.conn) (faults c.read.new.conn) (faults c.end_unread.new.conn) _ _ c.end_unread.result c.loop-requests.invariant.faults (c.in-Err.ensures.cause p.sound) c.end_unread.ensures.cause ends

pub returns-in-Err-written-clause-session : goal.returns-in-Err-written-clause-session
returns-in-Err-written-clause-session g c =
    let p = c.loop-requests.invariant.progress.1 in
    let faults = g.C.Source.read_faults in
    let traffic = g.C.Source.read_traffic in
    let read = rw c.in-Ok-Some.field-0-is at c.in-Ok-Some.ensures.reads in
    let before = c.loop-requests.invariant.progress.0 in
    let look = standing g.A.Dial.dialled g.A.Dial.dial_faults g.P.Dial.dialled g.P.Dial.dial_faults g.S.Dial.dialled g.S.Dial.dial_faults g.K.Clock.shown in
    let desk = c.loop-requests.desk in
    let step = c.serve_one-answer in
    let s = step.ensures.served in
    let deed : Deed = record { request = c.in-Ok-Some.request; entries = s.0; app = s.1; peers = s.2; store = s.3; answer = step.result } in
    let turn = is_turn c.args.side (look desk.node.now desk.seats desk.links desk.clock) (look step.new.desk.node.now step.new.desk.seats step.new.desk.links step.new.desk.clock) before deed _ _ c.write_answer-written.result
    (record { stays = record { node = step.ensures.node; app_at = step.ensures.places.0; store_at = step.ensures.places.1 }; acts = s.4; app = s.5; peers = s.6; store = s.7; served = s.8 }) c.write_answer-written.ensures.sent in
    let cut = rw c.in-Err-written.is at turn in
    let old = account (standing g.A.Dial.dialled g.A.Dial.dial_faults g.P.Dial.dialled g.P.Dial.dial_faults g.S.Dial.dialled g.S.Dial.dial_faults g.K.Clock.shown c.args.desk.now.node.now c.args.desk.now.seats c.args.desk.now.links c.args.desk.now.clock) [] in
    let new = account (standing g.A.Dial.dialled g.A.Dial.dial_faults g.P.Dial.dialled g.P.Dial.dial_faults g.S.Dial.dialled g.S.Dial.dial_faults g.K.Clock.shown c.serve_one-answer.new.desk.node.now c.serve_one-answer.new.desk.seats c.serve_one-answer.new.desk.links c.serve_one-answer.new.desk.clock) (before ++ deed ∷ []) in
    adds_up c.args.side _ _ _ _ _ _ _ (
      before ++ deed ∷ [],
      subst (λ (e : SessionEnd). IsSession (IsAnswered c.args.side) (edge_response c.args.side) old new (traffic c.args.conn.now) (traffic c.write_answer-written.new.conn) (faults c.args.conn.now) (faults c.write_answer-written.new.conn) e) (sym c.cut_end.ensures)
          (ends_cut (IsAnswered c.args.side) (edge_response c.args.side) _ _ _ _ c.loop-requests.reader c.loop-requests.requests p _ c.read.new.self c.in-Ok-Some.request (read p.sound) _ _ (faults c.args.conn.now) (faults c.write_answer-written.new.conn) c.in-Err-written.error cut),
    )

pub returns-in-Err-written-clause-cause : goal.returns-in-Err-written-clause-cause
returns-in-Err-written-clause-cause g c =
    let p = c.loop-requests.invariant.progress.1 in
    let faults = g.C.Source.read_faults in
    let up = c.loop-requests.invariant.faults in
    let on : faults c.loop-requests.conn ≤ faults c.read.new.conn = c.in-Ok-Some.ensures.cause p.sound in
    let under : faults c.args.conn.now ≤ faults c.read.new.conn = omega arith in
    let cause = rw c.in-Err-written.is at c.write_answer-written.ensures.cause in
    subst (λ (e : SessionEnd). SessionCause (faults c.args.conn.now) (faults c.write_answer-written.new.conn) e) (sym c.cut_end.ensures)
    (cut_cause c.in-Err-written.error c.loop-requests.requests (faults c.args.conn.now) (faults c.read.new.conn) (faults c.write_answer-written.new.conn) under cause)

pub returns-then-request-clause-session : goal.returns-then-request-clause-session
returns-then-request-clause-session g c =
    let p = c.loop-requests.invariant.progress.1 in
    let faults = g.C.Source.read_faults in
    let read = rw c.in-Ok-Some.field-0-is at c.in-Ok-Some.ensures.reads in
    let before = c.loop-requests.invariant.progress.0 in
    let look = standing g.A.Dial.dialled g.A.Dial.dial_faults g.P.Dial.dialled g.P.Dial.dial_faults g.S.Dial.dialled g.S.Dial.dial_faults g.K.Clock.shown in
    let desk = c.loop-requests.desk in
    let step = c.serve_one-answer in
    let s = step.ensures.served in
    let deed : Deed = record { request = c.in-Ok-Some.request; entries = s.0; app = s.1; peers = s.2; store = s.3; answer = step.result } in
    let turn = is_turn c.args.side (look desk.node.now desk.seats desk.links desk.clock) (look step.new.desk.node.now step.new.desk.seats step.new.desk.links step.new.desk.clock) before deed _ _ c.write_answer-written.result
    (record { stays = record { node = step.ensures.node; app_at = step.ensures.places.0; store_at = step.ensures.places.1 }; acts = s.4; app = s.5; peers = s.6; store = s.7; served = s.8 }) c.write_answer-written.ensures.sent in
    let whole = rw c.in-Ok.is at turn in
    adds_up c.args.side _ _ _ _ _ _ _ (
      before ++ deed ∷ [],
      ends_closed (IsAnswered c.args.side) (edge_response c.args.side) _ _ _ _ c.loop-requests.reader c.loop-requests.requests p _ c.read.new.self c.in-Ok-Some.request (read p.sound) _ _ (faults c.args.conn.now) (faults c.write_answer-written.new.conn) whole c.if-request.true,
    )

pub returns-then-request-clause-cause : goal.returns-then-request-clause-cause
returns-then-request-clause-cause g c =
    let p = c.loop-requests.invariant.progress.1 in
    let faults = g.C.Source.read_faults in
    let up = c.loop-requests.invariant.faults in
    let on : faults c.loop-requests.conn ≤ faults c.read.new.conn = c.in-Ok-Some.ensures.cause p.sound in
    let more : faults c.read.new.conn ≤ faults c.write_answer-written.new.conn = rw c.in-Ok.is at c.write_answer-written.ensures.cause in
    (let h : faults c.args.conn.now ≤ faults c.write_answer-written.new.conn = omega arith in h)

pub loop-requests-preserved : goal.loop-requests-preserved
loop-requests-preserved g c =
    let p = c.loop-requests.invariant.progress.1 in
    let faults = g.C.Source.read_faults in
    let up = c.loop-requests.invariant.faults in
    let on : faults c.loop-requests.conn ≤ faults c.read.new.conn = c.in-Ok-Some.ensures.cause p.sound in
    let more : faults c.read.new.conn ≤ faults c.write_answer-written.new.conn = rw c.in-Ok.is at c.write_answer-written.ensures.cause in
    let read = rw c.in-Ok-Some.field-0-is at c.in-Ok-Some.ensures.reads in
    let before = c.loop-requests.invariant.progress.0 in
    let look = standing g.A.Dial.dialled g.A.Dial.dial_faults g.P.Dial.dialled g.P.Dial.dial_faults g.S.Dial.dialled g.S.Dial.dial_faults g.K.Clock.shown in
    let desk = c.loop-requests.desk in
    let step = c.serve_one-answer in
    let s = step.ensures.served in
    let deed : Deed = record { request = c.in-Ok-Some.request; entries = s.0; app = s.1; peers = s.2; store = s.3; answer = step.result } in
    let turn = is_turn c.args.side (look desk.node.now desk.seats desk.links desk.clock) (look step.new.desk.node.now step.new.desk.seats step.new.desk.links step.new.desk.clock) before deed _ _ c.write_answer-written.result
    (record { stays = record { node = step.ensures.node; app_at = step.ensures.places.0; store_at = step.ensures.places.1 }; acts = s.4; app = s.5; peers = s.6; store = s.7; served = s.8 }) c.write_answer-written.ensures.sent in
    let whole = rw c.in-Ok.is at turn in
    record {
      progress = (
        before ++ deed ∷ [],
        goes_on (IsAnswered c.args.side) (edge_response c.args.side) _ _ _ _ c.loop-requests.reader c.loop-requests.requests p _ c.read.new.self c.in-Ok-Some.request (read p.sound) _ _ whole c.if-request.false (c.in-Ok-Some.ensures.failed p.sound),
      );
      node = step.ensures.node ∙ c.loop-requests.invariant.node;
      ready = rw c.loop-requests.invariant.node at step.ensures.seats;
      places = (step.ensures.places.0 ∙ c.loop-requests.invariant.places.0, step.ensures.places.1 ∙ c.loop-requests.invariant.places.1);
      faults = omega arith;
    }

pub returns-clause-session : goal.returns-clause-session
returns-clause-session g c =
    let p = c.loop-requests.invariant.progress.1 in
    let faults = g.C.Source.read_faults in
    let traffic = g.C.Source.read_traffic in
    let low = c.loop-requests.auto.requests-end in
    let high = c.loop-requests-test.false in
    let all : c.loop-requests.requests ≡ 4611686018427387904 = omega arith in
    let old = account (standing g.A.Dial.dialled g.A.Dial.dial_faults g.P.Dial.dialled g.P.Dial.dial_faults g.S.Dial.dialled g.S.Dial.dial_faults g.K.Clock.shown c.args.desk.now.node.now c.args.desk.now.seats c.args.desk.now.links c.args.desk.now.clock) [] in
    let new = account (standing g.A.Dial.dialled g.A.Dial.dial_faults g.P.Dial.dialled g.P.Dial.dial_faults g.S.Dial.dialled g.S.Dial.dial_faults g.K.Clock.shown c.loop-requests.desk.node.now c.loop-requests.desk.seats c.loop-requests.desk.links c.loop-requests.desk.clock) c.loop-requests.invariant.progress.0 in
    let done = subst (λ (n : ℕ). Progress (IsAnswered c.args.side) old new (traffic c.args.conn.now) (traffic c.loop-requests.conn) c.loop-requests.reader n) all p in
    adds_up c.args.side _ _ _ _ _ _ _ (c.loop-requests.invariant.progress.0, ends_spent (IsAnswered c.args.side) (edge_response c.args.side) _ _ _ _ (faults c.args.conn.now) (faults c.loop-requests.conn) c.loop-requests.reader 4611686018427387904 4611686018427387904 done refl refl)
