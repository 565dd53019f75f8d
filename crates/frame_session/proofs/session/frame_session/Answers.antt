use Rattle.std.proofs.Common.{◌+◌, ◌<◌, Bool, false, refl, sym, subst, arith}
use Rattle.actor_ports.specs.declared.session.SessionEnd.{SessionEnd}
use Rattle.frame_wire.specs.Streams.{ReaderState}
use Rattle.frame_session.specs.Sessions.{IsSession}
use Rattle.frame_session.proofs.Turning.{Progress, start, unchanged, none_ready, next_of, first_is_frame, turn_on, turn_fits, turn_breaks, turn_cut, turn_foreign, turn_spent, read_fault, not_failed, read_on, read_faulty, read_cut, read_begins, read_waits, read_ended}
use Rattle.frame_session.proofs.session.frame_session.Goals as goal

pub loop-init : goal.loop-init
loop-init g c =
    let s = c.args.seat in
    let shown = g.K.Clock.shown c.args.clock.now in
    let traffic = g.C.Source.read_traffic c.args.conn.now in
    record {
      progress =
          subst (λ (r : ReaderState). Progress g.G.Askable.made g.G.Askable.known g.A.AnswersFrames.event_of g.A.AnswersFrames.answer_of g.A.AnswersFrames.breaks_off s s shown shown traffic traffic r false 0) (sym c.new-reader.ensures)
          (start g.G.Askable.made g.G.Askable.known g.A.AnswersFrames.event_of g.A.AnswersFrames.answer_of g.A.AnswersFrames.breaks_off s shown traffic (g.met.G.Askable.none_made s));
      seat = c.requires;
      faults = omega arith;
    }

-- ---- a frame waited

pub take_turn-requires-clause-frame : goal.take_turn-requires-clause-frame
take_turn-requires-clause-frame g c κs within =
    let next = next_of c.loop.reader c.in-Some-next.frame c.next-in-loop.new.self c.in-Some-next.ensures.none c.in-Some-next.ensures.same in
    (first_is_frame _ _ _ _ _ _ _ _ _ _ _ _ _ _ c.loop.invariant.progress c.in-Some-next.frame c.next-in-loop.new.self next).0

pub overflow_add-requests : goal.overflow_add-requests
overflow_add-requests g c =
    let next = next_of c.loop.reader c.in-Some-next.frame c.next-in-loop.new.self c.in-Some-next.ensures.none c.in-Some-next.ensures.same in
    let fits : c.loop.requests + 1 < 18446744073709551616 = turn_fits _ _ _ _ _ _ _ _ _ _ _ _ _ _ c.loop.invariant.progress c.in-Some-next.frame c.next-in-loop.new.self next g.met.G.Askable.made_on c.take_turn.new.seat _ _ c.in-Answered.broken c.in-Answered.ensures.turn in
    omega arith

pub returns-then-broken-clause-session : goal.returns-then-broken-clause-session
returns-then-broken-clause-session g c =
    let next = next_of c.loop.reader c.in-Some-next.frame c.next-in-loop.new.self c.in-Some-next.ensures.none c.in-Some-next.ensures.same in
    turn_breaks _ _ _ _ _ _ _ _ _ _ _ _ _ _ c.loop.invariant.progress c.in-Some-next.frame c.next-in-loop.new.self next g.met.G.Askable.made_on c.take_turn.new.seat _ _ c.in-Answered.broken c.if-broken.true c.in-Answered.ensures.turn

pub loop-preserved-else-broken : goal.loop-preserved-else-broken
loop-preserved-else-broken g c =
    let next = next_of c.loop.reader c.in-Some-next.frame c.next-in-loop.new.self c.in-Some-next.ensures.none c.in-Some-next.ensures.same in
    record {
      progress = turn_on _ _ _ _ _ _ _ _ _ _ _ _ _ _ c.loop.invariant.progress c.in-Some-next.frame c.next-in-loop.new.self next g.met.G.Askable.made_on c.take_turn.new.seat _ _ c.in-Answered.broken c.if-broken.false c.in-Answered.ensures.turn;
      seat = c.take_turn.ensures.seat;
      faults = omega (arith, c.in-Answered.ensures.cause);
    }

pub returns-in-Cut-clause-session : goal.returns-in-Cut-clause-session
returns-in-Cut-clause-session g c =
    let next = next_of c.loop.reader c.in-Some-next.frame c.next-in-loop.new.self c.in-Some-next.ensures.none c.in-Some-next.ensures.same in
    subst (λ (e : SessionEnd). IsSession g.G.Askable.made g.G.Askable.known g.A.AnswersFrames.event_of g.A.AnswersFrames.answer_of g.A.AnswersFrames.breaks_off c.args.seat c.take_turn.new.seat (g.K.Clock.shown c.args.clock.now) (g.K.Clock.shown c.take_turn.new.clock) (g.C.Source.read_traffic c.args.conn.now) (g.C.Source.read_traffic c.take_turn.new.conn) e) (sym c.cut_answer_end.ensures)
    (turn_cut _ _ _ _ _ _ _ _ _ _ _ _ _ _ c.loop.invariant.progress c.in-Some-next.frame c.next-in-loop.new.self next g.met.G.Askable.made_on c.take_turn.new.seat _ _ c.in-Cut.error c.in-Cut.broken c.in-Cut.ensures.turn)

pub returns-in-Foreign-clause-session : goal.returns-in-Foreign-clause-session
returns-in-Foreign-clause-session g c =
    let next = next_of c.loop.reader c.in-Some-next.frame c.next-in-loop.new.self c.in-Some-next.ensures.none c.in-Some-next.ensures.same in
    turn_foreign _ _ _ _ _ _ _ _ _ _ _ _ _ _ c.loop.invariant.progress c.in-Some-next.frame c.next-in-loop.new.self next g.met.G.Askable.made_on c.take_turn.new.seat _ _ (g.met.G.Askable.none_made _) c.in-Foreign.ensures.turn

pub returns-in-Spent-clause-session : goal.returns-in-Spent-clause-session
returns-in-Spent-clause-session g c =
    let next = next_of c.loop.reader c.in-Some-next.frame c.next-in-loop.new.self c.in-Some-next.ensures.none c.in-Some-next.ensures.same in
    turn_spent _ _ _ _ _ _ _ _ _ _ _ _ _ _ c.loop.invariant.progress c.in-Some-next.frame c.next-in-loop.new.self next g.met.G.Askable.made_on c.take_turn.new.seat _ _ c.in-Spent.count c.in-Spent.ensures.turn

-- ---- no frame waited

pub returns-then-faulty-clause-session : goal.returns-then-faulty-clause-session
returns-then-faulty-clause-session g c =
    let same = c.in-None-next.ensures.empty refl in
    let progress = unchanged g.G.Askable.made g.G.Askable.known g.A.AnswersFrames.event_of g.A.AnswersFrames.answer_of g.A.AnswersFrames.breaks_off _ _ _ _ _ _ _ _ _ _ same c.loop.invariant.progress in
    let none = none_ready _ _ same c.in-None-next.ensures.none in
    read_fault _ _ _ _ _ _ _ _ _ _ _ _ _ _ progress none c.if-faulty.true

pub fetch_piece-requires-after_bounds : goal.fetch_piece-requires-after_bounds
fetch_piece-requires-after_bounds g c κs within =
    let same = c.in-None-next.ensures.empty refl in
    let progress = unchanged g.G.Askable.made g.G.Askable.known g.A.AnswersFrames.event_of g.A.AnswersFrames.answer_of g.A.AnswersFrames.breaks_off _ _ _ _ _ _ _ _ _ _ same c.loop.invariant.progress in
    let none = none_ready _ _ same c.in-None-next.ensures.none in
    not_failed _ _ _ _ _ _ _ _ _ _ _ _ _ _ progress none c.if-faulty.false

pub returns-in-Err-clause-session : goal.returns-in-Err-clause-session
returns-in-Err-clause-session g c =
    let same = c.in-None-next.ensures.empty refl in
    let progress = unchanged g.G.Askable.made g.G.Askable.known g.A.AnswersFrames.event_of g.A.AnswersFrames.answer_of g.A.AnswersFrames.breaks_off _ _ _ _ _ _ _ _ _ _ same c.loop.invariant.progress in
    let none = none_ready _ _ same c.in-None-next.ensures.none in
    subst (λ (e : SessionEnd). IsSession g.G.Askable.made g.G.Askable.known g.A.AnswersFrames.event_of g.A.AnswersFrames.answer_of g.A.AnswersFrames.breaks_off c.args.seat c.loop.seat (g.K.Clock.shown c.args.clock.now) (g.K.Clock.shown c.loop.clock) (g.C.Source.read_traffic c.args.conn.now) (g.C.Source.read_traffic c.fetch_piece.new.conn) e) (sym c.cut_end.ensures)
    (read_cut _ _ _ _ _ _ _ _ _ _ _ _ _ _ progress none c.fetch_piece.new.reader _ c.in-Err.error c.in-Err.ensures.fetches)

pub end_of_input-requires-clause-waits : goal.end_of_input-requires-clause-waits
end_of_input-requires-clause-waits g c =
    let same = c.in-None-next.ensures.empty refl in
    let progress = unchanged g.G.Askable.made g.G.Askable.known g.A.AnswersFrames.event_of g.A.AnswersFrames.answer_of g.A.AnswersFrames.breaks_off _ _ _ _ _ _ _ _ _ _ same c.loop.invariant.progress in
    let none = none_ready _ _ same c.in-None-next.ensures.none in
    read_waits _ _ _ _ _ _ _ _ _ _ _ _ _ _ progress none c.fetch_piece.new.reader _ c.if-faulty.false (rw c.in-Ok-Ended.field-0-is at c.in-Ok-Ended.ensures.fetches)

pub end_of_input-requires-clause-rest : goal.end_of_input-requires-clause-rest
end_of_input-requires-clause-rest g c =
    let same = c.in-None-next.ensures.empty refl in
    let progress = unchanged g.G.Askable.made g.G.Askable.known g.A.AnswersFrames.event_of g.A.AnswersFrames.answer_of g.A.AnswersFrames.breaks_off _ _ _ _ _ _ _ _ _ _ same c.loop.invariant.progress in
    let none = none_ready _ _ same c.in-None-next.ensures.none in
    read_begins _ _ _ _ _ _ _ _ _ _ _ _ _ _ progress none c.fetch_piece.new.reader _ c.if-faulty.false (rw c.in-Ok-Ended.field-0-is at c.in-Ok-Ended.ensures.fetches)

pub returns-in-Ok-Ended-clause-session : goal.returns-in-Ok-Ended-clause-session
returns-in-Ok-Ended-clause-session g c =
    let same = c.in-None-next.ensures.empty refl in
    let progress = unchanged g.G.Askable.made g.G.Askable.known g.A.AnswersFrames.event_of g.A.AnswersFrames.answer_of g.A.AnswersFrames.breaks_off _ _ _ _ _ _ _ _ _ _ same c.loop.invariant.progress in
    let none = none_ready _ _ same c.in-None-next.ensures.none in
    read_ended _ _ _ _ _ _ _ _ _ _ _ _ _ _ progress none c.fetch_piece.new.reader _ c.end_of_input.result c.if-faulty.false (rw c.in-Ok-Ended.field-0-is at c.in-Ok-Ended.ensures.fetches) c.end_of_input.ensures

pub loop-preserved-in-Ok-Faulty : goal.loop-preserved-in-Ok-Faulty
loop-preserved-in-Ok-Faulty g c =
    let same = c.in-None-next.ensures.empty refl in
    let progress = unchanged g.G.Askable.made g.G.Askable.known g.A.AnswersFrames.event_of g.A.AnswersFrames.answer_of g.A.AnswersFrames.breaks_off _ _ _ _ _ _ _ _ _ _ same c.loop.invariant.progress in
    let none = none_ready _ _ same c.in-None-next.ensures.none in
    record {
      progress = read_faulty _ _ _ _ _ _ _ _ _ _ _ _ _ _ progress none c.fetch_piece.new.reader _ (rw c.in-Ok-Faulty.field-0-is at c.in-Ok-Faulty.ensures.fetches);
      seat = c.loop.invariant.seat;
      faults = omega (arith, c.in-Ok-Faulty.ensures.cause);
    }

-- `faulty` is false here, as it was
pub loop-preserved : goal.loop-preserved
loop-preserved g c =
    let same = c.in-None-next.ensures.empty refl in
    let progress = unchanged g.G.Askable.made g.G.Askable.known g.A.AnswersFrames.event_of g.A.AnswersFrames.answer_of g.A.AnswersFrames.breaks_off _ _ _ _ _ _ _ _ _ _ same c.loop.invariant.progress in
    let none = none_ready _ _ same c.in-None-next.ensures.none in
    record {
      progress =
          subst (λ (b : Bool). Progress g.G.Askable.made g.G.Askable.known g.A.AnswersFrames.event_of g.A.AnswersFrames.answer_of g.A.AnswersFrames.breaks_off c.args.seat c.loop.seat (g.K.Clock.shown c.args.clock.now) (g.K.Clock.shown c.loop.clock) (g.C.Source.read_traffic c.args.conn.now) (g.C.Source.read_traffic c.fetch_piece.new.conn) c.fetch_piece.new.reader b c.loop.requests)
          (sym c.if-faulty.false)
          (read_on _ _ _ _ _ _ _ _ _ _ _ _ _ _ progress none c.fetch_piece.new.reader _ (rw c.in-Ok-Fed.field-0-is at c.in-Ok-Fed.ensures.fetches));
      seat = c.loop.invariant.seat;
      faults = omega (arith, c.in-Ok-Fed.ensures.cause);
    }
