use Rattle.std.proofs.Common.{Bool, false, refl, sym, subst, arith}
use Rattle.actor_ports.specs.declared.session.SessionEnd.{SessionEnd}
use Rattle.frame_wire.specs.Streams.{ReaderState}
use Rattle.standby_session.specs.Sessions.{IsStandby}
use Rattle.standby_session.proofs.Reading.{next_of, none_ready}
use Rattle.standby_session.proofs.Serving.{Serving, serving_none, serving_same, serving_spent, frame_ends, frame_goes_on, read_fault, not_failed, read_on, read_faulty, read_cut, read_begins, read_waits, read_ended, link_ends, disk_ends, link_stays, disk_stays}
use Rattle.standby_session.proofs.session.standby_session.Goals as goal

pub loop-init : goal.loop-init
loop-init g c =
    record {
      serving = subst (λ (r : ReaderState). Serving (g.D.Disk.told c.args.disk.now) (g.D.Disk.told c.args.disk.now) (g.C.Source.read_traffic c.args.conn.now) (g.C.Source.read_traffic c.args.conn.now) r false 0) (sym c.new-reader.ensures) (serving_none (g.D.Disk.told c.args.disk.now) (g.C.Source.read_traffic c.args.conn.now));
      link = omega arith;
      disk = omega arith;
    }

pub returns-then-requests-clause-session : goal.returns-then-requests-clause-session
returns-then-requests-clause-session g c =
    serving_spent _ _ _ _ _ _ _ c.loop.invariant.serving c.if-requests.true

pub returns-in-Some-taken_end-clause-session : goal.returns-in-Some-taken_end-clause-session
returns-in-Some-taken_end-clause-session g c =
    let next = next_of c.loop.reader c.in-Some-next.frame c.next-in-loop.new.self c.in-Some-next.ensures.none c.in-Some-next.ensures.same in
    frame_ends _ _ _ _ _ _ _ c.loop.invariant.serving c.in-Some-next.frame c.next-in-loop.new.self next _ _ c.take_next-taken.result c.take_next-taken.ensures.takes c.in-Some-taken_end.end c.in-Some-taken_end.ensures

pub returns-in-Some-taken_end-clause-link : goal.returns-in-Some-taken_end-clause-link
returns-in-Some-taken_end-clause-link g c =
    link_ends c.take_next-taken.result c.loop.requests _ _ _ c.in-Some-taken_end.end c.in-Some-taken_end.ensures c.loop.invariant.link c.take_next-taken.ensures.link

pub returns-in-Some-taken_end-clause-broken : goal.returns-in-Some-taken_end-clause-broken
returns-in-Some-taken_end-clause-broken g c =
    disk_ends c.take_next-taken.result c.loop.requests _ _ _ c.in-Some-taken_end.end c.in-Some-taken_end.ensures c.loop.invariant.disk c.take_next-taken.ensures.disk

pub loop-preserved-in-None-taken_end : goal.loop-preserved-in-None-taken_end
loop-preserved-in-None-taken_end g c =
    let next = next_of c.loop.reader c.in-Some-next.frame c.next-in-loop.new.self c.in-Some-next.ensures.none c.in-Some-next.ensures.same in
    record {
      serving = frame_goes_on _ _ _ _ _ _ _ c.loop.invariant.serving c.in-Some-next.frame c.next-in-loop.new.self next _ _ c.take_next-taken.result c.take_next-taken.ensures.takes c.in-None-taken_end.ensures;
      link = link_stays c.take_next-taken.result c.loop.requests _ _ _ c.in-None-taken_end.ensures c.loop.invariant.link c.take_next-taken.ensures.link;
      disk = disk_stays c.take_next-taken.result c.loop.requests _ _ _ c.in-None-taken_end.ensures c.loop.invariant.disk c.take_next-taken.ensures.disk;
    }

pub returns-then-faulty-clause-session : goal.returns-then-faulty-clause-session
returns-then-faulty-clause-session g c =
    let same = c.in-None-next.ensures.empty refl in
    let serving = serving_same _ _ _ _ _ _ _ _ same c.loop.invariant.serving in
    let none = none_ready _ _ same c.in-None-next.ensures.none in
    read_fault _ _ _ _ _ _ _ serving none c.if-faulty.true

pub fetch_piece-requires-after_bounds : goal.fetch_piece-requires-after_bounds
fetch_piece-requires-after_bounds g c κs within =
    let same = c.in-None-next.ensures.empty refl in
    let serving = serving_same _ _ _ _ _ _ _ _ same c.loop.invariant.serving in
    let none = none_ready _ _ same c.in-None-next.ensures.none in
    not_failed _ _ _ _ _ _ _ serving none c.if-faulty.false

pub returns-in-Err-clause-session : goal.returns-in-Err-clause-session
returns-in-Err-clause-session g c =
    let same = c.in-None-next.ensures.empty refl in
    let serving = serving_same _ _ _ _ _ _ _ _ same c.loop.invariant.serving in
    let none = none_ready _ _ same c.in-None-next.ensures.none in
    subst (λ (e : SessionEnd). IsStandby (g.D.Disk.told c.args.disk.now) (g.D.Disk.told c.loop.disk) (g.C.Source.read_traffic c.args.conn.now) (g.C.Source.read_traffic c.fetch_piece.new.conn) e) (sym c.cut_end.ensures)
    (read_cut _ _ _ _ _ _ _ serving none c.fetch_piece.new.reader _ c.in-Err.error c.in-Err.ensures.fetches)

pub end_of_input-requires-clause-waits : goal.end_of_input-requires-clause-waits
end_of_input-requires-clause-waits g c =
    let same = c.in-None-next.ensures.empty refl in
    let serving = serving_same _ _ _ _ _ _ _ _ same c.loop.invariant.serving in
    let none = none_ready _ _ same c.in-None-next.ensures.none in
    read_waits _ _ _ _ _ _ _ serving none c.fetch_piece.new.reader _ c.if-faulty.false (rw c.in-Ok-Ended.field-0-is at c.in-Ok-Ended.ensures.fetches)

pub end_of_input-requires-clause-rest : goal.end_of_input-requires-clause-rest
end_of_input-requires-clause-rest g c =
    let same = c.in-None-next.ensures.empty refl in
    let serving = serving_same _ _ _ _ _ _ _ _ same c.loop.invariant.serving in
    let none = none_ready _ _ same c.in-None-next.ensures.none in
    read_begins _ _ _ _ _ _ _ serving none c.fetch_piece.new.reader _ c.if-faulty.false (rw c.in-Ok-Ended.field-0-is at c.in-Ok-Ended.ensures.fetches)

pub returns-in-Ok-Ended-clause-session : goal.returns-in-Ok-Ended-clause-session
returns-in-Ok-Ended-clause-session g c =
    let same = c.in-None-next.ensures.empty refl in
    let serving = serving_same _ _ _ _ _ _ _ _ same c.loop.invariant.serving in
    let none = none_ready _ _ same c.in-None-next.ensures.none in
    read_ended _ _ _ _ _ _ _ serving none c.fetch_piece.new.reader _ c.end_of_input.result c.if-faulty.false (rw c.in-Ok-Ended.field-0-is at c.in-Ok-Ended.ensures.fetches) c.end_of_input.ensures

pub loop-preserved-in-Ok-Faulty : goal.loop-preserved-in-Ok-Faulty
loop-preserved-in-Ok-Faulty g c =
    let same = c.in-None-next.ensures.empty refl in
    let serving = serving_same _ _ _ _ _ _ _ _ same c.loop.invariant.serving in
    let none = none_ready _ _ same c.in-None-next.ensures.none in
    record {
      serving = read_faulty _ _ _ _ _ _ _ serving none c.fetch_piece.new.reader _ (rw c.in-Ok-Faulty.field-0-is at c.in-Ok-Faulty.ensures.fetches);
      link = omega (arith, c.loop.invariant.link, c.in-Ok-Faulty.ensures.cause);
      disk = c.loop.invariant.disk;
    }

-- `faulty` is false here, as it was
pub loop-preserved : goal.loop-preserved
loop-preserved g c =
    let same = c.in-None-next.ensures.empty refl in
    let serving = serving_same _ _ _ _ _ _ _ _ same c.loop.invariant.serving in
    let none = none_ready _ _ same c.in-None-next.ensures.none in
    record {
      serving =
          subst (λ (b : Bool). Serving (g.D.Disk.told c.args.disk.now) (g.D.Disk.told c.loop.disk) (g.C.Source.read_traffic c.args.conn.now) (g.C.Source.read_traffic c.fetch_piece.new.conn) c.fetch_piece.new.reader b c.loop.requests) (sym c.if-faulty.false)
          (read_on _ _ _ _ _ _ _ serving none c.fetch_piece.new.reader _ (rw c.in-Ok-Fed.field-0-is at c.in-Ok-Fed.ensures.fetches));
      link = omega (arith, c.loop.invariant.link, c.in-Ok-Fed.ensures.cause);
      disk = c.loop.invariant.disk;
    }
