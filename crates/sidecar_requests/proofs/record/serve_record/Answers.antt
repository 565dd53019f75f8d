use Rattle.std.proofs.Common.{[], refl, ap}
use Rattle.sidecar_node.proofs.Actings.{acts_none}
use Rattle.actor_calls.proofs.Acting.{none_kept}
use Rattle.sidecar_requests.proofs.record.serve_record.Goals as goal

pub returns-in-PutReminder-clause-served : goal.returns-in-PutReminder-clause-served
returns-in-PutReminder-clause-served g c =
    let s = c.serve_write.ensures.served in (s.0, s.1, s.2, s.3, rw c.in-PutReminder.is (ap g.K.Clock.shown c.serve_write.ensures.clock, s.4))

pub returns-in-GetReminder-clause-served : goal.returns-in-GetReminder-clause-served
returns-in-GetReminder-clause-served g c =
    let s = c.serve_asked.ensures in ([], s.0, acts_none c.args.desk.now.seats, s.2, rw c.in-GetReminder.is (refl, refl, s.1))

pub returns-in-DeleteReminder-clause-served : goal.returns-in-DeleteReminder-clause-served
returns-in-DeleteReminder-clause-served g c =
    let w = c.serve_write-in-DeleteReminder in
    let s = w.ensures.served in (s.0, s.1, s.2, s.3, rw c.in-DeleteReminder.is (ap g.K.Clock.shown w.ensures.clock, s.4))

pub returns-in-SetTimer-clause-served : goal.returns-in-SetTimer-clause-served
returns-in-SetTimer-clause-served g c =
    let t = c.set_timer in
    let s = t.ensures.served in
    let none = none_kept g.S.Dial.dialled g.S.Dial.dial_faults c.args.desk.now.links.store t.new.desk.links.store t.ensures.store in
    (s.0, [], s.1, none, rw c.in-SetTimer.is s.2)

pub returns-in-DeleteTimer-clause-served : goal.returns-in-DeleteTimer-clause-served
returns-in-DeleteTimer-clause-served g c =
    let t = c.delete_timer in
    let s = t.ensures.served in
    let none = none_kept g.S.Dial.dialled g.S.Dial.dial_faults c.args.desk.now.links.store t.new.desk.links.store t.ensures.store in
    (s.0, [], s.1, none, rw c.in-DeleteTimer.is s.2)
