use Rattle.std.proofs.Common.{refl}
use Rattle.http_session.proofs.Sessions.{unread_other, write_fault, write_up}
use Rattle.http_session.proofs.ends.end_unread.Goals as goal

pub returns-in-ConnFault-clause-ends : goal.returns-in-ConnFault-clause-ends
returns-in-ConnFault-clause-ends g c = λ said is. rw c.in-ConnFault.is (refl, refl)

pub returns-in-OutOfMemory-clause-ends : goal.returns-in-OutOfMemory-clause-ends
returns-in-OutOfMemory-clause-ends g c = λ said is. rw c.in-OutOfMemory.is (refl, refl)

pub returns-in_default-clause-ends : goal.returns-in_default-clause-ends
returns-in_default-clause-ends g c = λ said is.
    let faults = g.C.Source.read_faults in
    let step = c.refuse-written in
    unread_other said c.args.error c.args.requests _ _ _ _ step.result _ c.in_default.not-ConnFault c.in_default.not-OutOfMemory (step.ensures.writes said is)
    (write_fault (faults c.args.conn.now) (faults step.new.conn) step.result step.ensures.cause) c.refused_end.ensures

pub returns-in_default-clause-cause : goal.returns-in_default-clause-cause
returns-in_default-clause-cause g c =
    let faults = g.C.Source.read_faults in
    write_up (faults c.args.conn.now) (faults c.refuse-written.new.conn) c.refuse-written.result c.refuse-written.ensures.cause
