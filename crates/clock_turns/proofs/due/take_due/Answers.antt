use Rattle.std.proofs.Common.{Ok}
use Rattle.clock_turns.proofs.Dues.{some_answered, none_answered, list_answered, other_answered, answered_taken, spent_taken}
use Rattle.clock_turns.proofs.due.take_due.Goals as goal

pub returns-in-Err-clause-due : goal.returns-in-Err-clause-due
returns-in-Err-clause-due g c =
    let desk = c.args.desk.now in
    let entry = rw c.in-Err.is at c.step_book-said.ensures.entry in
    let full = rw c.in-Err.is at c.step_book-said.ensures.spent in
    let i = c.idle.ensures in
    spent_taken desk.node.now desk.links.app_at c.args.now c.moment_of-moment.result c.args.book desk.seats c.step_book-said.new.seats (g.K.Clock.shown desk.clock) _ _ c.idle.result.begun c.idle.result.faulted c.idle.result.stand c.in-Err.spent
    c.moment_of-moment.ensures entry full i.begun i.faulted i.place

pub returns-in-None-clause-due : goal.returns-in-None-clause-due
returns-in-None-clause-due g c =
    let desk = c.args.desk.now in
    let at = desk.links.app_at in
    let entry = rw c.in-Ok.is at c.step_book-said.ensures.entry in
    let s1 = c.step_book-said.new.seats in
    let shown = g.K.Clock.shown desk.clock in
    let idle = c.idle-in-None in
    let i = idle.ensures in
    answered_taken desk.node.now at c.args.now c.moment_of-moment.result c.args.book desk.seats s1 s1 shown shown _ _ _ _ idle.result.begun idle.result.faulted idle.result.stand (Ok c.in-Ok.reply)
    c.moment_of-moment.ensures entry
    (list_answered desk.node.now at c.args.book s1 s1 shown shown _ _ _ _ idle.result.begun idle.result.faulted idle.result.stand c.in-Ok.reply c.in-DueIs.timer c.in-DueIs.is
    (none_answered desk.node.now at c.args.book s1 shown _ _ idle.result.begun idle.result.faulted idle.result.stand c.in-DueIs.timer c.in-None.is i.begun i.faulted i.place))

pub returns-in-Some-clause-due : goal.returns-in-Some-clause-due
returns-in-Some-clause-due g c =
    let desk = c.args.desk.now in
    let at = desk.links.app_at in
    let entry = rw c.in-Ok.is at c.step_book-said.ensures.entry in
    let s1 = c.step_book-said.new.seats in
    let f = c.fire_due in
    let s2 = f.new.desk.seats in
    let first = g.K.Clock.shown desk.clock in
    let last = g.K.Clock.shown f.new.desk.clock in
    answered_taken desk.node.now at c.args.now c.moment_of-moment.result c.args.book desk.seats s1 s2 first last _ _ _ _ f.result.begun f.result.faulted f.result.stand (Ok c.in-Ok.reply)
    c.moment_of-moment.ensures entry
    (list_answered desk.node.now at c.args.book s1 s2 first last _ _ _ _ f.result.begun f.result.faulted f.result.stand c.in-Ok.reply c.in-DueIs.timer c.in-DueIs.is
    (some_answered desk.node.now at c.args.book s1 s2 first last _ _ _ _ f.result.begun f.result.faulted f.result.stand c.in-DueIs.timer c.in-Some.due c.in-Some.is f.ensures.due))

pub returns-in_default-clause-due : goal.returns-in_default-clause-due
returns-in_default-clause-due g c =
    let desk = c.args.desk.now in
    let at = desk.links.app_at in
    let entry = rw c.in-Ok.is at c.step_book-said.ensures.entry in
    let s1 = c.step_book-said.new.seats in
    let shown = g.K.Clock.shown desk.clock in
    let idle = c.idle-in_default in
    let i = idle.ensures in
    answered_taken desk.node.now at c.args.now c.moment_of-moment.result c.args.book desk.seats s1 s1 shown shown _ _ _ _ idle.result.begun idle.result.faulted idle.result.stand (Ok c.in-Ok.reply)
    c.moment_of-moment.ensures entry
    (other_answered desk.node.now at c.args.book s1 shown _ _ idle.result.begun idle.result.faulted idle.result.stand c.in-Ok.reply c.in_default.not-DueIs i.begun i.faulted i.place)
