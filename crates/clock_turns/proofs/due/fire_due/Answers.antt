use Rattle.clock_turns.proofs.Dues.{due_wants, due_fired}
use Rattle.clock_turns.proofs.due.fire_due.Goals as goal

pub returns-in-Err-clause-due : goal.returns-in-Err-clause-due
returns-in-Err-clause-due g c =
    let desk = c.args.desk.now in
    let i = c.idle.ensures in
    due_wants desk.node.now desk.links.app_at c.args.book desk.seats (g.K.Clock.shown desk.clock) _ _ c.idle.result.begun c.idle.result.faulted c.idle.result.stand c.args.due i.begun i.faulted i.place

pub returns-in-Ok-clause-due : goal.returns-in-Ok-clause-due
returns-in-Ok-clause-due g c =
    let desk = c.args.desk.now in
    let f = c.fire_timer-fired in
    due_fired desk.node.now desk.links.app_at c.args.book c.args.due desk.seats f.new.desk.seats (g.K.Clock.shown desk.clock) (g.K.Clock.shown f.new.desk.clock) _ _ _ _
    f.result.begun f.result.faulted f.result.end c.after_timer.result f.ensures.fired c.after_timer.ensures
