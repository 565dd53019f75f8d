use Rattle.std.proofs.Common.{◌+◌, false}
use Rattle.clock_turns.specs.declared.closing_stand.Stand.TheVariants.{On, Over}
use Rattle.clock_turns.proofs.Takings.{closed_follows, none_follows, other_follows, follows_take, spent_takes}
use Rattle.clock_turns.proofs.taking.take_one.Goals as goal

pub returns-in-Err-clause-takes : goal.returns-in-Err-clause-takes
returns-in-Err-clause-takes g c =
    let desk = c.args.desk.now in
    spent_takes desk.links.app_at c.args.now c.args.part c.in-Err.spent desk.seats c.step_part.new.seats _ _ c.in-Err.ensures.entry c.in-Err.ensures.spent

pub returns-in-Close-clause-takes : goal.returns-in-Close-clause-takes
returns-in-Close-clause-takes g c =
    let desk = c.args.desk.now in
    let s1 = c.step_part.new.seats in
    let closed = c.close_cell-closed in
    let s2 = closed.new.desk.seats in
    follows_take desk.links.app_at c.args.now c.args.part c.in-Ok.reply desk.seats s1 s2 _ _ _ _ closed.result.faulted c.after_closing.result c.in-Ok.ensures.entry
    (closed_follows desk.links.app_at c.args.part c.in-Ok.reply c.in-Close.key s1 s2 _ _ _ _ closed.result.faulted closed.result.end c.after_closing.result c.in-Close.is closed.ensures.closing c.after_closing.ensures)

pub returns-in-NoneClosing-clause-takes : goal.returns-in-NoneClosing-clause-takes
returns-in-NoneClosing-clause-takes g c =
    let desk = c.args.desk.now in
    let s1 = c.step_part.new.seats in
    follows_take desk.links.app_at c.args.now c.args.part c.in-Ok.reply desk.seats s1 s1 _ _ _ _ false (On (c.args.part + 1)) c.in-Ok.ensures.entry
    (none_follows desk.links.app_at c.args.part c.in-Ok.reply s1 _ _ c.in-NoneClosing.is)

pub returns-in_default-clause-takes : goal.returns-in_default-clause-takes
returns-in_default-clause-takes g c =
    let desk = c.args.desk.now in
    let s1 = c.step_part.new.seats in
    follows_take desk.links.app_at c.args.now c.args.part c.in-Ok.reply desk.seats s1 s1 _ _ _ _ false (Over c.taken_end.result) c.in-Ok.ensures.entry
    (other_follows desk.links.app_at c.args.part c.in-Ok.reply s1 _ _ c.taken_end.result c.in_default.not-Close c.in_default.not-NoneClosing c.taken_end.ensures)
