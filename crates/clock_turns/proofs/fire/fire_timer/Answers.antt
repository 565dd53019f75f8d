use Rattle.std.proofs.Common.{false, None}
use Rattle.sidecar_node.specs.Nodes.{part_at}
use Rattle.clock_turns.proofs.Fires.{has_run, run_there, run_gone, has_fired}
use Rattle.clock_turns.proofs.fire.fire_timer.Goals as goal

pub returns-then-there-clause-fired : goal.returns-then-there-clause-fired
returns-then-there-clause-fired g c =
    let desk = c.args.desk.now in
    let at = desk.links.app_at in
    let part = part_at desk.node.now c.args.due.key in
    let s = c.step_book-said.ensures in
    let t = c.take_turn-turned in
    let f = c.finish_timer-done.ensures in
    let s1 = c.step_book-said.new.seats in
    let s2 = c.finish_timer-done.new.seats in
    let first = g.K.Clock.shown desk.clock in
    let last = g.K.Clock.shown c.finish_timer-done.new.clock in
    has_fired at c.args.book part c.args.due c.args.marks.first c.is_there-there.result desk.seats s1 s2 first last _ _ _ _ t.result.begun t.result.faulted c.spent_or-ended.result c.spent_or-told.result c.step_book-said.result
    c.requires.first s.entry s.spent c.is_there-there.ensures
    (run_there at c.args.book part c.args.due s1 s2 first last _ _ _ _ t.result.begun t.result.faulted c.spent_or-ended.result c.is_there-there.result c.if-there.true
    (has_run at c.args.book part c.args.due s1 t.new.desk.seats s2 first (g.K.Clock.shown t.new.desk.clock) last _ _ _ _ t.result.begun t.result.faulted t.result.end c.spent_or-ended.result c.finish_timer-done.result
    t.ensures.turn f.clock f.entry f.spent c.spent_or-ended.ensures))
    c.spent_or-told.ensures

pub returns-clause-fired : goal.returns-clause-fired
returns-clause-fired g c =
    let desk = c.args.desk.now in
    let at = desk.links.app_at in
    let part = part_at desk.node.now c.args.due.key in
    let s = c.step_book-said.ensures in
    let s1 = c.step_book-said.new.seats in
    let now = g.K.Clock.shown desk.clock in
    has_fired at c.args.book part c.args.due c.args.marks.first c.is_there-there.result desk.seats s1 s1 now now _ _ _ _ false false None c.spent_or-gone.result c.step_book-said.result
    c.requires.first s.entry s.spent c.is_there-there.ensures
    (run_gone at c.args.book part c.args.due s1 now _ _ c.is_there-there.result c.if-there.false)
    c.spent_or-gone.ensures
