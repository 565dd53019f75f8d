use Rattle.std.proofs.Common.{true, false, Ok}
use Rattle.sidecar_node.specs.Nodes.{part_at}
use Rattle.clock_turns.proofs.Turns.{has_called, begun_followed, other_followed, turn_spent, turn_followed}
use Rattle.clock_turns.proofs.timer_turn.take_turn.Goals as goal

pub returns-in-Err-clause-turn : goal.returns-in-Err-clause-turn
returns-in-Err-clause-turn g c =
    let desk = c.args.desk.now in
    let b = rw c.in-Err.is at c.begin_turn-said.ensures.begins in
    let full = rw c.in-Err.is at c.begin_turn-said.ensures.spent in
    turn_spent desk.links.app_at c.args.book (part_at desk.node.now c.args.due.now.key) c.args.due.now desk.seats c.begin_turn-said.new.seats (g.K.Clock.shown desk.clock) (g.K.Clock.shown c.begin_turn-said.new.clock) _ _ c.in-Err.spent b.0
    c.begin_turn-said.ensures.clock b.1 b.2 full

pub returns-in-Begun-clause-turn : goal.returns-in-Begun-clause-turn
returns-in-Begun-clause-turn g c =
    let desk = c.args.desk.now in
    let at = desk.links.app_at in
    let part = part_at desk.node.now c.args.due.now.key in
    let due = c.args.due.now in
    let b = rw c.in-Ok.is at c.begin_turn-said.ensures.begins in
    let s = c.step_book-said.ensures in
    let x = c.call_if-got.ensures in
    let e = c.end_turn-over.ensures.ends in
    let s1 = c.begin_turn-said.new.seats in
    let s2 = c.end_turn-over.new.seats in
    let middle = g.K.Clock.shown c.begin_turn-said.new.clock in
    let last = g.K.Clock.shown c.end_turn-over.new.clock in
    turn_followed at c.args.book part due desk.seats s1 s2 (g.K.Clock.shown desk.clock) middle last _ _ _ _ true c.got_fault.result c.spent_or.result (Ok c.in-Ok.reply) b.0
    c.begin_turn-said.ensures.clock b.1 b.2
    (begun_followed at c.args.book part due s1 s2 middle last _ _ _ _ true c.got_fault.result c.spent_or.result c.in-Ok.reply c.in-Begun.call c.in-Begun.chain c.in-Begun.is
    (has_called at c.args.book part due c.in-Begun.call c.in-Begun.chain _ c.args.again c.is_there-there.result s1 c.step_book-said.new.seats s2 middle last
    c.step_book-said.result x.0 c.call_if-got.result e.0 c.end_turn-over.result _ _ _ _ c.got_fault.result c.over_end-end.result c.spent_or.result
    c.requires.again s.entry s.spent c.is_there-there.ensures c.as_ref.ensures.value x.1 x.2
    c.end_turn-over.ensures.clock e.1 e.2 c.end_turn-over.ensures.spent c.got_fault.ensures c.over_end-end.ensures c.spent_or.ensures))

pub returns-in_default-clause-turn : goal.returns-in_default-clause-turn
returns-in_default-clause-turn g c =
    let desk = c.args.desk.now in
    let at = desk.links.app_at in
    let part = part_at desk.node.now c.args.due.now.key in
    let b = rw c.in-Ok.is at c.begin_turn-said.ensures.begins in
    let s1 = c.begin_turn-said.new.seats in
    let middle = g.K.Clock.shown c.begin_turn-said.new.clock in
    turn_followed at c.args.book part c.args.due.now desk.seats s1 s1 (g.K.Clock.shown desk.clock) middle middle _ _ _ _ false false c.refused_end.result (Ok c.in-Ok.reply) b.0
    c.begin_turn-said.ensures.clock b.1 b.2
    (other_followed at c.args.book part c.args.due.now s1 middle _ _ c.refused_end.result c.in-Ok.reply c.in_default.not-Begun c.refused_end.ensures)
