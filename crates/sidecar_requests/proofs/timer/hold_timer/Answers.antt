use Rattle.std.proofs.Common.{[]}
use Rattle.sidecar_node.proofs.Actings.{acts_none}
use Rattle.sidecar_requests.proofs.Held.{held_call, timer_ends, timer_spent, timer_follows}
use Rattle.sidecar_requests.proofs.timer.hold_timer.Goals as goal

pub returns-in-Err-clause-served : goal.returns-in-Err-clause-served
returns-in-Err-clause-served g c =
    timer_spent c.args.node.now c.args.keys.hold c.args.event c.args.seats.now c.hold_step.new.seats c.in-Err.field-0 c.refused.result (g.K.Clock.shown c.args.clock.now) c.in-Err.ensures.entry c.in-Err.ensures.spent c.refused.ensures

pub returns-in-Held-clause-served : goal.returns-in-Held-clause-served
returns-in-Held-clause-served g c =
    let node = c.args.node.now in
    let middle = c.hold_step.new.seats in
    let after = c.release_step-said.new.seats in
    let first = g.K.Clock.shown c.args.clock.now in
    let last = g.K.Clock.shown c.release_step-said.new.clock in
    let b = c.step_book-got.ensures in
    let s = c.release_step-said.ensures in
    let h = held_call node c.args.keys.release c.args.event middle c.step_book-got.new.seats after c.part_of-part.result first last c.step_book-got.result c.release_step-said.result c.timer_answer.result
    c.part_of-part.ensures.part b.entry b.spent s.clock s.entry s.spent c.timer_answer.ensures in
    timer_follows node c.args.keys.hold c.args.event c.args.seats.now middle after c.args.keys.release c.in-Ok.reply c.timer_answer.result first last h.0 c.requires.release c.in-Ok.ensures.entry h.1 (rw c.in-Held.is h.2)

pub returns-in_default-clause-served : goal.returns-in_default-clause-served
returns-in_default-clause-served g c =
    let node = c.args.node.now in
    let after = c.hold_step.new.seats in
    let now = g.K.Clock.shown c.args.clock.now in
    let answer = c.refused-in_default.result in
    timer_follows node c.args.keys.hold c.args.event c.args.seats.now after after c.args.keys.release c.in-Ok.reply answer now now [] c.requires.release c.in-Ok.ensures.entry (acts_none after)
    (timer_ends node c.args.keys.release c.args.event after c.in-Ok.reply c.refusal_of.result answer now c.in_default.not-Held c.refused-in_default.ensures c.refusal_of.ensures)
