use Rattle.std.proofs.Common.{◌≡◌, false, sym, ap, arith}
use Rattle.turn_core.specs.Cell.{CellState, PollStep, has_turn}
use Rattle.turn_core.proofs.Places.{of_waiter, found_within}
use Rattle.turn_core.proofs.CellBounds.{poll_gone, poll_moved, poll_waits, polled_kept}
use Rattle.turn_core.proofs.cell.Cell.poll.Goals as goal

pub index-requires : goal.index-requires
index-requires c = let l = found_within (of_waiter c.args.call) c.self.inside.queue.items c.in-Some.at (sym c.in-Some.ensures) in omega arith

pub take_at-moved-requires : goal.take_at-moved-requires
take_at-moved-requires c = found_within (of_waiter c.args.call) c.self.inside.queue.items c.in-Some.at (sym c.in-Some.ensures)

pub invariant_of-self : goal.invariant_of-self
invariant_of-self c =
    let s : CellState = record { depth = c.self.inside.depth; turns = c.self.inside.turns.items; queue = c.self.inside.queue.items; holds = c.self.inside.holds } in
    (polled_kept s c.args.call c.in-Some.at c.take_at-moved.new.queue.items c.self.invariant.0 (sym c.in-Some.ensures) c.take_at-moved.ensures.rest, c.self.invariant.1)

pub returns-then-index-clause-answer : goal.returns-then-index-clause-answer
returns-then-index-clause-answer c =
    let s : CellState = record { depth = c.self.inside.depth; turns = c.self.inside.turns.items; queue = c.self.inside.queue.items; holds = c.self.inside.holds } in
    let closed : has_turn c.args.call s.turns ≡ false = rw c.deref.ensures.value at (sym c.if-is_open.ensures) in
    rw (← c.self.view_is) (sym (ap (λ (p : PollStep). p.answer) (poll_moved s c.args.call c.in-Some.at c.index.result.now closed (sym c.in-Some.ensures) c.index.ensures c.if-index.true)))

pub returns-then-index-clause-cell : goal.returns-then-index-clause-cell
returns-then-index-clause-cell c =
    let s : CellState = record { depth = c.self.inside.depth; turns = c.self.inside.turns.items; queue = c.self.inside.queue.items; holds = c.self.inside.holds } in
    let closed : has_turn c.args.call s.turns ≡ false = rw c.deref.ensures.value at (sym c.if-is_open.ensures) in
    rw (← c.self.view_is, c.take_at-moved.ensures.rest) (sym (ap (λ (p : PollStep). p.cell) (poll_moved s c.args.call c.in-Some.at c.index.result.now closed (sym c.in-Some.ensures) c.index.ensures c.if-index.true)))

pub returns-in-None-clause-answer : goal.returns-in-None-clause-answer
returns-in-None-clause-answer c =
    let s : CellState = record { depth = c.self.inside.depth; turns = c.self.inside.turns.items; queue = c.self.inside.queue.items; holds = c.self.inside.holds } in
    let closed : has_turn c.args.call s.turns ≡ false = rw c.deref.ensures.value at (sym c.if-is_open.ensures) in
    rw (← c.self.view_is) (sym (ap (λ (p : PollStep). p.answer) (poll_gone s c.args.call closed (sym c.in-None.ensures))))

pub returns-in-None-clause-cell : goal.returns-in-None-clause-cell
returns-in-None-clause-cell c =
    let s : CellState = record { depth = c.self.inside.depth; turns = c.self.inside.turns.items; queue = c.self.inside.queue.items; holds = c.self.inside.holds } in
    let closed : has_turn c.args.call s.turns ≡ false = rw c.deref.ensures.value at (sym c.if-is_open.ensures) in
    rw (← c.self.view_is) (sym (ap (λ (p : PollStep). p.cell) (poll_gone s c.args.call closed (sym c.in-None.ensures))))

pub returns-else-index-clause-answer : goal.returns-else-index-clause-answer
returns-else-index-clause-answer c =
    let s : CellState = record { depth = c.self.inside.depth; turns = c.self.inside.turns.items; queue = c.self.inside.queue.items; holds = c.self.inside.holds } in
    let closed : has_turn c.args.call s.turns ≡ false = rw c.deref.ensures.value at (sym c.if-is_open.ensures) in
    rw (← c.self.view_is) (sym (ap (λ (p : PollStep). p.answer) (poll_waits s c.args.call c.in-Some.at c.index.result.now closed (sym c.in-Some.ensures) c.index.ensures c.if-index.false)))

pub returns-else-index-clause-cell : goal.returns-else-index-clause-cell
returns-else-index-clause-cell c =
    let s : CellState = record { depth = c.self.inside.depth; turns = c.self.inside.turns.items; queue = c.self.inside.queue.items; holds = c.self.inside.holds } in
    let closed : has_turn c.args.call s.turns ≡ false = rw c.deref.ensures.value at (sym c.if-is_open.ensures) in
    rw (← c.self.view_is) (sym (ap (λ (p : PollStep). p.cell) (poll_waits s c.args.call c.in-Some.at c.index.result.now closed (sym c.in-Some.ensures) c.index.ensures c.if-index.false)))
