use Rattle.std.proofs.Common.{◌≡◌, false, sym, ap, arith}
use Rattle.turn_core.specs.Cell.{CellState, PollStep, has_turn}
use Rattle.turn_core.proofs.Places.{of_waiter, found_within}
use Rattle.turn_core.proofs.CellBounds.{poll_gone, poll_moved, poll_waits}
use Rattle.turn_core.proofs.cell.Cell.look.Goals as goal

pub index-requires : goal.index-requires
index-requires c = let l = found_within (of_waiter c.args.call) c.self.inside.queue.items c.in-Some.at (sym c.in-Some.ensures) in omega arith

pub returns-then-index : goal.returns-then-index
returns-then-index c =
    let s : CellState = record { depth = c.self.inside.depth; turns = c.self.inside.turns.items; queue = c.self.inside.queue.items; holds = c.self.inside.holds } in
    let closed : has_turn c.args.call s.turns ≡ false = rw c.deref.ensures.value at (sym c.if-is_open.ensures) in
    rw (← c.self.view_is) (sym (ap (λ (p : PollStep). p.answer) (poll_moved s c.args.call c.in-Some.at c.index.result.now closed (sym c.in-Some.ensures) c.index.ensures c.if-index.true)))

pub returns-in-None : goal.returns-in-None
returns-in-None c =
    let s : CellState = record { depth = c.self.inside.depth; turns = c.self.inside.turns.items; queue = c.self.inside.queue.items; holds = c.self.inside.holds } in
    let closed : has_turn c.args.call s.turns ≡ false = rw c.deref.ensures.value at (sym c.if-is_open.ensures) in
    rw (← c.self.view_is) (sym (ap (λ (p : PollStep). p.answer) (poll_gone s c.args.call closed (sym c.in-None.ensures))))

pub returns-else-index : goal.returns-else-index
returns-else-index c =
    let s : CellState = record { depth = c.self.inside.depth; turns = c.self.inside.turns.items; queue = c.self.inside.queue.items; holds = c.self.inside.holds } in
    let closed : has_turn c.args.call s.turns ≡ false = rw c.deref.ensures.value at (sym c.if-is_open.ensures) in
    rw (← c.self.view_is) (sym (ap (λ (p : PollStep). p.answer) (poll_waits s c.args.call c.in-Some.at c.index.result.now closed (sym c.in-Some.ensures) c.index.ensures c.if-index.false)))
