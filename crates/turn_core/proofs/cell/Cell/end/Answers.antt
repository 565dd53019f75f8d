use Rattle.std.proofs.Common.{◌≡◌, [], sym, arith, vec_len}
use Rattle.std.proofs.lemmas.Bool.{eqb-true}
use Rattle.turn_core.specs.Cell.{CellState}
use Rattle.turn_core.proofs.CellSteps.{nil_of_length}
use Rattle.turn_core.proofs.CellBounds.{ended_kept, begun_kept, absent_cell, next_cell}
use Rattle.turn_core.proofs.cell.Cell.end.Goals as goal

pub invariant_of-self : goal.invariant_of-self
invariant_of-self c =
    let s : CellState = record { depth = c.self.inside.depth; turns = c.self.inside.turns.items; queue = c.self.inside.queue.items; holds = c.self.inside.holds } in
    (ended_kept s c.args.call c.end_turn.new.turns.items c.self.invariant.0 c.end_turn.ensures.items, omega arith)

pub returns-then-not-end_turn-clause-cell : goal.returns-then-not-end_turn-clause-cell
returns-then-not-end_turn-clause-cell c =
    let s : CellState = record { depth = c.self.inside.depth; turns = c.self.inside.turns.items; queue = c.self.inside.queue.items; holds = c.self.inside.holds } in
    rw (← c.self.view_is) (absent_cell s c.args.call c.args.may_begin c.end_turn.new.turns.items (sym c.if-not-end_turn.ensures.open_turn) c.end_turn.ensures.items)

pub invariant_of-self-then-not-may_begin : goal.invariant_of-self-then-not-may_begin
invariant_of-self-then-not-may_begin c =
    let s : CellState = record { depth = c.self.inside.depth; turns = c.self.inside.turns.items; queue = c.self.inside.queue.items; holds = c.self.inside.holds } in
    (ended_kept s c.args.call c.end_turn.new.turns.items c.self.invariant.0 c.end_turn.ensures.items, omega arith)

pub invariant_of-self-2 : goal.invariant_of-self-2
invariant_of-self-2 c =
    let s : CellState = record { depth = c.self.inside.depth; turns = c.self.inside.turns.items; queue = c.self.inside.queue.items; holds = c.self.inside.holds } in
    let none = eqb-true (vec_len c.end_turn.new.turns) 0 (sym c.if-not-is_empty.ensures) in
    let free : c.end_turn.new.turns.items ≡ [] = nil_of_length c.end_turn.new.turns.items (omega arith) in (
      begun_kept (record s { turns = c.end_turn.new.turns.items }) c.begin_first.new.turns.items c.begin_first.new.queue.items
          (ended_kept s c.args.call c.end_turn.new.turns.items c.self.invariant.0 c.end_turn.ensures.items)
          free c.begin_first.ensures.turns c.begin_first.ensures.queue,
      omega arith,
    )

pub returns-clause-cell : goal.returns-clause-cell
returns-clause-cell c =
    let s : CellState = record { depth = c.self.inside.depth; turns = c.self.inside.turns.items; queue = c.self.inside.queue.items; holds = c.self.inside.holds } in
    let none = eqb-true (vec_len c.end_turn.new.turns) 0 (sym c.if-not-is_empty.ensures) in
    let free : c.end_turn.new.turns.items ≡ [] = nil_of_length c.end_turn.new.turns.items (omega arith) in
    rw (← c.self.view_is) (next_cell s c.args.call c.args.may_begin c.end_turn.new.turns.items c.begin_first.new.turns.items c.begin_first.new.queue.items
    (sym c.if-not-end_turn.ensures.open_turn) c.if-not-may_begin.false c.end_turn.ensures.items free c.begin_first.ensures.turns c.begin_first.ensures.queue)
