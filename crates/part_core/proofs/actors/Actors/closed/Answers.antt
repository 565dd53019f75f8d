use Rattle.std.proofs.Common.{◌≡◌, ◌++◌, ℕ, List, Option, length, refl, ap, ◌∙◌, arith, vec_capacity}
use Rattle.turn_core.specs.Cell.{next_call}
use Rattle.turn_core.proofs.Leaves.{begins_keeps}
use Rattle.part_model.specs.declared.actor_cell.ActorCell.{ActorCell}
use Rattle.part_model.specs.Cells.{calls_in, keep_cell}
use Rattle.part_cells.specs.Slots.{closed_cell}
use Rattle.part_model.proofs.Elements.{In-cell_at}
use Rattle.part_model.proofs.Sizes.{within_total}
use Rattle.part_core.specs.Actors.{ActorsState, begun_next_in}
use Rattle.part_core.proofs.Counts.{begun-in_queue}
use Rattle.part_core.proofs.Numbers.{numbered_next, next_in_queue}
use Rattle.part_core.proofs.Kept.{found_numbered, kept_within}
use Rattle.part_core.proofs.HoldGives.{closed_gives}
use Rattle.part_core.proofs.Owned.{own_if_active}
use Rattle.part_core.proofs.actors.Actors.closed.Goals as goal

pub closed-next-requires : goal.closed-next-requires
closed-next-requires c = let f = c.in-Some.ensures.1 in rw f.at c.if-not-cell.false

pub note_next-requires : goal.note_next-requires
note_next-requires c =
    let k = c.self.invariant in
    let cell = c.in-Some.cell.now in
    let f = c.in-Some.ensures.1 in
    let h = rw f.at at c.closed-next.ensures in
    let w = within_total calls_in c.self.inside.cells.cells cell (In-cell_at c.self.inside.cells.cells cell.key cell f.here) in
    let a = k.has_room in
    let d = c.clear.ensures.capacity in
    let e = ap (λ (ns : List ℕ). length ns) c.clear.ensures.items in
    let b = begun-in_queue cell.inner c.is_served-may_begin.result in
    let q = ap (λ (n : Option ℕ). length (begun_next_in n)) h.0 in
    omega arith

pub invariant_of-self-2 : goal.invariant_of-self-2
invariant_of-self-2 c =
    let k = c.self.invariant in
    let cell = c.in-Some.cell.now in
    let f = c.in-Some.ensures.1 in
    let b = c.is_served-may_begin.result in
    let x : ActorCell = closed_cell cell b in
    let h : c.closed-next.new.self.cells ≡ keep_cell c.self.inside.cells.cells x = (rw f.at at c.closed-next.ensures).1 in
    let n = found_numbered c.self.inside.drawn c.self.inside.cells (vec_capacity c.self.inside.recent) k c.in-Some.slot cell f in
    let d = c.clear.ensures.capacity in
    let r = c.note_next.ensures.room in
    let m = (begins_keeps b cell.inner).as_many in
    rw h (kept_within c.self.inside.drawn c.self.inside.cells (vec_capacity c.self.inside.recent) k c.in-Some.slot cell f x _ refl
    (numbered_next c.self.inside.drawn cell.inner (next_call b cell.inner) (next_in_queue b cell.inner) n) (omega arith) (omega arith))

pub returns : goal.returns
returns c =
    let s = c.args.standing.now in
    let old : ActorsState = record { drawn = c.self.inside.drawn; cells = c.self.inside.cells.cells; recent = c.self.inside.recent.items } in
    let cell = c.in-Some.cell.now in
    let f = c.in-Some.ensures.1 in
    let b = c.is_served-may_begin.result in
    let x : ActorCell = closed_cell cell b in
    let answer = (rw f.at at c.closed-next.ensures).0 in
    let h : c.closed-next.new.self.cells ≡ keep_cell c.self.inside.cells.cells x = (rw f.at at c.closed-next.ensures).1 in
    rw (← c.self.view_is) (closed_gives s old c.args.key.now cell (next_call b cell.inner) c.closed-next.result c.closed-next.new.self.cells c.note_next.new.calls.items c.in-Some.ensures.0 c.if-not-cell.false
    (ap (λ m. next_call m cell.inner) c.is_served-may_begin.ensures) answer h
    (c.note_next.ensures.items ∙ ap (λ (l : List ℕ). l ++ begun_next_in c.closed-next.result) c.clear.ensures.items))

pub is_served-may_begin-requires-clause-owned : goal.is_served-may_begin-requires-clause-owned
is_served-may_begin-requires-clause-owned c =
    let s = c.args.standing.now in
    let old : ActorsState = record { drawn = c.self.inside.drawn; cells = c.self.inside.cells.cells; recent = c.self.inside.recent.items } in
    let cell = c.in-Some.cell.now in
    own_if_active s old cell (rw (← c.self.view_is) at c.requires) (In-cell_at old.cells cell.key cell c.in-Some.ensures.1.here)
