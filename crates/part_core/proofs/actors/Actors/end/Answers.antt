use Rattle.std.proofs.Common.{◌≡◌, ◌++◌, ℕ, List, length, refl, sym, ap, ◌∙◌, subst, arith, vec_capacity}
use Rattle.turn_core.proofs.Leaves.{ended_leaves}
use Rattle.part_model.specs.declared.actor_cell.ActorCell.{ActorCell}
use Rattle.part_model.specs.Cells.{calls_in, keep_cell}
use Rattle.part_cells.specs.Slots.{ended_cell}
use Rattle.part_model.proofs.Elements.{In-cell_at}
use Rattle.part_model.proofs.Sizes.{within_total}
use Rattle.part_model.specs.declared.event.Reply.TheVariants as replies
use Rattle.part_model.specs.Part.{end_part, may_begin, ring_owner}
use Rattle.part_model.specs.Rooms.{Gives}
use Rattle.part_core.specs.Actors.{ActorsState, state_of, view_of, begun_next_in}
use Rattle.part_core.proofs.Counts.{end_same, begun-short}
use Rattle.part_core.proofs.Numbers.{numbered_end}
use Rattle.part_core.proofs.Kept.{found_numbered, kept_within, kept_cleared}
use Rattle.part_core.proofs.CallGives.{end_already, end_waiting, end_gives}
use Rattle.part_core.proofs.Owned.{own_if_active}
use Rattle.part_core.proofs.actors.Actors.end.Goals as goal

pub note_next-requires : goal.note_next-requires
note_next-requires c =
    let k = c.self.invariant in
    let cell = c.in-Some.cell.now in
    let f = c.in-Some.ensures.1 in
    let h = rw f.at at c.end.ensures in
    let l = (ended_leaves cell.inner c.args.call c.may_hand_over-may_begin.result c.in-Ended.next (sym h.0 ∙ c.in-Ended.is)).fewer in
    let w = within_total calls_in c.self.inside.cells.cells cell (In-cell_at c.self.inside.cells.cells cell.key cell f.here) in
    let a = k.has_room in
    let d = c.clear.ensures.capacity in
    let e = ap (λ (ns : List ℕ). length ns) c.clear.ensures.items in
    let b = begun-short c.in-Ended.next in
    omega arith

pub invariant_of-self-in-Ended : goal.invariant_of-self-in-Ended
invariant_of-self-in-Ended c =
    let k = c.self.invariant in
    let cell = c.in-Some.cell.now in
    let f = c.in-Some.ensures.1 in
    let b = c.may_hand_over-may_begin.result in
    let x : ActorCell = ended_cell cell c.args.call b c.args.now in
    let answer = (rw f.at at c.end.ensures).0 in
    let h : c.end.new.self.cells ≡ keep_cell c.self.inside.cells.cells x = (rw (f.at, c.in-Ended.is) at c.end.ensures).1 in
    let l = (ended_leaves cell.inner c.args.call b c.in-Ended.next (sym answer ∙ c.in-Ended.is)).fewer in
    let n = found_numbered c.self.inside.drawn c.self.inside.cells (vec_capacity c.self.inside.recent) k c.in-Some.slot cell f in
    let d = c.clear.ensures.capacity in
    let r = c.note_next.ensures.room in
    rw h (kept_within c.self.inside.drawn c.self.inside.cells (vec_capacity c.self.inside.recent) k c.in-Some.slot cell f x _ refl (numbered_end c.self.inside.drawn cell.inner c.args.call b n) (omega arith) (omega arith))

pub returns-in-Ended : goal.returns-in-Ended
returns-in-Ended c =
    let s = c.args.standing.now in
    let old : ActorsState = record { drawn = c.self.inside.drawn; cells = c.self.inside.cells.cells; recent = c.self.inside.recent.items } in
    let cell = c.in-Some.cell.now in
    let f = c.in-Some.ensures.1 in
    let b = c.may_hand_over-may_begin.result in
    let x : ActorCell = ended_cell cell c.args.call b c.args.now in
    let answer = (rw f.at at c.end.ensures).0 in
    let h : c.end.new.self.cells ≡ keep_cell c.self.inside.cells.cells x = (rw (f.at, c.in-Ended.is) at c.end.ensures).1 in
    let rule = end_same cell.inner c.args.call b (may_begin ring_owner (state_of s old) cell) c.may_hand_over-may_begin.ensures in
    rw (← c.self.view_is) (end_gives s old c.args.call c.args.now cell b c.in-Ended.next c.end.new.self.cells c.note_next.new.calls.items c.in-Some.ensures.0 rule (sym c.in-Ended.is ∙ answer) h
    (c.note_next.ensures.items ∙ ap (λ (l : List ℕ). l ++ begun_next_in c.in-Ended.next) c.clear.ensures.items))

pub invariant_of-self-in-AlreadyEnded : goal.invariant_of-self-in-AlreadyEnded
invariant_of-self-in-AlreadyEnded c =
    let f = c.in-Some.ensures.1 in
    let h = (rw (f.at, c.in-AlreadyEnded.is) at c.end.ensures).1 in
    rw h (kept_cleared c.self.inside.drawn c.self.inside.cells.cells (vec_capacity c.self.inside.recent) _ c.self.invariant c.clear.ensures.capacity)

pub returns-in-AlreadyEnded : goal.returns-in-AlreadyEnded
returns-in-AlreadyEnded c =
    let s = c.args.standing.now in
    let old : ActorsState = record { drawn = c.self.inside.drawn; cells = c.self.inside.cells.cells; recent = c.self.inside.recent.items } in
    let cell = c.in-Some.cell.now in
    let f = c.in-Some.ensures.1 in
    let b = c.may_hand_over-may_begin.result in
    let answer = (rw f.at at c.end.ensures).0 in
    let h = (rw (f.at, c.in-AlreadyEnded.is) at c.end.ensures).1 in
    let rule = end_same cell.inner c.args.call b (may_begin ring_owner (state_of s old) cell) c.may_hand_over-may_begin.ensures in
    rw (← c.self.view_is) (subst (λ (v : ActorsState). Gives (end_part ring_owner (state_of s old) c.args.call c.args.now) replies.AlreadyEnded (view_of s v))
    (λ i. record { drawn = old.drawn; cells = sym h i; recent = sym c.clear.ensures.items i })
    (end_already s old c.args.call c.args.now cell b c.in-Some.ensures.0 rule (sym c.in-AlreadyEnded.is ∙ answer)))

pub invariant_of-self-in-StillWaiting : goal.invariant_of-self-in-StillWaiting
invariant_of-self-in-StillWaiting c =
    let f = c.in-Some.ensures.1 in
    let h = (rw (f.at, c.in-StillWaiting.is) at c.end.ensures).1 in
    rw h (kept_cleared c.self.inside.drawn c.self.inside.cells.cells (vec_capacity c.self.inside.recent) _ c.self.invariant c.clear.ensures.capacity)

pub returns-in-StillWaiting : goal.returns-in-StillWaiting
returns-in-StillWaiting c =
    let s = c.args.standing.now in
    let old : ActorsState = record { drawn = c.self.inside.drawn; cells = c.self.inside.cells.cells; recent = c.self.inside.recent.items } in
    let cell = c.in-Some.cell.now in
    let f = c.in-Some.ensures.1 in
    let b = c.may_hand_over-may_begin.result in
    let answer = (rw f.at at c.end.ensures).0 in
    let h = (rw (f.at, c.in-StillWaiting.is) at c.end.ensures).1 in
    let rule = end_same cell.inner c.args.call b (may_begin ring_owner (state_of s old) cell) c.may_hand_over-may_begin.ensures in
    rw (← c.self.view_is) (subst (λ (v : ActorsState). Gives (end_part ring_owner (state_of s old) c.args.call c.args.now) replies.StillWaiting (view_of s v))
    (λ i. record { drawn = old.drawn; cells = sym h i; recent = sym c.clear.ensures.items i })
    (end_waiting s old c.args.call c.args.now cell b c.in-Some.ensures.0 rule (sym c.in-StillWaiting.is ∙ answer)))

pub may_hand_over-may_begin-requires-clause-owned : goal.may_hand_over-may_begin-requires-clause-owned
may_hand_over-may_begin-requires-clause-owned c =
    let s = c.args.standing.now in
    let old : ActorsState = record { drawn = c.self.inside.drawn; cells = c.self.inside.cells.cells; recent = c.self.inside.recent.items } in
    let cell = c.in-Some.cell.now in
    own_if_active s old cell (rw (← c.self.view_is) at c.requires) (In-cell_at old.cells cell.key cell c.in-Some.ensures.1.here)
