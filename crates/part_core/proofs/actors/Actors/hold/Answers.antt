use Rattle.std.proofs.Common.{◌≡◌, ◌+◌, refl, sym, ◌∙◌, subst, arith, vec_capacity}
use Rattle.turn_core.specs.Cell.{with_hold}
use Rattle.part_model.specs.declared.actor_cell.ActorCell.{ActorCell}
use Rattle.part_model.specs.Cells.{keep_cell}
use Rattle.part_model.specs.declared.event.Reply.TheVariants as replies
use Rattle.part_model.specs.Part.{hold_part, ring_owner}
use Rattle.part_model.specs.Rooms.{Gives}
use Rattle.part_core.specs.Actors.{ActorsState, state_of, view_of}
use Rattle.part_core.proofs.Numbers.{numbered_hold}
use Rattle.part_core.proofs.Kept.{found_numbered, kept_cell}
use Rattle.part_core.proofs.HoldGives.{hold_gives}
use Rattle.part_core.proofs.actors.Actors.hold.Goals as goal

pub hold-requires : goal.hold-requires
hold-requires c =
    let k = c.self.invariant in
    let f = c.in-Some.ensures.1 in
    let n = found_numbered c.self.inside.drawn c.self.inside.cells (vec_capacity c.self.inside.recent) k c.in-Some.slot c.in-Some.cell.now f in
    let h = n.held in
    rw f.at (omega arith)

pub invariant_of-self-2 : goal.invariant_of-self-2
invariant_of-self-2 c =
    let k = c.self.invariant in
    let cell = c.in-Some.cell.now in
    let f = c.in-Some.ensures.1 in
    let x : ActorCell = record cell { inner = with_hold cell.inner } in
    let h : c.hold.new.self.cells ≡ keep_cell c.self.inside.cells.cells x = rw f.at at c.hold.ensures in
    let n = found_numbered c.self.inside.drawn c.self.inside.cells (vec_capacity c.self.inside.recent) k c.in-Some.slot cell f in
    let a = k.counted in
    let b = k.has_room in
    let d = c.clear.ensures.capacity in
    rw h (kept_cell c.self.inside.drawn c.self.inside.cells (vec_capacity c.self.inside.recent) k c.in-Some.slot cell f x (c.self.inside.drawn + 1) _ refl (numbered_hold c.self.inside.drawn cell.inner n) (omega arith) (omega arith) (omega arith) (omega arith))

pub returns : goal.returns
returns c =
    let s = c.args.standing.now in
    let old : ActorsState = record { drawn = c.self.inside.drawn; cells = c.self.inside.cells.cells; recent = c.self.inside.recent.items } in
    let cell = c.in-Some.cell.now in
    let f = c.in-Some.ensures.1 in
    let x : ActorCell = record cell { inner = with_hold cell.inner } in
    let h : c.hold.new.self.cells ≡ keep_cell c.self.inside.cells.cells x = rw f.at at c.hold.ensures in
    rw (← c.self.view_is) (subst (λ (v : ActorsState). Gives (hold_part ring_owner (state_of s old) c.args.key.now) (replies.Held (old.drawn + 1)) (view_of s v))
    (λ i. record { drawn = old.drawn + 1; cells = c.hold.new.self.cells; recent = sym c.clear.ensures.items i })
    (hold_gives s old c.args.key.now cell c.hold.new.self.cells c.in-Some.ensures.0 (sym c.is_awake.ensures ∙ c.if-not-is_awake.false) (omega arith) h))
