use Rattle.std.proofs.Common.{◌≡◌, max, refl, sym, subst, arith, vec_capacity}
use Rattle.std.proofs.lemmas.Bool.{ne_eqb}
use Rattle.turn_core.specs.Cell.{without_hold}
use Rattle.part_model.specs.declared.actor_cell.ActorCell.{ActorCell}
use Rattle.part_model.specs.Cells.{keep_cell}
use Rattle.part_model.specs.declared.event.Reply.TheVariants as replies
use Rattle.part_model.specs.Part.{release_part, ring_owner}
use Rattle.part_model.specs.Rooms.{Gives}
use Rattle.part_core.specs.Actors.{ActorsState, state_of, view_of}
use Rattle.part_core.proofs.Numbers.{numbered_release}
use Rattle.part_core.proofs.Kept.{found_numbered, kept_within}
use Rattle.part_core.proofs.HoldGives.{release_gives}
use Rattle.part_core.proofs.actors.Actors.release.Goals as goal

pub invariant_of-self-2 : goal.invariant_of-self-2
invariant_of-self-2 c =
    let k = c.self.invariant in
    let cell = c.in-Some.cell.now in
    let f = c.in-Some.ensures.1 in
    let x : ActorCell = record cell { inner = without_hold cell.inner; last = max cell.last c.args.now } in
    let h : c.release.new.self.cells ≡ keep_cell c.self.inside.cells.cells x = rw f.at at c.release.ensures in
    let n = found_numbered c.self.inside.drawn c.self.inside.cells (vec_capacity c.self.inside.recent) k c.in-Some.slot cell f in
    let d = c.clear.ensures.capacity in
    rw h (kept_within c.self.inside.drawn c.self.inside.cells (vec_capacity c.self.inside.recent) k c.in-Some.slot cell f x _ refl (numbered_release c.self.inside.drawn cell.inner n) (omega arith) (omega arith))

pub returns : goal.returns
returns c =
    let s = c.args.standing.now in
    let old : ActorsState = record { drawn = c.self.inside.drawn; cells = c.self.inside.cells.cells; recent = c.self.inside.recent.items } in
    let cell = c.in-Some.cell.now in
    let f = c.in-Some.ensures.1 in
    let x : ActorCell = record cell { inner = without_hold cell.inner; last = max cell.last c.args.now } in
    let h : c.release.new.self.cells ≡ keep_cell c.self.inside.cells.cells x = rw f.at at c.release.ensures in
    let some = c.holds.ensures.count in
    rw (← c.self.view_is) (subst (λ (v : ActorsState). Gives (release_part ring_owner (state_of s old) c.args.key.now c.args.now) replies.Released (view_of s v))
    (λ i. record { drawn = old.drawn; cells = c.release.new.self.cells; recent = sym c.clear.ensures.items i })
    (release_gives s old c.args.key.now c.args.now cell c.release.new.self.cells c.in-Some.ensures.0 (ne_eqb cell.inner.holds 0 (λ e. absurd (omega arith))) h))
