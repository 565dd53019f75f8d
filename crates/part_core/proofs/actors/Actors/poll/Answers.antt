use Rattle.std.proofs.Common.{◌≡◌, refl, sym, ◌∙◌, arith, vec_capacity}
use Rattle.turn_core.specs.Cell.{cell_poll}
use Rattle.turn_core.proofs.Leaves.{polled_leaves}
use Rattle.part_model.specs.declared.actor_cell.ActorCell.{ActorCell}
use Rattle.part_model.specs.Cells.{keep_cell}
use Rattle.part_core.specs.Actors.{state_of}
use Rattle.part_core.proofs.Numbers.{numbered_poll}
use Rattle.part_core.proofs.Kept.{found_numbered, kept_within}
use Rattle.part_core.proofs.Wants.{moved_hands}
use Rattle.part_core.proofs.actors.Actors.poll.Goals as goal

pub invariant_of-self-in-Ok-moved_reply : goal.invariant_of-self-in-Ok-moved_reply
invariant_of-self-in-Ok-moved_reply c =
    let k = c.self.invariant in
    let cell = c.in-Some.cell.now in
    let f = c.in-Some.ensures.1 in
    let x : ActorCell = record cell { inner = (cell_poll cell.inner c.args.call).cell } in
    let h : c.take_moved.new.self.cells ≡ keep_cell c.self.inside.cells.cells x = rw f.at at c.take_moved.ensures in
    let moved = sym c.look.ensures ∙ c.in-Moved.is in
    let l = (polled_leaves cell.inner c.args.call moved).fewer in
    let n = found_numbered c.self.inside.drawn c.self.inside.cells (vec_capacity c.self.inside.recent) k c.in-Some.slot cell f in
    let d = c.clear.ensures.capacity in
    rw h (kept_within c.self.inside.drawn c.self.inside.cells (vec_capacity c.self.inside.recent) k c.in-Some.slot cell f x _ refl (numbered_poll c.self.inside.drawn cell.inner c.args.call n) (omega arith) (omega arith))

pub returns-in-Err-moved_reply-clause-memory : goal.returns-in-Err-moved_reply-clause-memory
returns-in-Err-moved_reply-clause-memory c =
    let p = state_of c.args.standing.now (record { drawn = c.self.inside.drawn; cells = c.self.inside.cells.cells; recent = c.self.inside.recent.items }) in
    rw (← c.self.view_is) (λ _. moved_hands p c.args.call c.in-Some.cell.now c.in-Some.ensures.0 (sym c.look.ensures ∙ c.in-Moved.is) c.in-Err-moved_reply.ensures.owned)
