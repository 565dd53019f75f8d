-- What an end gives, by the answer of the call's cell.
use Rattle.std.proofs.Common.{◌≡◌, ℕ, Bool, List, Option, None, Some, max, refl, sym, ap, ◌∙◌, subst}
use Rattle.std.specs.Prelude.{option_map}
use Rattle.turn_core.specs.declared.cell.Waiter.{Waiter}
use Rattle.turn_core.specs.declared.answer.CellEnd.{CellEnd}
use Rattle.turn_core.specs.declared.answer.CellEnd.TheVariants as ending
use Rattle.turn_core.specs.Cell.{EndStep, call_of, next_call, without_call, cell_end}
use Rattle.actor_names.specs.declared.actor_key.ActorKey.{ActorKey}
use Rattle.part_model.specs.declared.actor_cell.ActorCell.{ActorCell}
use Rattle.part_core.specs.declared.standing.Standing.{Standing}
use Rattle.part_model.specs.declared.event.Reply.TheVariants as replies
use Rattle.part_model.specs.Cells.{keep_cell, cell_of_call}
use Rattle.part_model.specs.Marks.{marks_of_next, begun_calls}
use Rattle.part_model.specs.Part.{PartStep, may_begin, ended_step, end_cell, end_part, ring_owner}
use Rattle.part_model.specs.Rooms.{PartView, Gives}
use Rattle.part_core.specs.Actors.{ActorsState, state_of, view_of, begun_next_in}
use Rattle.part_core.proofs.AskedGives.{quiet, begun-marks_of_begin}
use Rattle.part_core.proofs.Counts.{end_ended}

pub begun-marks_of_next : (active : Bool) (key : ActorKey) (version : ℕ) (next : Option Waiter) → begun_calls (marks_of_next active key version next) ≡ begun_next_in (option_map call_of next)
begun-marks_of_next active key version None = refl
begun-marks_of_next active key version (Some w) = begun-marks_of_begin active key version w.call w.chain

-- ---- ends

module _ (s : Standing) (old : ActorsState) (call now : ℕ) where
  pub end_none : cell_of_call old.cells call ≡ None → Gives (end_part ring_owner (state_of s old) call now) replies.AlreadyEnded (view_of s (quiet old))
  end_none e =
      let view : PartView = view_of s (quiet old) in
      subst (λ (z : PartStep). Gives z replies.AlreadyEnded view) (sym (ap (λ (f : Option ActorCell). end_cell ring_owner (state_of s old) call now f) e)) (refl, refl)

  ended_as : (c : ActorCell) (b : Bool) (answer : CellEnd) → cell_of_call old.cells call ≡ Some c → cell_end c.inner call b ≡ cell_end c.inner call (may_begin ring_owner (state_of s old) c)
      → answer ≡ (cell_end c.inner call b).answer → end_part ring_owner (state_of s old) call now ≡ ended_step ring_owner (state_of s old) c call now (cell_end c.inner call b).cell answer
  ended_as c b answer e m a =
      ap (λ (f : Option ActorCell). end_cell ring_owner (state_of s old) call now f) e
      ∙ ap (λ (z : EndStep). ended_step ring_owner (state_of s old) c call now z.cell z.answer) (sym m)
      ∙ ap (λ (z : CellEnd). ended_step ring_owner (state_of s old) c call now (cell_end c.inner call b).cell z) (sym a)

  pub end_already : (c : ActorCell) (b : Bool) → cell_of_call old.cells call ≡ Some c → cell_end c.inner call b ≡ cell_end c.inner call (may_begin ring_owner (state_of s old) c)
      → ending.AlreadyEnded ≡ (cell_end c.inner call b).answer → Gives (end_part ring_owner (state_of s old) call now) replies.AlreadyEnded (view_of s (quiet old))
  end_already c b e m a =
      let view : PartView = view_of s (quiet old) in
      subst (λ (z : PartStep). Gives z replies.AlreadyEnded view) (sym (ended_as c b ending.AlreadyEnded e m a)) (refl, refl)

  pub end_waiting : (c : ActorCell) (b : Bool) → cell_of_call old.cells call ≡ Some c → cell_end c.inner call b ≡ cell_end c.inner call (may_begin ring_owner (state_of s old) c)
      → ending.StillWaiting ≡ (cell_end c.inner call b).answer → Gives (end_part ring_owner (state_of s old) call now) replies.StillWaiting (view_of s (quiet old))
  end_waiting c b e m a =
      let view : PartView = view_of s (quiet old) in
      subst (λ (z : PartStep). Gives z replies.StillWaiting view) (sym (ended_as c b ending.StillWaiting e m a)) (refl, refl)

  pub end_gives : (c : ActorCell) (b : Bool) (next : Option ℕ) (cells : List ActorCell) (recent : List ℕ) → cell_of_call old.cells call ≡ Some c
      → cell_end c.inner call b ≡ cell_end c.inner call (may_begin ring_owner (state_of s old) c) → ending.Ended next ≡ (cell_end c.inner call b).answer
      → cells ≡ keep_cell old.cells (record c { inner = (cell_end c.inner call b).cell; last = max c.last now }) → recent ≡ begun_next_in next
      → Gives (end_part ring_owner (state_of s old) call now) (replies.Ended next) (view_of s (record { drawn = old.drawn; cells = cells; recent = recent }))
  end_gives c b next cells recent e m a k r =
      let view : PartView = view_of s (record { drawn = old.drawn; cells = cells; recent = recent }) in
      let rule = may_begin ring_owner (state_of s old) c in
      let h = end_ended c.inner call rule next (ap (λ (z : EndStep). z.answer) (sym m) ∙ sym a) in
      let began : recent ≡ begun_calls (marks_of_next c.active c.key s.opened (next_call rule (without_call c.inner call))) =
      r ∙ ap begun_next_in h.1 ∙ sym (begun-marks_of_next c.active c.key s.opened (next_call rule (without_call c.inner call))) in
      subst (λ (z : PartStep). Gives z (replies.Ended next) view) (sym (ended_as c b (ending.Ended next) e m a)) (refl, rw (k, began) refl)
