-- What a hold, a release, the taking of an actor and the end of its deactivation give.
use Rattle.std.proofs.Common.{◌≡◌, ℕ, ◌+◌, ◌<◌, ◌≤◌, ◌^◌, true, false, ◌&&◌, not, List, [], Option, None, Some, is_some, max, refl, sym, ap, ◌∙◌, subst}
use Rattle.std.specs.Prelude.{◌==◌, option_map}
use Rattle.std.proofs.lemmas.Bool.{cond-true, cond-false, le-leb, lt-leb}
use Rattle.actor_names.specs.declared.actor_key.ActorKey.{ActorKey}
use Rattle.turn_core.specs.declared.cell.Waiter.{Waiter}
use Rattle.turn_core.specs.Cell.{call_of, next_call, begun_next, with_hold, without_hold}
use Rattle.part_model.specs.declared.actor_cell.ActorCell.{ActorCell}
use Rattle.part_core.specs.declared.standing.Standing.{Standing}
use Rattle.part_model.specs.declared.event.Reply.TheVariants as replies
use Rattle.part_model.specs.Cells.{cell_at, keep_cell}
use Rattle.part_model.specs.Marks.{begun_calls, marks_of_next}
use Rattle.part_model.specs.Part.{PartStep, is_open, is_own, is_spent, most_drawn, hold_cell, hold_part, release_cell, release_part, first_to_close, close_cell, take_closing, closed_with, closed_cell, closed_part, ring_owner}
use Rattle.part_model.specs.Rooms.{PartView, Gives, GivesInMemory}
use Rattle.part_core.specs.Actors.{ActorsState, state_of, view_of, begun_next_in}
use Rattle.part_core.proofs.AskedGives.{quiet}
use Rattle.part_core.proofs.CallGives.{begun-marks_of_next}

module _ (s : Standing) (old : ActorsState) (key : ActorKey) where
  pub hold_none : cell_at old.cells key ≡ None → Gives (hold_part ring_owner (state_of s old) key) replies.NotActive (view_of s (quiet old))
  hold_none e =
      let view : PartView = view_of s (quiet old) in
      subst (λ (z : PartStep). Gives z replies.NotActive view) (sym (ap (λ (f : Option ActorCell). hold_cell ring_owner (state_of s old) f) e)) (refl, refl)

  hold_as : (c : ActorCell) → cell_at old.cells key ≡ Some c → hold_part ring_owner (state_of s old) key ≡ hold_cell ring_owner (state_of s old) (Some c)
  hold_as c e = ap (λ (f : Option ActorCell). hold_cell ring_owner (state_of s old) f) e

  pub hold_asleep : (c : ActorCell) → cell_at old.cells key ≡ Some c → (c.active && not c.closing) ≡ false → Gives (hold_part ring_owner (state_of s old) key) replies.NotActive (view_of s (quiet old))
  hold_asleep c e f =
      let view : PartView = view_of s (quiet old) in
      subst (λ (z : PartStep). Gives z replies.NotActive view) (sym (hold_as c e ∙ cond-false (c.active && not c.closing) _ _ f)) (refl, refl)

  pub hold_spent : (c : ActorCell) → cell_at old.cells key ≡ Some c → (c.active && not c.closing) ≡ true → 2 ^ 62 ≤ old.drawn
      → Gives (hold_part ring_owner (state_of s old) key) (replies.Spent old.drawn) (view_of s (quiet old))
  hold_spent c e t l =
      let view : PartView = view_of s (quiet old) in
      subst (λ (z : PartStep). Gives z (replies.Spent old.drawn) view)
      (sym (hold_as c e ∙ cond-true (c.active && not c.closing) _ _ t ∙ cond-true (is_spent (state_of s old)) _ _ (le-leb most_drawn old.drawn l))) (refl, refl)

  pub hold_gives : (c : ActorCell) (cells : List ActorCell) → cell_at old.cells key ≡ Some c → (c.active && not c.closing) ≡ true → old.drawn < 2 ^ 62
      → cells ≡ keep_cell old.cells (record c { inner = with_hold c.inner })
      → Gives (hold_part ring_owner (state_of s old) key) (replies.Held (old.drawn + 1)) (view_of s (record { drawn = old.drawn + 1; cells = cells; recent = [] }))
  hold_gives c cells e t l k =
      let view : PartView = view_of s (record { drawn = old.drawn + 1; cells = cells; recent = [] }) in
      subst (λ (z : PartStep). Gives z (replies.Held (old.drawn + 1)) view)
      (sym (hold_as c e ∙ cond-true (c.active && not c.closing) _ _ t ∙ cond-false (is_spent (state_of s old)) _ _ (lt-leb most_drawn old.drawn l)))
      (refl, rw k refl)

  -- ---- releases

  module _ (now : ℕ) where
    release_as : (c : ActorCell) → cell_at old.cells key ≡ Some c → release_part ring_owner (state_of s old) key now ≡ release_cell ring_owner (state_of s old) now (Some c)
    release_as c e = ap (λ (f : Option ActorCell). release_cell ring_owner (state_of s old) now f) e

    pub release_none : cell_at old.cells key ≡ None → Gives (release_part ring_owner (state_of s old) key now) replies.NotHeld (view_of s (quiet old))
    release_none e =
        let view : PartView = view_of s (quiet old) in
        subst (λ (z : PartStep). Gives z replies.NotHeld view) (sym (ap (λ (f : Option ActorCell). release_cell ring_owner (state_of s old) now f) e)) (refl, refl)

    pub release_not : (c : ActorCell) → cell_at old.cells key ≡ Some c → (c.inner.holds == 0) ≡ true → Gives (release_part ring_owner (state_of s old) key now) replies.NotHeld (view_of s (quiet old))
    release_not c e t =
        let view : PartView = view_of s (quiet old) in
        subst (λ (z : PartStep). Gives z replies.NotHeld view) (sym (release_as c e ∙ cond-true (c.inner.holds == 0) _ _ t)) (refl, refl)

    pub release_gives : (c : ActorCell) (cells : List ActorCell) → cell_at old.cells key ≡ Some c → (c.inner.holds == 0) ≡ false
        → cells ≡ keep_cell old.cells (record c { inner = without_hold c.inner; last = max c.last now })
        → Gives (release_part ring_owner (state_of s old) key now) replies.Released (view_of s (record { drawn = old.drawn; cells = cells; recent = [] }))
    release_gives c cells e f k =
        let view : PartView = view_of s (record { drawn = old.drawn; cells = cells; recent = [] }) in
        subst (λ (z : PartStep). Gives z replies.Released view) (sym (release_as c e ∙ cond-false (c.inner.holds == 0) _ _ f)) (refl, rw k refl)

  -- ---- the end of a deactivation

  closed_as : (c : ActorCell) → cell_at old.cells key ≡ Some c → closed_part ring_owner (state_of s old) key ≡ closed_cell ring_owner (state_of s old) (Some c)
  closed_as c e = ap (λ (f : Option ActorCell). closed_cell ring_owner (state_of s old) f) e

  pub closed_gives : (c : ActorCell) (next : Option Waiter) (answer : Option ℕ) (cells : List ActorCell) (recent : List ℕ) → cell_at old.cells key ≡ Some c → c.closing ≡ true
      → next ≡ next_call (is_open s.stage && is_own ring_owner (state_of s old) c.key) c.inner → answer ≡ option_map call_of next
      → cells ≡ keep_cell old.cells (record c { inner = begun_next c.inner next; active = is_some next; closing = false }) → recent ≡ begun_next_in answer
      → Gives (closed_part ring_owner (state_of s old) key) (replies.ClosedDone answer) (view_of s (record { drawn = old.drawn; cells = cells; recent = recent }))
  closed_gives c next answer cells recent e t n a k r =
      let view : PartView = view_of s (record { drawn = old.drawn; cells = cells; recent = recent }) in
      let began : recent ≡ begun_calls (marks_of_next false c.key s.opened next) = r ∙ ap begun_next_in a ∙ sym (begun-marks_of_next false c.key s.opened next) in
      let step = closed_as c e ∙ cond-true c.closing _ _ t ∙ ap (λ (z : Option Waiter). closed_with ring_owner (state_of s old) c z) (sym n) in
      subst (λ (z : PartStep). Gives z (replies.ClosedDone answer) view) (sym step) (ap (λ (z : Option ℕ). replies.ClosedDone z) a, rw (k, began) refl)

-- ---- an actor is taken

module _ (s : Standing) (old : ActorsState) (now : ℕ) where
  pub close_none : first_to_close ring_owner (state_of s old) now old.cells ≡ None → GivesInMemory (take_closing ring_owner (state_of s old) now) replies.NoneClosing (state_of s old) (view_of s (quiet old))
  close_none e =
      let view : PartView = view_of s (quiet old) in
      subst (λ (z : PartStep). Gives z replies.NoneClosing view) (sym (ap (λ (f : Option ActorCell). close_cell ring_owner (state_of s old) f) e)) (refl, refl)

  pub close_gives : (c : ActorCell) (key : ActorKey) (cells : List ActorCell) → first_to_close ring_owner (state_of s old) now old.cells ≡ Some c → key ≡ c.key
      → cells ≡ keep_cell old.cells (record c { closing = true })
      → GivesInMemory (take_closing ring_owner (state_of s old) now) (replies.Close key) (state_of s old) (view_of s (record { drawn = old.drawn; cells = cells; recent = [] }))
  close_gives c key cells e q k =
      let view : PartView = view_of s (record { drawn = old.drawn; cells = cells; recent = [] }) in
      subst (λ (z : PartStep). Gives z (replies.Close key) view) (sym (ap (λ (f : Option ActorCell). close_cell ring_owner (state_of s old) f) e)) (ap (λ (z : ActorKey). replies.Close z) q, rw k refl)
