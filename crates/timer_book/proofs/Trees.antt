-- A place cuts timers in order in two, and the timers of an actor are next to each other; a timer that is changed in a
-- tree.
use Rattle.std.proofs.Common.{◌≡◌, ◌⊎◌, inl, inr, ℕ, Bool, true, false, List, [], ◌∷◌, Option, Some, None, refl, sym, ap, ◌∙◌}
use Rattle.std.specs.List.{AllByRecursion}
use Rattle.std.specs.declared.cmp.Ordering.{Ordering}
use Rattle.std.specs.declared.cmp.Ordering.TheVariants.{Less, Equal, Greater}
use Rattle.std.proofs.lemmas.Cmp.{tied_itself}
use Rattle.actor_names.specs.declared.actor_key.ActorKey.{ActorKey}
use Rattle.lists_and_limits.specs.Cuts.{AreBehind, NoneBefore, IsCut, IsRun}
use Rattle.lists_and_limits.specs.Lists.{count_at, without_all, with_changed}
use Rattle.lists_and_limits.proofs.Each.{each_found, each_weaker}
use Rattle.lists_and_limits.proofs.Orders.{cut_key}
use Rattle.timer_book.specs.declared.entry.TimerEntry.{TimerEntry}
use Rattle.timer_book.specs.Entries.{entry_place, actor_place, place_cmp, at_place, is_at, is_of, Ascends, entry_at, count_of, without_actor}
use Rattle.timer_book.specs.Changes.{changed, changed_entry}
use Rattle.timer_book.proofs.Places.{total}
use Rattle.timer_book.proofs.Actors.{is_of-order, before_on, after_on}

less-equal : {o : Ordering} → o ≡ Less → o ≡ Equal → ⊥
less-equal l e = cc

abbrev IsAfter : TimerEntry → TimerEntry → Type 0
IsAfter x y = place_cmp (entry_place x) (entry_place y) ≡ Less

-- a place cuts timers in order in two
pub cut_place : (p : List (List ℕ)) (xs : List TimerEntry) → Ascends xs → IsCut (at_place p) xs
cut_place = cut_key entry_place place_cmp total

-- ---- the timers of an actor

module _ (key : ActorKey) where
  abbrev pub at_actor : TimerEntry → Ordering
  at_actor e = place_cmp (actor_place e.key) (actor_place key)

  behind_actor : (x : TimerEntry) (xs : List TimerEntry) → at_actor x ≡ Greater → AllByRecursion (IsAfter x) xs → AreBehind at_actor xs
  behind_actor x xs is b = each_weaker (IsAfter x) (λ y. at_actor y ≡ Greater) (λ y l. after_on x y l key is) xs b

  not_before : (o : Ordering) (x y : TimerEntry) → at_actor y ≡ o → at_actor x ≡ Equal → place_cmp (entry_place x) (entry_place y) ≡ Less → (at_actor y ≡ Equal) ⊎ (at_actor y ≡ Greater)
  not_before Less x y at is h = absurd (less-equal (before_on x y h key at) is)
  not_before Equal x y at is h = inl at
  not_before Greater x y at is h = inr at

  none_before : (x : TimerEntry) (xs : List TimerEntry) → at_actor x ≡ Equal → AllByRecursion (IsAfter x) xs → NoneBefore at_actor xs
  none_before x xs is b = each_weaker (IsAfter x) (λ y. (at_actor y ≡ Equal) ⊎ (at_actor y ≡ Greater)) (λ y l. not_before (at_actor y) x y refl is l) xs b

  actor_side : (o : Ordering) (x : TimerEntry) (xs : List TimerEntry) → at_actor x ≡ o → AllByRecursion (IsAfter x) xs → (at_actor x ≡ Less) ⊎ (((at_actor x ≡ Equal) × NoneBefore at_actor xs) ⊎ ((at_actor x ≡ Greater) × AreBehind at_actor xs))
  actor_side Less x xs is b = inl is
  actor_side Equal x xs is b = inr (inl (is, none_before x xs is b))
  actor_side Greater x xs is b = inr (inr (is, behind_actor x xs is b))

  pub run_actor : (xs : List TimerEntry) → Ascends xs → IsRun at_actor xs
  run_actor [] a = tt
  run_actor (x ∷ xs) a = (actor_side (at_actor x) x xs refl a.0, run_actor xs a.1)

  pub count-actor : (xs : List TimerEntry) → count_at at_actor xs ≡ count_of key xs
  count-actor [] = refl
  count-actor (x ∷ xs) = rw (is_of-order key x, count-actor xs) refl

  pub all-actor : (xs : List TimerEntry) → without_all at_actor xs ≡ without_actor key xs
  all-actor [] = refl
  all-actor (x ∷ xs) = rw (is_of-order key x, all-actor xs) refl

-- ---- a timer that is changed in its place

module _ (p : List (List ℕ)) (moment : ℕ) (left : Option ℕ) (running : Bool) where
  behind_first : (x : TimerEntry) (xs : List TimerEntry) (o : Option TimerEntry) → entry_at p xs ≡ o → AllByRecursion (IsAfter x) xs → changed_entry o moment left running (x ∷ xs) ≡ x ∷ changed_entry o moment left running xs
  behind_first x xs None is b = refl
  behind_first x xs (Some e) is b = rw (each_found (IsAfter x) (at_place p) xs e is b) refl

  pub changed-place : (xs : List TimerEntry) → Ascends xs → with_changed (at_place p) (λ e. changed e moment left running) xs ≡ changed_entry (entry_at p xs) moment left running xs
  changed-place [] a = refl
  changed-place (x ∷ xs) a = go (is_at p x) refl (changed-place xs a.1)
    where
      go : (t : Bool) → is_at p x ≡ t → with_changed (at_place p) (λ e. changed e moment left running) xs ≡ changed_entry (entry_at p xs) moment left running xs → with_changed (at_place p) (λ e. changed e moment left running) (x ∷ xs) ≡ changed_entry (entry_at p (x ∷ xs)) moment left running (x ∷ xs)
      go true is ih = rw (is, tied_itself total (entry_place x)) refl
      go false is ih = rw is (ap (λ ys. x ∷ ys) ih ∙ sym (behind_first x xs (entry_at p xs) refl a.0))
