-- A timer that is changed in its place: the timers stay in order, and as many.
use Rattle.std.proofs.Common.{◌≡◌, ℕ, ◌≤◌, Bool, List, length, Option, Some, None, refl, ◌∙◌, arith}
use Rattle.lists_and_limits.proofs.Maps.{found-is, found-tied, length-put_found}
use Rattle.lists_and_limits.proofs.Orders.{ascends_put}
use Rattle.timer_book.specs.declared.entry.TimerEntry.{TimerEntry}
use Rattle.timer_book.specs.Entries.{entry_place, place_cmp, at_place, Ascends, entry_at}
use Rattle.timer_book.specs.Changes.{changed, changed_entry}
use Rattle.timer_book.proofs.Places.{total}

module _ (p : List (List ℕ)) (xs : List TimerEntry) (a : Ascends xs) (moment : ℕ) (left : Option ℕ) (running : Bool) where
  pub ascends_changed : Ascends (changed_entry (entry_at p xs) moment left running xs)
  ascends_changed = go (entry_at p xs)
    where
      go : (o : Option TimerEntry) → Ascends (changed_entry o moment left running xs)
      go None = a
      go (Some e) = ascends_put entry_place place_cmp total (changed e moment left running) xs a

  pub length_changed : length (changed_entry (entry_at p xs) moment left running xs) ≤ length xs
  length_changed = go (entry_at p xs) refl
    where
      go : (o : Option TimerEntry) → entry_at p xs ≡ o → length (changed_entry o moment left running xs) ≤ length xs
      go None is = omega arith
      go (Some e) is =
          let there : entry_at (entry_place e) xs ≡ Some e = found-tied entry_place place_cmp total (entry_place e) p (found-is (at_place p) e xs is) xs ∙ is in
          let same = length-put_found entry_place place_cmp total (changed e moment left running) e xs a there in
          omega arith
