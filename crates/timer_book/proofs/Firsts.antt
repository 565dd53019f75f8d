-- The timer that is due is the first of those that wait.
use Rattle.std.proofs.Common.{if◌then◌else◌, ◌≡◌, ℕ, Bool, true, false, ◌&&◌, ◌||◌, ◌==◌, nat_lt, inl, inr, List, [], ◌∷◌, Option, Some, None, refl, sym, ap, subst, ◌∙◌}
use Rattle.std.specs.declared.cmp.Ordering.{Ordering}
use Rattle.std.specs.declared.cmp.Ordering.TheVariants.{Less, Equal, Greater}
use Rattle.std.specs.Cmp.{IsTotalOrder}
use Rattle.std.specs.Ordering.{nat_cmp, ordering_then, is_lt, on, then_cmp}
use Rattle.std.proofs.lemmas.Cmp.{nat_cmp_total, on_total, then_total, tied_itself}
use Rattle.timer_book.specs.declared.entry.TimerEntry.{TimerEntry}
use Rattle.timer_book.specs.Entries.{entry_place, place_cmp, is_earlier, is_waiting, due_entry, NoneEarlier, NoneWaits, IsFirstDue}
use Rattle.timer_book.proofs.Places.{total}

-- by moment, then by key and name
firing_cmp : TimerEntry → TimerEntry → Ordering
firing_cmp = then_cmp (on (λ (e : TimerEntry). e.moment) nat_cmp) (on entry_place place_cmp)

firing_total : IsTotalOrder firing_cmp
unfolding firing_cmp
firing_total = then_total (on_total (λ (e : TimerEntry). e.moment) nat_cmp_total) (on_total entry_place total)

earlier_test : (less same : Bool) (o : Ordering) → (less || (same && is_lt o)) ≡ is_lt (ordering_then (if less then Less else (if same then Equal else Greater)) o)
earlier_test true same o = refl
earlier_test false true o = refl
earlier_test false false o = refl

is_earlier-cmp : (a b : TimerEntry) → is_earlier a b ≡ is_lt (firing_cmp a b)
unfolding firing_cmp
is_earlier-cmp a b = earlier_test (nat_lt a.moment b.moment) (a.moment == b.moment) (place_cmp (entry_place a) (entry_place b))

less-is : (o : Ordering) → is_lt o ≡ true → o ≡ Less
less-is Less h = refl
less-is Equal h = absurd (cc)
less-is Greater h = absurd (cc)

not_before_itself : (e : TimerEntry) → is_earlier e e ≡ false
not_before_itself e = is_earlier-cmp e e ∙ ap is_lt (tied_itself firing_total e)

-- what is not before f is not before an x that is before f
not_before : (y x f : TimerEntry) → is_earlier x f ≡ true → is_earlier y f ≡ false → is_earlier y x ≡ false
not_before y x f h n = go (is_earlier y x) refl
  where
    go : (b : Bool) → is_earlier y x ≡ b → is_earlier y x ≡ false
    go true e =
        let t = firing_total in
        let first = less-is (firing_cmp y x) (sym (is_earlier-cmp y x) ∙ e) in
        let second = less-is (firing_cmp x f) (sym (is_earlier-cmp x f) ∙ h) in
        let both : is_earlier y f ≡ true = is_earlier-cmp y f ∙ ap is_lt (t.trans y x f first second) in
        absurd (cc)
    go false e = e

module _ (now : ℕ) where
  none_before : (x f : TimerEntry) (xs : List TimerEntry) → is_earlier x f ≡ true → NoneEarlier now f xs → NoneEarlier now x xs
  none_before x f [] h n = tt
  none_before x f (y ∷ ys) h n = (λ w. not_before y x f h (n.0 w), none_before x f ys h n.1)

  -- if none is due, none waits
  pub none_waits : (xs : List TimerEntry) → due_entry now xs ≡ None → NoneWaits now xs
  none_waits [] h = tt
  none_waits (y ∷ ys) h = go (is_waiting now y) (due_entry now ys) refl refl (none_waits ys)
    where
      some_is : (b : Bool) (f : TimerEntry) → (if b then Some y else Some f) ≡ None → ⊥
      some_is true f e = cc
      some_is false f e = cc

      go : (b : Bool) (d : Option TimerEntry) → is_waiting now y ≡ b → due_entry now ys ≡ d → (due_entry now ys ≡ None → NoneWaits now ys) → NoneWaits now (y ∷ ys)
      go true None w d ih = absurd (let e : Some y ≡ None = rw (w, d) at h in cc)
      go true (Some f) w d ih = absurd (some_is (is_earlier y f) f (rw (w, d) at h))
      go false d w is ih = (w, ih (rw w at h))

  none_earlier : (x : TimerEntry) (xs : List TimerEntry) → NoneWaits now xs → NoneEarlier now x xs
  none_earlier x [] n = tt
  none_earlier x (y ∷ ys) n = (λ w. absurd (let k = n.0 in cc), none_earlier x ys n.1)

  -- the timer that is due waits, and no waiting timer is to fire earlier
  pub due-first : (xs : List TimerEntry) (e : TimerEntry) → due_entry now xs ≡ Some e → IsFirstDue now e xs
  due-first [] e h = absurd (cc)
  due-first (x ∷ xs) e h = go (is_waiting now x) (due_entry now xs) refl refl (due-first xs)
    where
      by_test : (b : Bool) (f : TimerEntry) → is_waiting now x ≡ true → is_earlier x f ≡ b → IsFirstDue now f xs → (if b then Some x else Some f) ≡ Some e → IsFirstDue now e (x ∷ xs)
      by_test true f w t d same =
          let is : x ≡ e = cc in
          subst (λ (z : TimerEntry). IsFirstDue now z (x ∷ xs)) is (inl refl, w, (λ u. not_before_itself x, none_before x f xs t d.2))
      by_test false f w t d same =
          let is : f ≡ e = cc in
          subst (λ (z : TimerEntry). IsFirstDue now z (x ∷ xs)) is (inr d.0, d.1, (λ u. t, d.2))

      go : (b : Bool) (d : Option TimerEntry) → is_waiting now x ≡ b → due_entry now xs ≡ d → ((f : TimerEntry) → due_entry now xs ≡ Some f → IsFirstDue now f xs) → IsFirstDue now e (x ∷ xs)
      go true None w d ih =
          let same : Some x ≡ Some e = rw (w, d) at h in
          let is : x ≡ e = cc in
          subst (λ (z : TimerEntry). IsFirstDue now z (x ∷ xs)) is (inl refl, w, (λ u. not_before_itself x, none_earlier x xs (none_waits xs d)))
      go true (Some f) w d ih = by_test (is_earlier x f) f w refl (ih f d) (rw (w, d) at h)
      go false d w is ih =
          let r = ih e (rw w at h) in
          (inr r.0, r.1, (λ u. absurd (cc), r.2))
