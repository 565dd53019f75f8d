-- The calls that a log has, when one log follows another.
use Rattle.std.proofs.Common.{◌≡◌, ◌≢◌, ◌⊎◌, inl, inr, ◌<◌, ◌+◌, ◌-◌, eqb, ℕ, zero, suc, Bool, true, false, List, [], ◌∷◌, ◌++◌, length, slice_get, Option, None, Some, refl, sym, ap, ◌∙◌, arith, append_assoc, append-nil}
use Rattle.std.proofs.lemmas.Bool.{ne_eqb, eq-eqb}
use Rattle.world_events.specs.Solo.{Call}
use Rattle.solo_run.specs.World.{key_of_call}
use Rattle.solo_run.specs.Runs.{Said}
use Rattle.solo_run.specs.TurnsTold.{AskedCall, call_in, asked_call, number_in, numbers_of, CountsFromOne}

-- a call that a log has is in the longer one
pub asked-found : (n : ℕ) (asked : AskedCall) (log more : List Said) → asked_call n log ≡ Some asked → asked_call n (log ++ more) ≡ Some asked
asked-found n asked [] more h = absurd (cc)
asked-found n asked (s ∷ log) more h = by (call_in n s.event) refl (asked-found n asked log more)
  where
    by : (r : Option AskedCall) → call_in n s.event ≡ r → (asked_call n log ≡ Some asked → asked_call n (log ++ more) ≡ Some asked) → asked_call n ((s ∷ log) ++ more) ≡ Some asked
    by None e ih = let there : asked_call n log ≡ Some asked = rw e at h in rw e (ih there)
    by (Some x) e ih = let same : Some x ≡ Some asked = rw e at h in rw e same

-- a call that it doesn't have is looked up in what follows
pub asked-later : (n : ℕ) (log more : List Said) → asked_call n log ≡ None → asked_call n (log ++ more) ≡ asked_call n more
asked-later n [] more h = refl
asked-later n (s ∷ log) more h = by (call_in n s.event) refl (asked-later n log more)
  where
    by : (r : Option AskedCall) → call_in n s.event ≡ r → (asked_call n log ≡ None → asked_call n (log ++ more) ≡ asked_call n more) → asked_call n ((s ∷ log) ++ more) ≡ asked_call n more
    by None e ih = let there : asked_call n log ≡ None = rw e at h in rw e (ih there)
    by (Some x) e ih = let found : Some x ≡ None = rw e at h in absurd (cc)

pub call_in-own : (n : ℕ) (key : List ℕ) (chain : Option (List ℕ)) → call_in n (Call n key chain) ≡ Some (record { key = key; chain = chain })
call_in-own n key chain = rw (eq-eqb n n refl)

pub call_in-other : (n call : ℕ) (key : List ℕ) (chain : Option (List ℕ)) → n ≢ call → call_in n (Call call key chain) ≡ None
call_in-other n call key chain other = rw (ne_eqb n call other)

pub numbers_of-push : (log : List Said) (s : Said) → numbers_of (log ++ s ∷ []) ≡ numbers_of log ++ number_in s.event
numbers_of-push [] s = append-nil (number_in s.event)
numbers_of-push (t ∷ log) s =
    ap (λ (ns : List ℕ). number_in t.event ++ ns) (numbers_of-push log s) ∙ sym (append_assoc (number_in t.event) (numbers_of log) (number_in s.event))

-- ---- one element more

pub get-push : {A : Type 0} (xs : List A) (x y : A) (i : ℕ) → slice_get (xs ++ x ∷ []) i ≡ Some y → (slice_get xs i ≡ Some y) ⊎ ((i ≡ length xs) × (x ≡ y))
get-push [] x y zero h = inr (refl, cc)
get-push [] x y (suc i) h = absurd (cc)
get-push (z ∷ xs) x y zero h = inl h
get-push (z ∷ xs) x y (suc i) h = elim (get-push xs x y i h) [ inl found ↦ inl found | inr last ↦ inr (omega (arith, last.0), last.1) ]

pub counts-push : (numbers : List ℕ) (n : ℕ) → CountsFromOne numbers → n ≡ length numbers + 1 → CountsFromOne (numbers ++ n ∷ [])
counts-push numbers n counts is place number h =
    elim (get-push numbers n number place h) [ inl found ↦ counts place number found | inr last ↦ omega (arith, is, last.0, last.1) ]

-- the actor of a call, after one more call was made
pub key-push : (n : ℕ) (calls : List (Option (List ℕ))) (new : Option (List ℕ)) (key : List ℕ) → key_of_call n (calls ++ new ∷ []) ≡ Some key
    → (key_of_call n calls ≡ Some key) ⊎ ((n ≡ length calls + 1) × (new ≡ Some key))
key-push n calls new key h = by (eqb n 0) refl (slice_get (calls ++ new ∷ []) (n - 1)) refl
  where
    found : (r : Option (List ℕ)) → eqb n 0 ≡ false → slice_get calls (n - 1) ≡ Some r → r ≡ Some key → key_of_call n calls ≡ Some key
    found r e p same = rw (e, p, same)

    by : (z : Bool) → eqb n 0 ≡ z → (r : Option (Option (List ℕ))) → slice_get (calls ++ new ∷ []) (n - 1) ≡ r → (key_of_call n calls ≡ Some key) ⊎ ((n ≡ length calls + 1) × (new ≡ Some key))
    by true e r p = let none : ◌≡◌ {A = Option (List ℕ)} None (Some key) = rw e at h in absurd (cc)
    by false e None p = let none : ◌≡◌ {A = Option (List ℕ)} None (Some key) = rw (e, p) at h in absurd (cc)
    by false e (Some r) p =
        let same : r ≡ Some key = rw (e, p) at h in
        elim (get-push calls new r (n - 1) p) [ inl there ↦ inl (found r e there same) | inr last ↦ inr (after last.0 (above n e), last.1 ∙ same) ]
      where
        above : (m : ℕ) → eqb m 0 ≡ false → 0 < m
        above zero f = absurd (cc)
        above (suc m) f = omega arith

        after : n - 1 ≡ length calls → 0 < n → n ≡ length calls + 1
        after is pos = omega arith
