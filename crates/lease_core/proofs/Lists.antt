-- Elements of lists and their places, and whom a book knows.
use Rattle.std.proofs.Common.{◌≡◌, ◌⊎◌, ℕ, zero, suc, ◌+◌, ◌*◌, ◌<◌, ◌≤◌, max, Bool, true, false, List, [], ◌∷◌, ◌++◌, length, Option, None, Some, refl, sym, ap, ◌∙◌, subst, inl, inr, arith}
use Rattle.std.specs.Prelude.{slice_get, ◌==◌}
use Rattle.std.specs.List.{AllByRecursion}
use Rattle.std.proofs.lemmas.Bool.{cond_both, cond-true, cases_order, and_parts, leb-true, eqb-true}
use Rattle.actor_names.specs.declared.member.Member.{Member}
use Rattle.turn_core.specs.CellSound.{In}
use Rattle.world_events.specs.declared.event.WorldEvent.{WorldEvent}
use Rattle.world_events.specs.declared.event.WorldEvent.TheVariants as lines
use Rattle.cluster_model.proofs.Basics.{In-append, In-right}
use Rattle.turn_core.proofs.Elements.{In-left}
use Rattle.lease_core.specs.declared.book.MemberClock.{MemberClock}
use Rattle.lease_core.specs.Lease.{extended, has_ended, keeps_rate, first_unrated, bad_rate}
use Rattle.lease_core.specs.Book.{member_at, moved, extended_at, extended_of, stops_of, stops_if_ended, stops_for}

module _ {A : Type 0} where
  pub some_same : (x y : A) → Some x ≡ Some y → x ≡ y
  some_same x y e = cc

  pub all_in : (P : A → Type 0) (xs : List A) → AllByRecursion P xs → (x : A) → In x xs → P x
  all_in P [] a x i = absurd i
  all_in P (y ∷ xs) a x (inl e) = subst P (sym e) a.0
  all_in P (y ∷ xs) a x (inr i) = all_in P xs a.1 x i

  pub in_all : (P : A → Type 0) (xs : List A) → ((x : A) → In x xs → P x) → AllByRecursion P xs
  in_all P [] h = tt
  in_all P (y ∷ xs) h = (h y (inl refl), in_all P xs (λ x i. h x (inr i)))

  pub get_in : (xs : List A) (k : ℕ) (x : A) → slice_get xs k ≡ Some x → In x xs
  get_in [] k x e = absurd (cc)
  get_in (y ∷ xs) zero x e = inl (sym (some_same y x e))
  get_in (y ∷ xs) (suc k) x e = inr (get_in xs k x e)

  -- the place of an element of a list with one more at its end
  pub get_pushed : (xs : List A) (y : A) (k : ℕ) (x : A) → slice_get (xs ++ y ∷ []) k ≡ Some x → (slice_get xs k ≡ Some x) ⊎ ((k ≡ length xs) × (x ≡ y))
  get_pushed [] y zero x e = inr (refl, sym (some_same y x e))
  get_pushed [] y (suc k) x e = absurd (cc)
  get_pushed (z ∷ xs) y zero x e = inl e
  get_pushed (z ∷ xs) y (suc k) x e = elim (get_pushed xs y k x e) [ inl h ↦ inl h | inr h ↦ inr ((let a = h.0 in omega arith), h.1) ]

  pub get_kept : (xs : List A) (y : A) (k : ℕ) (x : A) → slice_get xs k ≡ Some x → slice_get (xs ++ y ∷ []) k ≡ Some x
  get_kept [] y k x e = absurd (cc)
  get_kept (z ∷ xs) y zero x e = e
  get_kept (z ∷ xs) y (suc k) x e = get_kept xs y k x e

  pub get_last : (xs : List A) (y : A) → slice_get (xs ++ y ∷ []) (length xs) ≡ Some y
  get_last [] y = refl
  get_last (z ∷ xs) y = get_last xs y

  pub get_low : (xs : List A) (k : ℕ) (x : A) → slice_get xs k ≡ Some x → k < length xs
  get_low [] k x e = absurd (cc)
  get_low (y ∷ xs) zero x e = omega arith
  get_low (y ∷ xs) (suc k) x e = let l = get_low xs k x e in omega arith

  pub get_some : (xs : List A) (k : ℕ) → k < length xs → (x : A) × (slice_get xs k ≡ Some x)
  get_some [] k l = absurd (omega arith)
  get_some (y ∷ xs) zero l = (y, refl)
  get_some (y ∷ xs) (suc k) l = get_some xs k (omega arith)

  pub length_pushed : (xs : List A) (y : A) → length (xs ++ y ∷ []) ≡ suc (length xs)
  length_pushed [] y = refl
  length_pushed (z ∷ xs) y = let e = length_pushed xs y in omega arith

-- ---- members of a book

-- the member is in the book, at its boot
pub record IsKnown (ms : List MemberClock) (m : Member) : Type 0 where
  pub entry : MemberClock
  pub at : member_at ms m.boot ≡ Some entry
  pub same : entry.member ≡ m

-- of one boot there is one entry
pub one_known : (ms : List MemberClock) (m n : Member) (a : IsKnown ms m) (b : IsKnown ms n) → m.boot ≡ n.boot → a.entry ≡ b.entry
one_known ms m n a b e = some_same a.entry b.entry (sym a.at ∙ ap (member_at ms) e ∙ b.at)

pub one_member : (ms : List MemberClock) (m n : Member) (a : IsKnown ms m) (b : IsKnown ms n) → m.boot ≡ n.boot → m ≡ n
one_member ms m n a b e = sym a.same ∙ ap (λ (z : MemberClock). z.member) (one_known ms m n a b e) ∙ b.same

pub member_kept : (ms : List MemberClock) (y : MemberClock) (boot : ℕ) (x : MemberClock) → member_at ms boot ≡ Some x → member_at (ms ++ y ∷ []) boot ≡ Some x
member_kept ms y zero x e = absurd (cc)
member_kept ms y (suc k) x e = get_kept ms y k x e

pub member_in : (ms : List MemberClock) (boot : ℕ) (x : MemberClock) → member_at ms boot ≡ Some x → In x ms
member_in ms zero x e = absurd (cc)
member_in ms (suc k) x e = get_in ms k x e

-- ---- clocks that have moved

-- each step is within the rates
abbrev pub AreRated : ℕ → List ℕ → Type 0
AreRated placement [] = Unit {0}
AreRated placement (step ∷ steps) = (placement ≤ 2 * step) × AreRated placement steps

rated : (placement at : ℕ) (steps : List ℕ) → first_unrated placement at steps ≡ None → AreRated placement steps
rated placement at [] e = tt
rated placement at (step ∷ steps) e =
    let more = rated placement (at + 1) steps in
    cond_both (keeps_rate placement step) _ _ (λ (o : Option ℕ). o ≡ None → AreRated placement (step ∷ steps))
    (λ t f. (leb-true _ _ (and_parts _ _ t).0, more f))
    (λ _ f. absurd (cc)) e

-- a clock after a pass, and its step
pub record HasMoved (placement : ℕ) (old new : MemberClock) : Type 0 where
  pub step : ℕ
  pub rate : placement ≤ 2 * step
  pub clock : new.clock ≡ old.clock + step
  pub lease : new.lease ≡ old.lease
  pub member : new.member ≡ old.member

pub moved_at : (placement : ℕ) (steps : List ℕ) (ms : List MemberClock) (k : ℕ) (m : MemberClock) → AreRated placement steps → length steps ≡ length ms → slice_get ms k ≡ Some m →
    (n : MemberClock) × (slice_get (moved steps ms) k ≡ Some n) × HasMoved placement m n
moved_at placement steps [] k m r l e = absurd (cc)
moved_at placement [] (x ∷ ms) k m r l e = absurd (omega arith)
moved_at placement (step ∷ steps) (x ∷ ms) zero m r l e =
    let s : x ≡ m = some_same x m e in (
      record { member = x.member; clock = x.clock + step; lease = x.lease },
      refl,
      record {
        step = step;
        rate = r.0;
        clock = ap (λ (z : MemberClock). z.clock + step) s;
        lease = ap (λ (z : MemberClock). z.lease) s;
        member = ap (λ (z : MemberClock). z.member) s;
      },
    )
moved_at placement (step ∷ steps) (x ∷ ms) (suc k) m r l e = moved_at placement steps ms k m r.1 (omega arith) e

pub moved_from : (placement : ℕ) (steps : List ℕ) (ms : List MemberClock) (k : ℕ) (n : MemberClock) → AreRated placement steps → length steps ≡ length ms → slice_get (moved steps ms) k ≡ Some n →
    (m : MemberClock) × (slice_get ms k ≡ Some m) × HasMoved placement m n
moved_from placement [] [] k n r l e = absurd (cc)
moved_from placement (step ∷ steps) [] k n r l e = absurd (omega arith)
moved_from placement [] (x ∷ ms) k n r l e = absurd (omega arith)
moved_from placement (step ∷ steps) (x ∷ ms) zero n r l e =
    let s : record { member = x.member; clock = x.clock + step; lease = x.lease } ≡ n = some_same _ n e in (
      x,
      refl,
      record {
        step = step;
        rate = r.0;
        clock = ap (λ (z : MemberClock). z.clock) (sym s);
        lease = ap (λ (z : MemberClock). z.lease) (sym s);
        member = ap (λ (z : MemberClock). z.member) (sym s);
      },
    )
moved_from placement (step ∷ steps) (x ∷ ms) (suc k) n r l e = moved_from placement steps ms k n r.1 (omega arith) e

pub moved_length : (steps : List ℕ) (ms : List MemberClock) → length steps ≡ length ms → length (moved steps ms) ≡ length ms
moved_length [] ms l = refl
moved_length (step ∷ steps) [] l = refl
moved_length (step ∷ steps) (m ∷ ms) l = let e = moved_length steps ms (omega arith) in omega arith

-- nothing is wrong with the steps of a pass
pub rates_hold : (placement : ℕ) (steps : List ℕ) (n : ℕ) → bad_rate placement steps n ≡ None → (length steps ≡ n) × AreRated placement steps
rates_hold placement steps n =
    cond_both (length steps == n) _ _ (λ (o : Option ℕ). o ≡ None → (length steps ≡ n) × AreRated placement steps)
    (λ t e. (eqb-true (length steps) n t, rated placement 0 steps e))
    (λ _ e. absurd (cc))

-- ---- a lease that is extended

-- an entry after an answer to the member at a place
pub record HasExtended (place sent k : ℕ) (old new : MemberClock) : Type 0 where
  pub lease : (new.lease ≡ old.lease) ⊎ ((k ≡ place) × (new.lease ≡ max old.lease sent))
  pub clock : new.clock ≡ old.clock
  pub member : new.member ≡ old.member

same_entry : (place sent k : ℕ) (x m : MemberClock) → x ≡ m → HasExtended place sent k x m
same_entry place sent k x m s =
    record { lease = inl (ap (λ (z : MemberClock). z.lease) (sym s)); clock = ap (λ (z : MemberClock). z.clock) (sym s); member = ap (λ (z : MemberClock). z.member) (sym s) }

later_place : (place sent k : ℕ) (x m : MemberClock) → HasExtended place sent k x m → HasExtended (suc place) sent (suc k) x m
later_place place sent k x m h =
    record { lease = elim h.lease [ inl e ↦ inl e | inr e ↦ inr (ap suc e.0, e.1) ]; clock = h.clock; member = h.member }

pub extended_get : (ms : List MemberClock) (place sent k : ℕ) (m : MemberClock) → slice_get ms k ≡ Some m → (n : MemberClock) × (slice_get (extended_at ms place sent) k ≡ Some n) × HasExtended place sent k m n
extended_get [] place sent k m e = absurd (cc)
extended_get (x ∷ ms) zero sent zero m e =
    let s : x ≡ m = some_same x m e in (
      record { member = x.member; clock = x.clock; lease = extended x.lease sent },
      refl,
      record {
        lease = inr (refl, ap (λ (z : MemberClock). max z.lease sent) s);
        clock = ap (λ (z : MemberClock). z.clock) s;
        member = ap (λ (z : MemberClock). z.member) s;
      },
    )
extended_get (x ∷ ms) zero sent (suc k) m e = (m, e, same_entry zero sent (suc k) m m refl)
extended_get (x ∷ ms) (suc place) sent zero m e = (m, e, same_entry (suc place) sent zero m m refl)
extended_get (x ∷ ms) (suc place) sent (suc k) m e = (let h = extended_get ms place sent k m e in (h.0, h.1, later_place place sent k m h.0 h.2))

pub extended_from : (ms : List MemberClock) (place sent k : ℕ) (n : MemberClock) → slice_get (extended_at ms place sent) k ≡ Some n → (m : MemberClock) × (slice_get ms k ≡ Some m) × HasExtended place sent k m n
extended_from [] place sent k n e = absurd (cc)
extended_from (x ∷ ms) zero sent zero n e =
    let s : record { member = x.member; clock = x.clock; lease = extended x.lease sent } ≡ n = some_same _ n e in (
      x,
      refl,
      record {
        lease = inr (refl, ap (λ (z : MemberClock). z.lease) (sym s));
        clock = ap (λ (z : MemberClock). z.clock) (sym s);
        member = ap (λ (z : MemberClock). z.member) (sym s);
      },
    )
extended_from (x ∷ ms) zero sent (suc k) n e = (n, e, same_entry zero sent (suc k) n n refl)
extended_from (x ∷ ms) (suc place) sent zero n e = (n, e, same_entry (suc place) sent zero n n refl)
extended_from (x ∷ ms) (suc place) sent (suc k) n e = (let h = extended_from ms place sent k n e in (h.0, h.1, later_place place sent k h.0 n h.2))

pub extended_length : (ms : List MemberClock) (place sent : ℕ) → length (extended_at ms place sent) ≡ length ms
extended_length [] place sent = refl
extended_length (m ∷ ms) zero sent = refl
extended_length (m ∷ ms) (suc place) sent = let e = extended_length ms place sent in omega arith

-- ---- the stops of a pass

in_stops_of : (m : Member) (i count n : ℕ) → i ≤ n → n < i + count → In (lines.Stop m n) (stops_of m i count)
in_stops_of m i zero n low high = absurd (omega arith)
in_stops_of m i (suc count) n low high = elim (first n low) [
  | inl e ↦ inl (ap (λ (k : ℕ). lines.Stop m k) e)
  | inr l ↦ inr (in_stops_of m (suc i) count n l (omega arith))
]
  where
    first : (k : ℕ) → i ≤ k → (k ≡ i) ⊎ (suc i ≤ k)
    first k l = elim (cases_order k i) [ inl e ↦ inl e | inr h ↦ elim h [ inl a ↦ absurd (omega arith) | inr a ↦ inr (omega arith) ] ]

-- each part of a member whose lease has ended is given StopPart
pub in_stops : (parts : ℕ) (ms : List MemberClock) (m : MemberClock) (n : ℕ) → In m ms → has_ended m.lease m.clock ≡ true → n < parts → In (lines.Stop m.member n) (stops_for parts ms)
in_stops parts [] m n i over l = absurd i
in_stops parts (x ∷ ms) m n (inl e) over l =
    In-left (stops_if_ended parts x) (stops_for parts ms) (lines.Stop m.member n)
    (subst (λ (z : MemberClock). In (lines.Stop m.member n) (stops_if_ended parts z)) e
    (subst (λ (es : List WorldEvent). In (lines.Stop m.member n) es) (sym (cond-true (has_ended m.lease m.clock) _ _ over)) (in_stops_of m.member 0 parts n (omega arith) (omega arith))))
in_stops parts (x ∷ ms) m n (inr i) over l = In-right (stops_if_ended parts x) (stops_for parts ms) (lines.Stop m.member n) (in_stops parts ms m n i over l)

-- the events of a list are stops
abbrev pub AreStops : List WorldEvent → Type 0
AreStops es = (e : WorldEvent) → In e es → (m : Member) × (i : ℕ) × (e ≡ lines.Stop m i)

stops_of_are : (m : Member) (i count : ℕ) → AreStops (stops_of m i count)
stops_of_are m i zero e j = absurd j
stops_of_are m i (suc count) e (inl s) = (m, i, s)
stops_of_are m i (suc count) e (inr j) = stops_of_are m (suc i) count e j

ended_are : (parts : ℕ) (m : MemberClock) → AreStops (stops_if_ended parts m)
ended_are parts m = cond_both (has_ended m.lease m.clock) _ _ AreStops (λ _. stops_of_are m.member 0 parts) (λ _ e j. absurd j)

pub stops_are : (parts : ℕ) (ms : List MemberClock) → AreStops (stops_for parts ms)
stops_are parts [] e j = absurd j
stops_are parts (m ∷ ms) e j = elim (In-append (stops_if_ended parts m) (stops_for parts ms) e j) [ inl k ↦ ended_are parts m e k | inr k ↦ stops_are parts ms e k ]
