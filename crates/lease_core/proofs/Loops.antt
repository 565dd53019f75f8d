-- What the loops over members and steps have done, and a lease that is extended in its place.
use Rattle.std.proofs.Common.{◌≡◌, ◌⊎◌, ℕ, zero, suc, ◌+◌, ◌-◌, ◌<◌, ◌≤◌, ◌^◌, min, Bool, true, false, cond, List, [], ◌∷◌, ◌++◌, length, get_or, take, drop, set, Option, None, Some, refl, sym, ap, ◌∙◌, subst, inl, inr, arith, length-append, append_assoc}
use Rattle.std.specs.Prelude.{◌||◌, ◌↔◌, ◌*◌, IsTrue, nat_le, nat_lt, if◌then◌else◌}
use Rattle.std.proofs.lemmas.Bool.{cond_both, cond-true, cond-false, false≢true, false_from_ne_true, and_from, and_parts, or_parts, leb-true, lt-leb, le-leb, leb-false, lt-ltb, le-ltb, cases_lt}
use Rattle.actor_names.specs.declared.member.Member.{Member}
use Rattle.world_events.specs.declared.event.WorldEvent.{WorldEvent}
use Rattle.lease_core.specs.declared.book.MemberClock.{MemberClock}
use Rattle.cluster_model.specs.World.{most_events}
use Rattle.lease_core.specs.declared.book.Sent.{Sent}
use Rattle.lease_core.specs.Lease.{RateBound, keeps_rate, first_unrated, extended, has_ended}
use Rattle.lease_core.specs.Book.{LeaseBook, with_begun, noted, moved, is_past, any_past, stops_of, stops_if_ended, stops_for, extended_at, extended_of}

next_place : (i : ℕ) → suc i ≡ i + 1
next_place i = omega arith

module _ {A : Type 0} where
  -- the elements from a place on
  drop_suc : (xs : List A) (i : ℕ) (d : A) → i < length xs → drop i xs ≡ get_or xs i d ∷ drop (suc i) xs
  drop_suc [] i d l = absurd (omega arith)
  drop_suc (x ∷ xs) zero d l = refl
  drop_suc (x ∷ xs) (suc i) d l = drop_suc xs i d (omega arith)

  pub drop_at : (xs : List A) (i : ℕ) (d : A) → i < length xs → drop i xs ≡ get_or xs i d ∷ drop (i + 1) xs
  drop_at xs i d l = drop_suc xs i d l ∙ ap (λ (n : ℕ). get_or xs i d ∷ drop n xs) (next_place i)

  pub drop_all : (xs : List A) (i : ℕ) → length xs ≤ i → drop i xs ≡ []
  drop_all [] zero l = refl
  drop_all [] (suc i) l = refl
  drop_all (x ∷ xs) zero l = absurd (omega arith)
  drop_all (x ∷ xs) (suc i) l = drop_all xs i (omega arith)

  take_suc : (xs : List A) (i : ℕ) (y : A) → i < length xs → take (suc i) (set xs i y) ≡ take i xs ++ y ∷ []
  take_suc [] i y l = absurd (omega arith)
  take_suc (x ∷ xs) zero y l = refl
  take_suc (x ∷ xs) (suc i) y l = ap (λ (zs : List A). x ∷ zs) (take_suc xs i y (omega arith))

  pub take_set : (xs : List A) (i : ℕ) (y : A) → i < length xs → take (i + 1) (set xs i y) ≡ take i xs ++ y ∷ []
  take_set xs i y l = ap (λ (n : ℕ). take n (set xs i y)) (sym (next_place i)) ∙ take_suc xs i y l

  suc_set : (xs : List A) (i : ℕ) (y : A) → drop (suc i) (set xs i y) ≡ drop (suc i) xs
  suc_set [] i y = refl
  suc_set (x ∷ xs) zero y = refl
  suc_set (x ∷ xs) (suc i) y = suc_set xs i y

  pub drop_set : (xs : List A) (i : ℕ) (y : A) → drop (i + 1) (set xs i y) ≡ drop (i + 1) xs
  drop_set xs i y = ap (λ (n : ℕ). drop n (set xs i y)) (sym (next_place i)) ∙ suc_set xs i y ∙ ap (λ (n : ℕ). drop n xs) (next_place i)

  pub take_all : (xs : List A) (i : ℕ) → length xs ≤ i → take i xs ++ [] ≡ xs
  take_all [] zero l = refl
  take_all [] (suc i) l = refl
  take_all (x ∷ xs) zero l = absurd (omega arith)
  take_all (x ∷ xs) (suc i) l = ap (λ (zs : List A). x ∷ zs) (take_all xs i (omega arith))

-- ---- rates

-- the test of two steps, from what it says
pub rate_test : (b : Bool) (placement member : ℕ) → (IsTrue b ↔ RateBound placement member) → b ≡ keeps_rate placement member
rate_test true placement member h = (let r = h.0 refl in sym (and_from (nat_le placement (2 * member)) (nat_le member (2 * placement)) (le-leb placement (2 * member) r.0) (le-leb member (2 * placement) r.1)))
rate_test false placement member h =
    sym (false_from_ne_true (keeps_rate placement member) (λ e.
    let p = and_parts (nat_le placement (2 * member)) (nat_le member (2 * placement)) e in
    false≢true (h.1 (leb-true placement (2 * member) p.0, leb-true member (2 * placement) p.1))))

pub unrated_next : (placement at : ℕ) (steps : List ℕ) → at < length steps → keeps_rate placement (get_or steps at 0) ≡ true → first_unrated placement at (drop at steps) ≡ first_unrated placement (at + 1) (drop (at + 1) steps)
unrated_next placement at steps l e =
    ap (first_unrated placement at) (drop_at steps at 0 l) ∙ cond-true (keeps_rate placement (get_or steps at 0)) _ _ e

pub unrated_here : (placement at : ℕ) (steps : List ℕ) → at < length steps → keeps_rate placement (get_or steps at 0) ≡ false → first_unrated placement at (drop at steps) ≡ Some at
unrated_here placement at steps l e =
    ap (first_unrated placement at) (drop_at steps at 0 l) ∙ cond-false (keeps_rate placement (get_or steps at 0)) _ _ e

-- ---- clocks that would reach the bound

pub past_at : (steps : List ℕ) (ms : List MemberClock) (at : ℕ) (d : MemberClock) → at < length steps → length steps ≡ length ms →
    any_past (drop at steps) (drop at ms) ≡ (is_past (get_or ms at d).clock (get_or steps at 0) || any_past (drop (at + 1) steps) (drop (at + 1) ms))
past_at steps ms at d l e = λ i. any_past (drop_at steps at 0 l i) (drop_at ms at d (omega arith) i)

pub past_none : (steps : List ℕ) (ms : List MemberClock) (at : ℕ) → length steps ≤ at → any_past (drop at steps) (drop at ms) ≡ false
past_none steps ms at l = ap (λ (ss : List ℕ). any_past ss (drop at ms)) (drop_all steps at l)

-- ---- stops

length-stops_of : (m : Member) (i count : ℕ) → length (stops_of m i count) ≡ count
length-stops_of m i zero = refl
length-stops_of m i (suc count) = let e = length-stops_of m (suc i) count in omega arith

-- how many stops a member has
abbrev pub stops_if : Bool → ℕ → ℕ
stops_if b parts = cond b parts 0

length-ended : (parts : ℕ) (m : MemberClock) → length (stops_if_ended parts m) ≡ stops_if (has_ended m.lease m.clock) parts
length-ended parts m = go (has_ended m.lease m.clock)
  where
    go : (b : Bool) → length (cond b (stops_of m.member 0 parts) []) ≡ stops_if b parts
    go true = length-stops_of m.member 0 parts
    go false = refl

pub stops_at : (parts : ℕ) (steps : List ℕ) (ms : List MemberClock) (at : ℕ) (d : MemberClock) → at < length steps → length steps ≡ length ms →
    length (stops_for parts (moved (drop at steps) (drop at ms)))
    ≡ stops_if (has_ended (get_or ms at d).lease ((get_or ms at d).clock + get_or steps at 0)) parts + length (stops_for parts (moved (drop (at + 1) steps) (drop (at + 1) ms)))
stops_at parts steps ms at d l e =
    let m : MemberClock = get_or ms at d in
    let n : MemberClock = record { member = m.member; clock = m.clock + get_or steps at 0; lease = m.lease } in
    let rest = stops_for parts (moved (drop (at + 1) steps) (drop (at + 1) ms)) in
    (λ i. length (stops_for parts (moved (drop_at steps at 0 l i) (drop_at ms at d (omega arith) i)))) ∙ length-append (stops_if_ended parts n) rest ∙ ap (λ (k : ℕ). k + length rest) (length-ended parts n)

pub stops_none : (parts : ℕ) (steps : List ℕ) (ms : List MemberClock) (at : ℕ) → length steps ≡ length ms → length steps ≤ at → length (stops_for parts (moved (drop at steps) (drop at ms))) ≡ 0
stops_none parts steps ms at e l = λ i. length (stops_for parts (moved (drop_all steps at l i) (drop_all ms at (omega arith) i)))

-- whether there are more events than a world may have, by counts that end at 2^64 - 1
pub many_is : (count all stops sum : ℕ) → stops ≡ min all (2 ^ 64 - 1) → sum ≡ min (count + stops) (2 ^ 64 - 1) → nat_lt most_events sum ≡ nat_lt most_events (count + all)
many_is count all stops sum k s = elim (cases_lt most_events sum) [
  | inl l ↦ lt-ltb most_events sum l ∙ sym (lt-ltb most_events (count + all) (omega arith))
  | inr g ↦ le-ltb most_events sum g ∙ sym (le-ltb most_events (count + all) (omega arith))
]

-- ---- clocks that move

pub moved_next : (steps : List ℕ) (ms : List MemberClock) (at : ℕ) (d : MemberClock) → at < length steps → length steps ≡ length ms →
    take (at + 1) (set ms at (record { member = (get_or ms at d).member; clock = (get_or ms at d).clock + get_or steps at 0; lease = (get_or ms at d).lease }))
    ++ moved (drop (at + 1) steps) (drop (at + 1) (set ms at (record { member = (get_or ms at d).member; clock = (get_or ms at d).clock + get_or steps at 0; lease = (get_or ms at d).lease })))
    ≡ take at ms ++ moved (drop at steps) (drop at ms)
moved_next steps ms at d l e =
    let low : at < length ms = omega arith in
    let m : MemberClock = get_or ms at d in
    let n : MemberClock = record { member = m.member; clock = m.clock + get_or steps at 0; lease = m.lease } in
    (λ i. take_set ms at n low i ++ moved (drop (at + 1) steps) (drop_set ms at n i)) ∙ append_assoc (take at ms) (n ∷ []) (moved (drop (at + 1) steps) (drop (at + 1) ms))
    ∙ sym (λ i. take at ms ++ moved (drop_at steps at 0 l i) (drop_at ms at d low i))

pub moved_end : (steps : List ℕ) (ms : List MemberClock) (at : ℕ) → length steps ≡ length ms → length steps ≤ at → take at ms ++ moved (drop at steps) (drop at ms) ≡ ms
moved_end steps ms at e l = (λ i. take at ms ++ moved (drop_all steps at l i) (drop_all ms at (omega arith) i)) ∙ take_all ms at (omega arith)

-- ---- a lease in its place

pub extended_out : (ms : List MemberClock) (boot sent : ℕ) → (boot ≡ 0) ⊎ (length ms < boot) → ms ≡ extended_of ms boot sent
extended_out ms zero sent h = refl
extended_out ms (suc k) sent (inl e) = absurd (omega arith)
extended_out ms (suc k) sent (inr l) = go ms k (omega arith)
  where
    go : (ms : List MemberClock) (k : ℕ) → length ms ≤ k → ms ≡ extended_at ms k sent
    go [] k l = refl
    go (m ∷ ms) zero l = absurd (omega arith)
    go (m ∷ ms) (suc k) l = ap (λ (ns : List MemberClock). m ∷ ns) (go ms k (omega arith))

pub extended_in : (ms : List MemberClock) (boot sent : ℕ) (d : MemberClock) → (boot ≡ 0 → ⊥) → boot ≤ length ms →
    set ms (boot - 1) (record { member = (get_or ms (boot - 1) d).member; clock = (get_or ms (boot - 1) d).clock; lease = extended (get_or ms (boot - 1) d).lease sent }) ≡ extended_of ms boot sent
extended_in ms zero sent d h l = absurd (h refl)
extended_in ms (suc k) sent d h l = subst (λ (n : ℕ). set ms n (record { member = (get_or ms n d).member; clock = (get_or ms n d).clock; lease = extended (get_or ms n d).lease sent }) ≡ extended_at ms k sent) (omega arith) (go ms k (omega arith))
  where
    go : (ms : List MemberClock) (k : ℕ) → k < length ms → set ms k (record { member = (get_or ms k d).member; clock = (get_or ms k d).clock; lease = extended (get_or ms k d).lease sent }) ≡ extended_at ms k sent
    go [] k l = absurd (omega arith)
    go (m ∷ ms) zero l = refl
    go (m ∷ ms) (suc k) l = ap (λ (ns : List MemberClock). m ∷ ns) (go ms k (omega arith))

-- ---- what is noted

pub noted_is : (b : LeaseBook) (begun : Option MemberClock) (s : Sent) (boot messages calls m n : ℕ) (members : List MemberClock) (sent : List Sent) (askers : List ℕ) →
    members ≡ with_begun b.members begun → sent ≡ (if nat_lt (length b.sent) m then b.sent ++ s ∷ [] else b.sent) → askers ≡ (if nat_lt (length b.askers) n then b.askers ++ boot ∷ [] else b.askers) → m ≡ messages → n ≡ calls →
    ◌≡◌ {A = LeaseBook} (record { clock = b.clock; members = members; sent = sent; askers = askers }) (noted b begun s boot messages calls)
noted_is b begun s boot messages calls m n members sent askers d e f g h =
    λ i. record {
      clock = b.clock;
      members = d i;
      sent = (e ∙ ap (λ (k : ℕ). if nat_lt (length b.sent) k then b.sent ++ s ∷ [] else b.sent) g) i;
      askers = (f ∙ ap (λ (k : ℕ). if nat_lt (length b.askers) k then b.askers ++ boot ∷ [] else b.askers) h) i;
    }
