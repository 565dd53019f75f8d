-- The owner of a place is the one point that the relation describes.
use Rattle.std.specs.Prelude.{◌≡◌, ℕ, ◌<◌, ◌≤◌, ◌⊎◌, Bool, true, false, nat_le, if◌then◌else◌, List, [], ◌∷◌, Option, Some, None, filter, Contains, MatchOption}
use Rattle.std.proofs.Common.{refl, sym, ◌∙◌, ap, subst, true≢false, inl, inr, arith}
use Rattle.std.proofs.lemmas.List.Elements.{Contains-append_left, Contains-append_right, Contains-push, Contains-push_cases, Contains-append_cases}
use Rattle.place_table.specs.declared.point.Point.{Point}
use Rattle.place_table.specs.Ring.{is_before, lesser, least, first_of, owner_point, IsLeast, IsLeastFrom, IsOwner}
use Rattle.place_table.proofs.PointOrder.{not_before_itself, before_one_way, not_before_chain, same_from_neither}

pub none_in_nil : {X : Type 0} (x : X) → Contains {X = X} [] x → ⊥
none_in_nil x h = let k : h.0 < 0 = h.1 in omega arith

pub Contains-head : {X : Type 0} (x : X) (xs : List X) → Contains (x ∷ xs) x
Contains-head x xs = Contains-append_left (x ∷ []) xs x (Contains-push [] x)

pub Contains-tail : {X : Type 0} (y : X) (xs : List X) (x : X) → Contains xs x → Contains (y ∷ xs) x
Contains-tail y xs x h = Contains-append_right (y ∷ []) xs x h

pub Contains-cons_cases : {X : Type 0} (y : X) (xs : List X) (x : X) → Contains (y ∷ xs) x → (y ≡ x) ⊎ Contains xs x
Contains-cons_cases y xs x h =
    elim (Contains-append_cases (y ∷ []) xs x h) [
      | inl one ↦ elim (Contains-push_cases [] y x one) [ inl nothing ↦ absurd (none_in_nil x nothing) | inr e ↦ inl e ]
      | inr later ↦ inr later
    ]

-- ---- the least point

first_in_one : (p : Point) (ps : List Point) → ps ≡ [] → (q : Point) → Contains (p ∷ ps) q → is_before q p ≡ false
first_in_one p ps e q h =
    elim (Contains-cons_cases p ps q h) [
      | inl same ↦ let P : Point → Type 0 = λ x. is_before x p ≡ false in subst P same (not_before_itself p)
      | inr later ↦ absurd (none_in_nil q (subst (λ (xs : List Point). Contains xs q) e later))
    ]

lesser_case : (p : Point) (ps : List Point) (q : Point) → IsLeast ps q → (b : Bool) → is_before q p ≡ b → IsLeast (p ∷ ps) (if b then q else p)
lesser_case p ps q h true e = record {
  among = Contains-tail p ps q h.among;
  first = λ r member. elim (Contains-cons_cases p ps r member) [
    | inl same ↦ let P : Point → Type 0 = λ x. is_before x q ≡ false in subst P same (before_one_way q p e)
    | inr later ↦ h.first r later
  ];
}
lesser_case p ps q h false e = record {
  among = Contains-head p ps;
  first = λ r member. elim (Contains-cons_cases p ps r member) [
    | inl same ↦ let P : Point → Type 0 = λ x. is_before x p ≡ false in subst P same (not_before_itself p)
    | inr later ↦ not_before_chain p q r e (h.first r later)
  ];
}

least_step : (p : Point) (ps : List Point) (q : Point) → IsLeast ps q → (b : Bool) → is_before q p ≡ b → MatchOption (if b then Some q else Some p) (p ∷ ps ≡ []) (IsLeast (p ∷ ps))
least_step p ps q h true e = lesser_case p ps q h true e
least_step p ps q h false e = lesser_case p ps q h false e

lesser_cases : (p : Point) (ps : List Point) (o : Option Point) → MatchOption o (ps ≡ []) (IsLeast ps) → MatchOption (lesser p o) (p ∷ ps ≡ []) (IsLeast (p ∷ ps))
lesser_cases p ps None e = record { among = Contains-head p ps; first = first_in_one p ps e }
lesser_cases p ps (Some q) h = least_step p ps q h (is_before q p) refl

-- the least of some points is one of them, and none is before it
pub least_cases : (ps : List Point) → MatchOption (least ps) (ps ≡ []) (IsLeast ps)
least_cases [] = refl
least_cases (p ∷ ps) = lesser_cases p ps (least ps) (least_cases ps)

-- ---- the points that pass a test

filter_head : (test : Point → Bool) (p : Point) (ps : List Point) → test p ≡ true → filter test (p ∷ ps) ≡ p ∷ filter test ps
filter_head test p ps e = ap (λ b. if b then p ∷ filter test ps else filter test ps) e

pub Contains-filter : (test : Point → Bool) (ps : List Point) (q : Point) → Contains ps q → test q ≡ true → Contains (filter test ps) q
Contains-filter test [] q h e = absurd (none_in_nil q h)
Contains-filter test (p ∷ ps) q h e =
    elim (Contains-cons_cases p ps q h) [
      | inl same ↦
          let passes : test p ≡ true = ap test same ∙ e in
          let P : List Point → Type 0 = λ xs. Contains xs q in
          subst P (sym (filter_head test p ps passes)) (let Q : Point → Type 0 = λ x. Contains (p ∷ filter test ps) x in subst Q same (Contains-head p (filter test ps)))
      | inr later ↦
          elim (test p) as (λ b. Contains (if b then p ∷ filter test ps else filter test ps) q) [
            | true ↦ Contains-tail p (filter test ps) q (Contains-filter test ps q later e)
            | false ↦ Contains-filter test ps q later e
          ]
    ]

filtered_case : (test : Point → Bool) (p : Point) (ps : List Point) (q : Point) → (Contains (filter test ps) q → Contains ps q × (test q ≡ true)) → (b : Bool) → test p ≡ b → Contains (if b then p ∷ filter test ps else filter test ps) q → Contains (p ∷ ps) q × (test q ≡ true)
filtered_case test p ps q more true e h =
    elim (Contains-cons_cases p (filter test ps) q h) [
      | inl same ↦ (let Q : Point → Type 0 = λ x. Contains (p ∷ ps) x in subst Q same (Contains-head p ps), ap test (sym same) ∙ e)
      | inr later ↦ (Contains-tail p ps q (more later).0, (more later).1)
    ]
filtered_case test p ps q more false e h = (Contains-tail p ps q (more h).0, (more h).1)

pub Contains-from_filter : (test : Point → Bool) (ps : List Point) (q : Point) → Contains (filter test ps) q → Contains ps q × (test q ≡ true)
Contains-from_filter test [] q h = absurd (none_in_nil q h)
Contains-from_filter test (p ∷ ps) q h = filtered_case test p ps q (Contains-from_filter test ps q) (test p) refl h

-- ---- the owner

le_true : (a b : ℕ) → a ≤ b → nat_le a b ≡ true
le_true a b h = grind arith

le_from_true : (a b : ℕ) → nat_le a b ≡ true → a ≤ b
le_from_true a b h = grind arith

below_from_none : (points : List Point) (place : ℕ) → filter (λ p. nat_le place p.place) points ≡ [] → (q : Point) → Contains points q → q.place < place
below_from_none points place e q h =
    elim (nat_le place q.place) as (λ b. nat_le place q.place ≡ b → q.place < place) [
      | true ↦ λ passes. absurd (none_in_nil q (subst (λ (xs : List Point). Contains xs q) e (Contains-filter (λ p. nat_le place p.place) points q h passes)))
      | false ↦ λ fails. let reached : place ≤ q.place → ⊥ = λ r. true≢false (sym (le_true place q.place r) ∙ fails) in omega arith
    ] refl

from_least_kept : (points : List Point) (place : ℕ) (p : Point) → IsLeast (filter (λ q. nat_le place q.place) points) p → IsLeastFrom points place p
from_least_kept points place p h =
    let kept = Contains-from_filter (λ (q : Point). nat_le place q.place) points p h.among in
    record {
      among = kept.0;
      reached = le_from_true place p.place kept.1;
      first = λ q member reached. h.first q (Contains-filter (λ x. nat_le place x.place) points q member (le_true place q.place reached));
    }

owner_of_both : (points : List Point) (place : ℕ) (a b : Option Point) → MatchOption a (filter (λ p. nat_le place p.place) points ≡ []) (IsLeast (filter (λ p. nat_le place p.place) points)) → MatchOption b (points ≡ []) (IsLeast points) → MatchOption (first_of a b) (points ≡ []) (IsOwner points place)
owner_of_both points place (Some p) b h k = inl (from_least_kept points place p h)
owner_of_both points place None None h k = k
owner_of_both points place None (Some p) h k = inr (below_from_none points place h, k)

-- the owner satisfies the relation; there is no owner only if there is no point
pub owner_cases : (points : List Point) (place : ℕ) → MatchOption (owner_point points place) (points ≡ []) (IsOwner points place)
owner_cases points place = owner_of_both points place (least (filter (λ p. nat_le place p.place) points)) (least points) (least_cases (filter (λ p. nat_le place p.place) points)) (least_cases points)

-- the relation describes one point
pub owner_determined : (points : List Point) (place : ℕ) (p q : Point) → IsOwner points place p → IsOwner points place q → p ≡ q
owner_determined points place p q (inl a) (inl b) = same_from_neither p q (b.first p a.among a.reached) (a.first q b.among b.reached)
owner_determined points place p q (inl a) (inr b) = absurd (let l : p.place < place = b.0 p a.among in let r : place ≤ p.place = a.reached in omega arith)
owner_determined points place p q (inr a) (inl b) = absurd (let l : q.place < place = a.0 q b.among in let r : place ≤ q.place = b.reached in omega arith)
owner_determined points place p q (inr a) (inr b) = same_from_neither p q (b.1.first p a.1.among) (a.1.first q b.1.among)
