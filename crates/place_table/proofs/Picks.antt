-- The first index of the owner's point in a list.
use Rattle.std.specs.Prelude.{◌≡◌, ℕ, Bool, true, false, ◌&&◌, ◌==◌, List, [], Option, Some, None, Contains, slice_get, position, IfSome, IsSomeAnd, IsNone, ◌↔◌, MatchOption}
use Rattle.std.proofs.Common.{refl, sym, ◌∙◌, ap, subst, true≢false, arith, get_or, eqb-true}
use Rattle.std.specs.Str.{bytes_eq}
use Rattle.std.proofs.lemmas.List.Quantifiers.{position-Some}
use Rattle.std.proofs.lemmas.Option.{slice_get-get_or}
use Rattle.std.proofs.lemmas.Slice.Eq.{bytes_eq-Decides}
use Rattle.place_table.specs.declared.point.Point.{Point}
use Rattle.place_table.specs.Ring.{is_point, owner_point, IsOwner}
use Rattle.std.specs.List.{position_from}
use Rattle.std.specs.Prelude.{IsSome, is_some, ◌∷◌, ◌+◌, false, if◌then◌else◌}
use Rattle.std.proofs.Common.{inl, inr}
use Rattle.std.proofs.lemmas.Iterator.Adapters.{position_from-zero}
use Rattle.place_table.proofs.Owners.{owner_cases, none_in_nil, Contains-cons_cases}

both : (a b : Bool) → (a && b) ≡ true → (a ≡ true) × (b ≡ true)
both true b e = (refl, e)
both false b e = absurd (true≢false (sym e))

pub same_from_is_point : (p q : Point) → is_point p q ≡ true → p ≡ q
same_from_is_point p q e =
    let two = both (p.place == q.place) (bytes_eq p.node q.node) e in
    let places : p.place ≡ q.place = eqb-true p.place q.place two.0 in
    let nodes : p.node ≡ q.node = (bytes_eq-Decides p.node q.node).0 two.1 in
    λ i. record { place = places i; node = nodes i }

pub found_at : (p : Point) (xs : List Point) (i : ℕ) → position (is_point p) xs ≡ Some i → slice_get xs i ≡ Some p
found_at p xs i e =
    let some = position-Some (is_point p) xs i p e in
    slice_get-get_or xs i p some.0 ∙ ap (λ q. Some q) (sym (same_from_is_point p (get_or xs i p) some.1))

none_passes : (test : Point → Bool) (n : ℕ) (xs : List Point) (x : Point) → position_from test n xs ≡ None → Contains xs x → test x ≡ false
none_passes test n [] x e h = absurd (none_in_nil x h)
none_passes test n (y ∷ ys) x e h = head_fails test n y ys x (none_passes test (n + 1) ys x) (test y) refl e h
  where
    head_fails : (test : Point → Bool) (n : ℕ) (y : Point) (ys : List Point) (x : Point) → (position_from test (n + 1) ys ≡ None → Contains ys x → test x ≡ false) → (b : Bool) → test y ≡ b → (if b then Some n else position_from test (n + 1) ys) ≡ None → Contains (y ∷ ys) x → test x ≡ false
    head_fails test n y ys x more true t e h = absurd (true≢false (ap is_some e))
    head_fails test n y ys x more false t e h =
        elim (Contains-cons_cases y ys x h) [
          | inl same ↦ ap test (sym same) ∙ t
          | inr later ↦ more e later
        ]

is_point_itself : (p : Point) → is_point p p ≡ true
is_point_itself p =
    let places : (p.place == p.place) ≡ true = grind arith in
    let nodes : bytes_eq p.node p.node ≡ true = (bytes_eq-Decides p.node p.node).1 refl in
    ap (λ a. a && bytes_eq p.node p.node) places ∙ nodes

pub among_from_owner : (xs : List Point) (place : ℕ) (p : Point) → IsOwner xs place p → Contains xs p
among_from_owner xs place p (inl h) = h.among
among_from_owner xs place p (inr h) = h.1.among

pub owner_from_some : (xs : List Point) (place : ℕ) (p : Point) → Some p ≡ owner_point xs place → IsOwner xs place p
owner_from_some xs place p e = subst (λ o. MatchOption o (xs ≡ []) (IsOwner xs place)) (sym e) (owner_cases xs place)

pub empty_from_none : (xs : List Point) (place : ℕ) → None ≡ owner_point xs place → xs ≡ []
empty_from_none xs place e = subst (λ o. MatchOption o (xs ≡ []) (IsOwner xs place)) (sym e) (owner_cases xs place)

found : (xs : List Point) (p : Point) → Contains xs p → (r : Option ℕ) → r ≡ position (is_point p) xs → IsSome r
found xs p h None e =
    absurd (true≢false (sym (is_point_itself p) ∙ none_passes (is_point p) 0 xs p (sym (position_from-zero (is_point p) xs) ∙ sym e) h))
found xs p h (Some i) e = refl

pub picks_owner : (xs : List Point) (place : ℕ) (p : Point) → Some p ≡ owner_point xs place → (r : Option ℕ) → r ≡ position (is_point p) xs → IfSome r (λ i. IsSomeAnd (slice_get xs i) (IsOwner xs place))
picks_owner xs place p owns None e = tt
picks_owner xs place p owns (Some i) e =
    let P : Option Point → Type 0 = λ o. IsSomeAnd o (IsOwner xs place) in
    subst P (sym (found_at p xs i (sym e))) (owner_from_some xs place p owns)

pub picks_some : (xs : List Point) (place : ℕ) (p : Point) → Some p ≡ owner_point xs place → (r : Option ℕ) → r ≡ position (is_point p) xs → IsNone r ↔ (xs ≡ [])
picks_some xs place p owns r e =
    let among = among_from_owner xs place p (owner_from_some xs place p owns) in (
      λ none. absurd (true≢false (sym (found xs p among r e) ∙ none)),
      λ nil. absurd (none_in_nil p (subst (λ (ys : List Point). Contains ys p) nil among)),
    )
