-- One more point to the left of those that a scan from the end has seen.
use Rattle.std.specs.Prelude.{◌≡◌, ℕ, ◌-◌, ◌<◌, ◌≤◌, Bool, true, false, nat_le, if◌then◌else◌, List, ◌∷◌, length, drop, Option, filter, suc}
use Rattle.std.proofs.Common.{refl, sym, ◌∙◌, ap, arith, drop-cons, get_or}
use Rattle.place_table.specs.declared.point.Point.{Point}
use Rattle.place_table.specs.Ring.{lesser, least}

-- what remains from the index before i on
pub drop_back : {X : Type 0} (xs : List X) (i : ℕ) (x : X) → 0 < i → i ≤ length xs → x ≡ get_or xs (i - 1) x → drop (i - 1) xs ≡ x ∷ drop i xs
drop_back xs i x above within read =
    let inside : i - 1 < length xs = omega arith in
    let next : suc (i - 1) ≡ i = omega arith in
    drop-cons xs (i - 1) x inside ∙ ap (λ n. get_or xs (i - 1) x ∷ drop n xs) next ∙ ap (λ y. y ∷ drop i xs) (sym read)

least_if : (b : Bool) (p : Point) (ps : List Point) → least (if b then p ∷ ps else ps) ≡ (if b then lesser p (least ps) else least ps)
least_if true p ps = refl
least_if false p ps = refl

pub least_back : (xs : List Point) (i : ℕ) (p : Point) (all : Option Point) → 0 < i → i ≤ length xs → p ≡ get_or xs (i - 1) p → all ≡ least (drop i xs) → lesser p all ≡ least (drop (i - 1) xs)
least_back xs i p all above within read e = ap (lesser p) e ∙ sym (ap least (drop_back xs i p above within read))

pub least_from_back : (xs : List Point) (place i : ℕ) (p : Point) (from : Option Point) → 0 < i → i ≤ length xs → p ≡ get_or xs (i - 1) p → from ≡ least (filter (λ q. nat_le place q.place) (drop i xs)) → (if nat_le place p.place then lesser p from else from) ≡ least (filter (λ q. nat_le place q.place) (drop (i - 1) xs))
least_from_back xs place i p from above within read e =
    ap (λ o. if nat_le place p.place then lesser p o else o) e
    ∙ sym (least_if (nat_le place p.place) p (filter (λ q. nat_le place q.place) (drop i xs)))
    ∙ sym (ap (λ ys. least (filter (λ q. nat_le place q.place) ys)) (drop_back xs i p above within read))
