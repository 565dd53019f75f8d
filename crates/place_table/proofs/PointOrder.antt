-- Points are totally ordered.
use Rattle.std.specs.Prelude.{◌≡◌, true, false}
use Rattle.std.proofs.Common.{refl, sym, ◌∙◌, ap, true≢false}
use Rattle.std.specs.declared.cmp.Ordering.{Ordering}
use Rattle.std.specs.declared.cmp.Ordering.TheVariants.{Less, Equal, Greater}
use Rattle.std.specs.Ordering.{nat_cmp, is_lt, is_gt, ordering_then, ordering_reverse}
use Rattle.std.specs.Cmp.{IsTotalOrder}
use Rattle.std.specs.Cmp.Lexicographic.{slice_cmp}
use Rattle.std.specs.FinMap.{nat_cmp-IsAntisymmetric, slice_cmp-IsAntisymmetric}
use Rattle.std.proofs.lemmas.Cmp.{nat_cmp_total, nat_list_cmp_total, on_total, then_total, tied_itself, upto}
use Rattle.place_table.specs.declared.point.Point.{Point}
use Rattle.place_table.specs.Ring.{point_cmp, is_before}

pub point_cmp_total : IsTotalOrder point_cmp
point_cmp_total = then_total (on_total (λ (p : Point). p.place) nat_cmp_total) (on_total (λ (p : Point). p.node) nat_list_cmp_total)

both_equal : (r s : Ordering) → ordering_then r s ≡ Equal → (r ≡ Equal) × (s ≡ Equal)
both_equal Less s e = absurd (true≢false (ap is_lt e))
both_equal Equal s e = (refl, e)
both_equal Greater s e = absurd (true≢false (ap is_gt e))

-- points that tie are equal
pub same_point : (p q : Point) → point_cmp p q ≡ Equal → p ≡ q
same_point p q e =
    let both = both_equal (nat_cmp p.place q.place) (slice_cmp nat_cmp p.node q.node) e in
    let places : p.place ≡ q.place = nat_cmp-IsAntisymmetric p.place q.place both.0 in
    let nodes : p.node ≡ q.node = slice_cmp-IsAntisymmetric nat_cmp-IsAntisymmetric p.node q.node both.1 in
    λ i. record { place = places i; node = nodes i }

turned_lt : (r : Ordering) → is_lt (ordering_reverse r) ≡ is_gt r
turned_lt Less = refl
turned_lt Equal = refl
turned_lt Greater = refl

-- one point is after another exactly if the other is before it
pub before_turned : (p q : Point) → is_before p q ≡ is_gt (point_cmp q p)
before_turned p q = ap is_lt (point_cmp_total.antisymm p q) ∙ turned_lt (point_cmp q p)

pub not_before_itself : (p : Point) → is_before p p ≡ false
not_before_itself p = ap is_lt (tied_itself point_cmp_total p)

lt_not_gt : (r : Ordering) → is_lt r ≡ true → is_gt r ≡ false
lt_not_gt Less e = refl
lt_not_gt Equal e = refl
lt_not_gt Greater e = absurd (true≢false (sym e))

-- of two points at most one is before the other
pub before_one_way : (p q : Point) → is_before p q ≡ true → is_before q p ≡ false
before_one_way p q e = before_turned q p ∙ lt_not_gt (point_cmp p q) e

-- if z isn't before y, and y isn't before x, then z isn't before x
pub not_before_chain : (x y z : Point) → is_before y x ≡ false → is_before z y ≡ false → is_before z x ≡ false
not_before_chain x y z a b =
    before_turned z x ∙ upto point_cmp_total x y z (sym (before_turned y x) ∙ a) (sym (before_turned z y) ∙ b)

level : (r : Ordering) → is_lt r ≡ false → is_gt r ≡ false → r ≡ Equal
level Less a b = absurd (true≢false a)
level Equal a b = refl
level Greater a b = absurd (true≢false b)

-- two points of which neither is before the other are equal
pub same_from_neither : (p q : Point) → is_before p q ≡ false → is_before q p ≡ false → p ≡ q
same_from_neither p q a b = same_point p q (level (point_cmp p q) a (sym (before_turned q p) ∙ b))
