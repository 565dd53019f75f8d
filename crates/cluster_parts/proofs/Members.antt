-- The member of a boot is that of the first of its parts.
use Rattle.std.proofs.Common.{◌≡◌, ℕ, ◌+◌, ◌*◌, ◌<◌, ◌≤◌, List, [], ◌∷◌, ◌++◌, length, refl, sym, ap, ◌∙◌, subst, arith, mul-le-mul_right}
use Rattle.std.specs.Prelude.{zero, suc, slice_get, Option, None, Some}
use Rattle.actor_names.specs.declared.member.Member.{Member}
use Rattle.part_model.specs.Part.{PartState}
use Rattle.cluster_parts.specs.declared.home.Home.{Home}
use Rattle.cluster_parts.specs.Layout.{booted_at, PartTag, tag_of, tags_of, member_tags, all_tags, IsFirst}
use Rattle.cluster_parts.specs.Views.{member_in}
use Rattle.cluster_parts.proofs.Blocks.{found_first, length-laid}

get-none : (ps : List PartState) (n : ℕ) → length ps ≤ n → slice_get ps n ≡ None
get-none [] n h = refl
get-none (p ∷ ps) zero h = absurd (omega arith)
get-none (p ∷ ps) (suc n) h = get-none ps n (omega arith)

get-middle : (xs : List PartState) (n : ℕ) (y : PartState) (ys : List PartState) → length xs ≡ n → slice_get (xs ++ y ∷ ys) n ≡ Some y
get-middle [] zero y ys e = refl
get-middle [] (suc n) y ys e = absurd (omega arith)
get-middle (x ∷ xs) zero y ys e = absurd (omega arith)
get-middle (x ∷ xs) (suc n) y ys e = get-middle xs n y ys (omega arith)

first-block : (before block after : List PartState) (m : Member) (per first : ℕ) → 0 < per → length before ≡ first → tags_of block ≡ member_tags m 0 per → member_in (slice_get (before ++ (block ++ after)) first) ≡ Some m
first-block before [] after m zero first some at own = absurd (omega arith)
first-block before [] after m (suc per) first some at own = absurd (cc)
first-block before (p ∷ block) after m zero first some at own = absurd (omega arith)
first-block before (p ∷ block) after m (suc per) first some at own =
    let t : tag_of p ≡ record { member = m; number = 0 } = cc in
    ap member_in (get-middle before first p (block ++ after) at) ∙ ap (λ (z : PartTag). Some z.member) t

-- the member of each boot, from 0
pub member_laid : (per k : ℕ) (ns : List Home) (ps : List PartState) (node : Home) → 0 < per → tags_of ps ≡ all_tags per 1 ns → slice_get ns k ≡ Some node
    → Some (booted_at node (k + 1)) ≡ member_in (slice_get ps (k * per))
member_laid per k ns ps node some e at =
    let m : Member = booted_at node (k + 1) in
    let f = found_first m per 1 k ns ps some e (omega arith) at in
    sym (subst (λ (z : List PartState). member_in (slice_get z (k * per)) ≡ Some m) (sym f.whole) (first-block f.before f.block f.after m per (k * per) some f.at f.own))

-- and there is none past the last
pub none_laid : (per k : ℕ) (ns : List Home) (ps : List PartState) → tags_of ps ≡ all_tags per 1 ns → length ns ≤ k → None ≡ member_in (slice_get ps (k * per))
none_laid per k ns ps e l = sym (ap member_in (get-none ps (k * per) (omega (arith, length-laid per 1 ns ps e, mul-le-mul_right {m = length ns} {n = k} per l))))
