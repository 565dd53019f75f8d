-- The parts of a member are next to each other.
use Rattle.std.proofs.Common.{◌≡◌, ◌≢◌, ℕ, ◌+◌, ◌*◌, ◌<◌, ◌≤◌, Bool, true, false, List, [], ◌∷◌, ◌++◌, length, set, refl, sym, ap, ◌∙◌, subst, arith, append_assoc, append-nil, mul-le-mul_right}
use Rattle.std.specs.Prelude.{zero, suc, slice_get, Some}
use Rattle.std.proofs.lemmas.List.{length-append, length-map}
use Rattle.actor_names.specs.declared.member.Member.{Member}
use Rattle.actor_names.specs.Same.{same_member}
use Rattle.part_model.specs.Part.{PartState}
use Rattle.cluster_model.proofs.Basics.{same_member-true}
use Rattle.cluster_parts.specs.declared.home.Home.{Home}
use Rattle.cluster_parts.specs.Layout.{booted_at, home_of, PartTag, tag_of, tags_of, member_tags, all_tags, HasNone, IsFirst}

record Split (ps : List PartState) (xs ys : List PartTag) : Type 0 where
  front : List PartState
  back : List PartState
  whole : ps ≡ front ++ back
  front_is : tags_of front ≡ xs
  back_is : tags_of back ≡ ys

head_same : (a b : PartTag) (xs ys : List PartTag) → a ∷ xs ≡ b ∷ ys → a ≡ b
head_same a b xs ys e = cc

tail_same : (a b : PartTag) (xs ys : List PartTag) → a ∷ xs ≡ b ∷ ys → xs ≡ ys
tail_same a b xs ys e = cc

split : (ps : List PartState) (xs ys : List PartTag) → tags_of ps ≡ xs ++ ys → Split ps xs ys
split ps [] ys e = record { front = []; back = ps; whole = refl; front_is = refl; back_is = e }
split [] (x ∷ xs) ys e = absurd (cc)
split (p ∷ ps) (x ∷ xs) ys e =
    let s = split ps xs ys (tail_same (tag_of p) x (tags_of ps) (xs ++ ys) e) in
    let h = head_same (tag_of p) x (tags_of ps) (xs ++ ys) e in
    record {
      front = p ∷ s.front;
      back = s.back;
      whole = ap (λ (z : List PartState). p ∷ z) s.whole;
      front_is = ap (λ (z : List PartTag). tag_of p ∷ z) s.front_is ∙ ap (λ (z : PartTag). z ∷ xs) h;
      back_is = s.back_is;
    }

length-member_tags : (m : Member) (i n : ℕ) → length (member_tags m i n) ≡ n
length-member_tags m i zero = refl
length-member_tags m i (suc n) = ap (λ (k : ℕ). suc k) (length-member_tags m (suc i) n)

pub length-block : (ps : List PartState) (m : Member) (i n : ℕ) → tags_of ps ≡ member_tags m i n → length ps ≡ n
length-block ps m i n e = sym (length-map ps tag_of) ∙ ap (λ (z : List PartTag). length z) e ∙ length-member_tags m i n

pub none-append : (m : Member) (xs ys : List PartState) → HasNone m xs → HasNone m ys → HasNone m (xs ++ ys)
none-append m [] ys h k = k
none-append m (x ∷ xs) ys h k = (h.0, none-append m xs ys h.1 k)

-- a block of another member has none
none_block : (m o : Member) (ps : List PartState) (i n : ℕ) → tags_of ps ≡ member_tags o i n → same_member m o ≡ false → HasNone m ps
none_block m o [] i n e d = tt
none_block m o (p ∷ ps) i zero e d = absurd (cc)
none_block m o (p ∷ ps) i (suc n) e d =
    let h : p.member ≡ o = ap (λ (t : PartTag). t.member) (head_same (tag_of p) _ (tags_of ps) (member_tags o (suc i) n) e) in
    (subst (λ (z : Member). same_member m z ≡ false) (sym h) d, none_block m o ps (suc i) n (tail_same (tag_of p) _ (tags_of ps) (member_tags o (suc i) n) e) d)

-- members of another boot or node differ
other_boot : (m o : Member) → m.boot ≢ o.boot → same_member m o ≡ false
other_boot m o d = go (same_member m o) refl
  where
    go : (b : Bool) → same_member m o ≡ b → b ≡ false
    go false e = refl
    go true e = absurd (d (ap (λ (z : Member). z.boot) (same_member-true m o e)))

other_node : (m o : Member) → home_of m ≢ home_of o → same_member m o ≡ false
other_node m o d = go (same_member m o) refl
  where
    go : (b : Bool) → same_member m o ≡ b → b ≡ false
    go false e = refl
    go true e = absurd (d (ap home_of (same_member-true m o e)))

-- a member of an earlier boot has none
pub none_earlier : (m : Member) (per boot : ℕ) (ns : List Home) (ps : List PartState) → tags_of ps ≡ all_tags per boot ns → m.boot < boot → HasNone m ps
none_earlier m per boot [] [] e l = tt
none_earlier m per boot [] (p ∷ ps) e l = absurd (cc)
none_earlier m per boot (n ∷ ns) ps e l =
    let o : Member = booted_at n boot in
    let s = split ps (member_tags o 0 per) (all_tags per (suc boot) ns) e in
    subst (λ (z : List PartState). HasNone m z) (sym s.whole)
    (none-append m s.front s.back (none_block m o s.front 0 per s.front_is (other_boot m o (λ q. omega arith))) (none_earlier m per (suc boot) ns s.back s.back_is (omega arith)))

-- a member of a later boot has none
pub none_later : (m : Member) (per boot k : ℕ) (ns : List Home) (ps : List PartState) → tags_of ps ≡ all_tags per boot ns → m.boot ≡ boot + k → length ns ≤ k → HasNone m ps
none_later m per boot k [] [] e b l = tt
none_later m per boot k [] (p ∷ ps) e b l = absurd (cc)
none_later m per boot zero (n ∷ ns) ps e b l = absurd (omega arith)
none_later m per boot (suc k) (n ∷ ns) ps e b l =
    let o : Member = booted_at n boot in
    let s = split ps (member_tags o 0 per) (all_tags per (suc boot) ns) e in
    subst (λ (z : List PartState). HasNone m z) (sym s.whole)
    (none-append m s.front s.back (none_block m o s.front 0 per s.front_is (other_boot m o (λ q. omega arith))) (none_later m per (suc boot) k ns s.back s.back_is (omega arith) (omega arith)))

-- a member whose boot was of another node has none
pub none_other : (m : Member) (per boot k : ℕ) (ns : List Home) (ps : List PartState) (node : Home) → tags_of ps ≡ all_tags per boot ns → m.boot ≡ boot + k → slice_get ns k ≡ Some node → home_of m ≢ node → HasNone m ps
none_other m per boot k [] ps node e b at d = absurd (cc)
none_other m per boot zero (n ∷ ns) ps node e b at d =
    let o : Member = booted_at n boot in
    let s = split ps (member_tags o 0 per) (all_tags per (suc boot) ns) e in
    let same : n ≡ node = cc in
    subst (λ (z : List PartState). HasNone m z) (sym s.whole)
    (none-append m s.front s.back (none_block m o s.front 0 per s.front_is (other_node m o (λ q. d (q ∙ same)))) (none_earlier m per (suc boot) ns s.back s.back_is (omega arith)))
none_other m per boot (suc k) (n ∷ ns) ps node e b at d =
    let o : Member = booted_at n boot in
    let s = split ps (member_tags o 0 per) (all_tags per (suc boot) ns) e in
    subst (λ (z : List PartState). HasNone m z) (sym s.whole)
    (none-append m s.front s.back (none_block m o s.front 0 per s.front_is (other_boot m o (λ q. omega arith))) (none_other m per (suc boot) k ns s.back node s.back_is (omega arith) at d))

behind : (m : Member) (per first : ℕ) (block rest : List PartState) → HasNone m block → length block ≡ per → IsFirst rest m per first → IsFirst (block ++ rest) m per (per + first)
behind m per first block rest none many f =
    record {
      before = block ++ f.before;
      block = f.block;
      after = f.after;
      whole = ap (λ (z : List PartState). block ++ z) f.whole ∙ sym (append_assoc block f.before (f.block ++ f.after));
      at = omega (arith, length-append block f.before, f.at, many);
      none_before = none-append m block f.before none f.none_before;
      none_after = f.none_after;
      own = f.own;
      some = f.some;
    }

member_same : (m : Member) (node : Home) (boot : ℕ) → home_of m ≡ node → m.boot ≡ boot → booted_at node boot ≡ m
member_same m node boot e f = λ i. record { space = (sym e i).space; node = (sym e i).node; boot = sym f i }

-- the parts of the member of this boot
pub found_first : (m : Member) (per boot k : ℕ) (ns : List Home) (ps : List PartState) → 0 < per → tags_of ps ≡ all_tags per boot ns → m.boot ≡ boot + k → slice_get ns k ≡ Some (home_of m) → IsFirst ps m per (k * per)
found_first m per boot k [] ps some e b at = absurd (cc)
found_first m per boot zero (n ∷ ns) ps some e b at =
    let o : Member = booted_at n boot in
    let s = split ps (member_tags o 0 per) (all_tags per (suc boot) ns) e in
    let node : n ≡ home_of m = cc in
    let same : o ≡ m = member_same m n boot (sym node) (omega arith) in
    record {
      before = [];
      block = s.front;
      after = s.back;
      whole = s.whole;
      at = omega arith;
      none_before = tt;
      none_after = none_earlier m per (suc boot) ns s.back s.back_is (omega arith);
      own = s.front_is ∙ ap (λ (z : Member). member_tags z 0 per) same;
      some = some;
    }
found_first m per boot (suc k) (n ∷ ns) ps some e b at =
    let o : Member = booted_at n boot in
    let s = split ps (member_tags o 0 per) (all_tags per (suc boot) ns) e in
    let more = found_first m per (suc boot) k ns s.back some s.back_is (omega arith) at in
    let here = behind m per (k * per) s.front s.back (none_block m o s.front 0 per s.front_is (other_boot m o (λ q. omega arith))) (length-block s.front o 0 per s.front_is) more in
    subst (λ (z : List PartState). IsFirst z m per (suc k * per)) (sym s.whole) (subst (λ (j : ℕ). IsFirst (s.front ++ s.back) m per j) (omega arith) here)

-- there are as many parts as members times the parts of each
pub length-laid : (per boot : ℕ) (ns : List Home) (ps : List PartState) → tags_of ps ≡ all_tags per boot ns → length ps ≡ length ns * per
length-laid per boot [] [] e = omega arith
length-laid per boot [] (p ∷ ps) e = absurd (cc)
length-laid per boot (n ∷ ns) ps e =
    let o : Member = booted_at n boot in
    let s = split ps (member_tags o 0 per) (all_tags per (suc boot) ns) e in
    let more = length-laid per (suc boot) ns s.back s.back_is in
    let front = length-block s.front o 0 per s.front_is in
    omega (arith, ap (λ (z : List PartState). length z) s.whole, length-append s.front s.back, more, front)

-- a step that keeps whose part it is keeps the layout
pub tags-set : (ps : List PartState) (n : ℕ) (p q : PartState) → slice_get ps n ≡ Some p → q.member ≡ p.member → q.number ≡ p.number → tags_of (set ps n q) ≡ tags_of ps
tags-set [] n p q e f g = refl
tags-set (x ∷ ps) zero p q e f g =
    let same : x ≡ p = cc in
    let t : tag_of q ≡ tag_of x = (λ i. record { member = (f ∙ ap (λ (z : PartState). z.member) (sym same)) i; number = (g ∙ ap (λ (z : PartState). z.number) (sym same)) i }) in
    ap (λ (z : PartTag). z ∷ tags_of ps) t
tags-set (x ∷ ps) (suc n) p q e f g = ap (λ (z : List PartTag). tag_of x ∷ z) (tags-set ps n p q e f g)

-- one more member
pub tags-boot : (per boot : ℕ) (ns : List Home) (node : Home) (ps qs : List PartState) → tags_of ps ≡ all_tags per boot ns →
    tags_of qs ≡ member_tags (booted_at node (boot + length ns)) 0 per → tags_of (ps ++ qs) ≡ all_tags per boot (ns ++ node ∷ [])
tags-boot per boot ns node ps qs e f = tags-append ps qs ∙ ap (λ (z : List PartTag). z ++ tags_of qs) e ∙ ap (λ (z : List PartTag). all_tags per boot ns ++ z) f ∙ sym (more boot ns)
  where
    tags-append : (xs ys : List PartState) → tags_of (xs ++ ys) ≡ tags_of xs ++ tags_of ys
    tags-append [] ys = refl
    tags-append (x ∷ xs) ys = ap (λ (z : List PartTag). tag_of x ∷ z) (tags-append xs ys)

    more : (boot : ℕ) (ns : List Home) → all_tags per boot (ns ++ node ∷ []) ≡ all_tags per boot ns ++ member_tags (booted_at node (boot + length ns)) 0 per
    more boot [] = append-nil _ ∙ ap (λ (k : ℕ). member_tags (booted_at node k) 0 per) (omega arith)
    more boot (n ∷ ns) =
        ap (λ (z : List PartTag). member_tags (booted_at n boot) 0 per ++ z) (more (suc boot) ns)
        ∙ sym (append_assoc (member_tags (booted_at n boot) 0 per) (all_tags per (suc boot) ns) (member_tags (booted_at node (suc boot + length ns)) 0 per))
        ∙ ap (λ (k : ℕ). (member_tags (booted_at n boot) 0 per ++ all_tags per (suc boot) ns) ++ member_tags (booted_at node k) 0 per) (omega arith)

-- the place of a member's first part is at most the number of parts
pub place_below : (per k : ℕ) (ns : List Home) (ps : List PartState) → tags_of ps ≡ all_tags per 1 ns → k < length ns → k * per ≤ length ps
place_below per k ns ps e l =
    let below : k ≤ length ns = omega arith in
    omega (arith, length-laid per 1 ns ps e, mul-le-mul_right {m = k} {n = length ns} per below)
