-- What the cluster model's searches through all parts find, if the parts of a member are next to each other.
use Rattle.std.proofs.Common.{◌≡◌, ◌≢◌, ℕ, ◌+◌, ◌-◌, ◌<◌, ◌≤◌, Bool, true, false, not, cond, List, [], ◌∷◌, ◌++◌, length, refl, sym, ap, ◌∙◌, subst, arith, append_assoc}
use Rattle.std.specs.Prelude.{zero, suc, map, ◌&&◌, ◌||◌, ◌==◌, slice_get, Option, None, Some}
use Rattle.std.proofs.lemmas.Bool.{ne_eqb, eq-eqb, eqb-true, true≢false}
use Rattle.std.proofs.lemmas.List.{length-append, length-map}
use Rattle.actor_names.specs.declared.member.Member.{Member}
use Rattle.actor_names.specs.Same.{same_member}
use Rattle.part_model.specs.Receipts.{ReceiptState}
use Rattle.part_model.specs.declared.stage.SeenStage.TheVariants as seen
use Rattle.part_model.specs.declared.stage.Stage.{Stage}
use Rattle.part_model.specs.declared.stage.Stage.TheVariants.{Locked, Updated, Open, Stopped}
use Rattle.part_model.specs.Part.{PartState, is_stopped, is_drained, seen_stage, receipt_of, ring_owner}
use Rattle.part_model.specs.Acks.{is_stopped_stage, is_of_part, other_place}
use Rattle.cluster_model.specs.World.{key_part, is_part, up, place_of_part, places_of, was_booted, all_stopped, receipts_of}
use Rattle.cluster_model.proofs.Basics.{same_member-self}
use Rattle.cluster_parts.specs.Layout.{PartTag, tag_of, tags_of, member_tags, HasNone, IsFirst, with_found, segment, are_all_stopped, counted_from}
use Rattle.cluster_parts.proofs.Blocks.{length-block}

-- a block of the member's parts
abbrev IsBlock : Member → ℕ → ℕ → List PartState → Type 0
IsBlock m i n ps = tags_of ps ≡ member_tags m i n

own_head : (m : Member) (i n : ℕ) (p : PartState) (ps : List PartState) → IsBlock m i (suc n) (p ∷ ps) → (p.member ≡ m) × (p.number ≡ i) × IsBlock m (suc i) n ps
own_head m i n p ps e = (ap (λ (t : PartTag). t.member) (head (tag_of p) _ _ _ e), ap (λ (t : PartTag). t.number) (head (tag_of p) _ _ _ e), tail (tag_of p) _ _ _ e)
  where
    head : (a b : PartTag) (xs ys : List PartTag) → a ∷ xs ≡ b ∷ ys → a ≡ b
    head a b xs ys e = cc

    tail : (a b : PartTag) (xs ys : List PartTag) → a ∷ xs ≡ b ∷ ys → xs ≡ ys
    tail a b xs ys e = cc

own_same : (m : Member) (p : PartState) → p.member ≡ m → same_member m p.member ≡ true
own_same m p e = subst (λ (z : Member). same_member m z ≡ true) (sym e) (same_member-self m)

-- ---- the place of a part

shifted : ℕ → Option ℕ → Option ℕ
shifted k None = None
shifted k (Some n) = Some (k + n)

shifted-up : (k : ℕ) (o : Option ℕ) → up (shifted k o) ≡ shifted (suc k) o
unfolding shifted
shifted-up k None = refl
shifted-up k (Some n) = ap (λ (j : ℕ). Some j) (omega arith)

shifted-zero : (o : Option ℕ) → shifted 0 o ≡ o
unfolding shifted
shifted-zero None = refl
shifted-zero (Some n) = ap (λ (j : ℕ). Some j) (omega arith)

not_first : (m : Member) (i : ℕ) (p : PartState) (o : Option ℕ) → same_member m p.member ≡ false → cond (is_part m i p) (Some 0) o ≡ o
not_first m i p o e = ap (λ (b : Bool). cond (b && (i == p.number)) (Some 0) o) e

place-skip : (m : Member) (i : ℕ) (xs ys : List PartState) → HasNone m xs → place_of_part (xs ++ ys) m i ≡ shifted (length xs) (place_of_part ys m i)
place-skip m i [] ys h = sym (shifted-zero (place_of_part ys m i))
place-skip m i (x ∷ xs) ys h = not_first m i x (up (place_of_part (xs ++ ys) m i)) h.0 ∙ ap up (place-skip m i xs ys h.1) ∙ shifted-up (length xs) (place_of_part ys m i)

pub place-none : (m : Member) (i : ℕ) (ps : List PartState) → HasNone m ps → place_of_part ps m i ≡ None
place-none m i [] h = refl
place-none m i (p ∷ ps) h = not_first m i p (up (place_of_part ps m i)) h.0 ∙ ap up (place-none m i ps h.1)

place-in : (m : Member) (j n i : ℕ) (block after : List PartState) → IsBlock m j n block → j ≤ i → i < j + n → place_of_part (block ++ after) m i ≡ Some (i - j)
place-in m j zero i block after e l u = absurd (omega arith)
place-in m j (suc n) i [] after e l u = absurd (cc)
place-in m j (suc n) i (p ∷ ps) after e l u = go (place-in m (suc j) n i ps after h.2) (i == j) refl
  where
    h : (p.member ≡ m) × (p.number ≡ j) × IsBlock m (suc j) n ps
    h = own_head m j n p ps e

    part_is : (b : Bool) → (i == j) ≡ b → is_part m i p ≡ b
    part_is b f = ap (λ (z : Bool). z && (i == p.number)) (own_same m p h.0) ∙ ap (λ (k : ℕ). i == k) h.1 ∙ f

    go : (suc j ≤ i → i < suc j + n → place_of_part (ps ++ after) m i ≡ Some (i - suc j)) → (b : Bool) → (i == j) ≡ b → place_of_part ((p ∷ ps) ++ after) m i ≡ Some (i - j)
    go more true f = (let same = eqb-true i j f in ap (λ (b : Bool). cond b (Some 0) (up (place_of_part (ps ++ after) m i))) (part_is true f) ∙ ap (λ (k : ℕ). Some k) (omega arith))
    go more false f =
        let apart : i ≢ j = λ q. true≢false (sym (eq-eqb i j q) ∙ f) in
        ap (λ (b : Bool). cond b (Some 0) (up (place_of_part (ps ++ after) m i))) (part_is false f)
        ∙ ap up (more (omega arith) (omega arith)) ∙ ap (λ (k : ℕ). Some k) (omega arith)

place-out : (m : Member) (j n i : ℕ) (block after : List PartState) → IsBlock m j n block → HasNone m after → j + n ≤ i → place_of_part (block ++ after) m i ≡ None
place-out m j zero i [] after e none u = place-none m i after none
place-out m j zero i (p ∷ ps) after e none u = absurd (cc)
place-out m j (suc n) i [] after e none u = absurd (cc)
place-out m j (suc n) i (p ∷ ps) after e none u =
    let h = own_head m j n p ps e in
    let apart : (i == p.number) ≡ false = ne_eqb i p.number (λ q. (let z = h.1 in omega arith)) in
    let part_is : is_part m i p ≡ false = ap (λ (z : Bool). z && (i == p.number)) (own_same m p h.0) ∙ apart in
    ap (λ (b : Bool). cond b (Some 0) (up (place_of_part (ps ++ after) m i))) part_is ∙ ap up (place-out m (suc j) n i ps after h.2 none (omega arith))

pub place-first : (ps : List PartState) (m : Member) (per first i : ℕ) → IsFirst ps m per first → i < per → place_of_part ps m i ≡ Some (first + i)
unfolding shifted
place-first ps m per first i f l =
    ap (λ (z : List PartState). place_of_part z m i) f.whole ∙ place-skip m i f.before (f.block ++ f.after) f.none_before
    ∙ ap (λ (o : Option ℕ). shifted (length f.before) o) (place-in m 0 per i f.block f.after f.own (omega arith) (omega arith)) ∙ ap (λ (k : ℕ). Some k) (let a = f.at in omega arith)

pub place-past : (ps : List PartState) (m : Member) (per first i : ℕ) → IsFirst ps m per first → per ≤ i → place_of_part ps m i ≡ None
unfolding shifted
place-past ps m per first i f l =
    ap (λ (z : List PartState). place_of_part z m i) f.whole ∙ place-skip m i f.before (f.block ++ f.after) f.none_before
    ∙ ap (λ (o : Option ℕ). shifted (length f.before) o) (place-out m 0 per i f.block f.after f.own f.none_after (omega arith))

-- ---- whether it was booted

booted-skip : (m : Member) (xs ys : List PartState) → HasNone m xs → was_booted (xs ++ ys) m ≡ was_booted ys m
booted-skip m [] ys h = refl
booted-skip m (x ∷ xs) ys h = ap (λ (b : Bool). b || was_booted (xs ++ ys) m) h.0 ∙ booted-skip m xs ys h.1

pub booted-none : (m : Member) (ps : List PartState) → HasNone m ps → was_booted ps m ≡ false
booted-none m [] h = refl
booted-none m (p ∷ ps) h = ap (λ (b : Bool). b || was_booted ps m) h.0 ∙ booted-none m ps h.1

pub booted-first : (ps : List PartState) (m : Member) (per first : ℕ) → IsFirst ps m per first → was_booted ps m ≡ true
booted-first ps m per first f =
    ap (λ (z : List PartState). was_booted z m) f.whole ∙ booted-skip m f.before (f.block ++ f.after) f.none_before ∙ own per f.block f.some f.own
  where
    own : (n : ℕ) (block : List PartState) → 0 < n → IsBlock m 0 n block → was_booted (block ++ f.after) m ≡ true
    own zero block l e = absurd (omega arith)
    own (suc n) [] l e = absurd (cc)
    own (suc n) (p ∷ block) l e = ap (λ (b : Bool). b || was_booted (block ++ f.after) m) (own_same m p (own_head m 0 n p block e).0)

-- ---- the places of its parts

places-skip : (m : Member) (n : ℕ) (xs ys : List PartState) → HasNone m xs → places_of (xs ++ ys) m n ≡ places_of ys m (n + length xs)
places-skip m n [] ys h = ap (λ (k : ℕ). places_of ys m k) (omega arith)
places-skip m n (x ∷ xs) ys h =
    ap (λ (b : Bool). cond b (n ∷ places_of (xs ++ ys) m (suc n)) (places_of (xs ++ ys) m (suc n))) h.0 ∙ places-skip m (suc n) xs ys h.1 ∙ ap (λ (k : ℕ). places_of ys m k) (omega arith)

places-none : (m : Member) (n : ℕ) (ps : List PartState) → HasNone m ps → places_of ps m n ≡ []
places-none m n [] h = refl
places-none m n (p ∷ ps) h = ap (λ (b : Bool). cond b (n ∷ places_of ps m (suc n)) (places_of ps m (suc n))) h.0 ∙ places-none m (suc n) ps h.1

places-own : (m : Member) (k j n : ℕ) (block after : List PartState) → IsBlock m j n block → HasNone m after → places_of (block ++ after) m k ≡ counted_from k n
places-own m k j zero [] after e none = places-none m k after none
places-own m k j zero (p ∷ ps) after e none = absurd (cc)
places-own m k j (suc n) [] after e none = absurd (cc)
places-own m k j (suc n) (p ∷ ps) after e none =
    let h = own_head m j n p ps e in
    ap (λ (b : Bool). cond b (k ∷ places_of (ps ++ after) m (suc k)) (places_of (ps ++ after) m (suc k))) (own_same m p h.0) ∙ ap (λ (z : List ℕ). k ∷ z) (places-own m (suc k) (suc j) n ps after h.2 none)

pub places-first : (ps : List PartState) (m : Member) (per first : ℕ) → IsFirst ps m per first → places_of ps m 0 ≡ counted_from first per
places-first ps m per first f =
    ap (λ (z : List PartState). places_of z m 0) f.whole ∙ places-skip m 0 f.before (f.block ++ f.after) f.none_before
    ∙ ap (λ (k : ℕ). places_of (f.block ++ f.after) m k) (let a = f.at in omega arith) ∙ places-own m first 0 per f.block f.after f.own f.none_after

-- ---- the parts themselves

slice-append : (xs ys : List PartState) (n : ℕ) → slice_get (xs ++ ys) (length xs + n) ≡ slice_get ys n
slice-append [] ys n = (let e : 0 + n ≡ n = omega arith in ap (λ (k : ℕ). slice_get ys k) e)
slice-append (x ∷ xs) ys n = (let e : suc (length xs) + n ≡ suc (length xs + n) = omega arith in ap (λ (k : ℕ). slice_get (x ∷ (xs ++ ys)) k) e ∙ slice-append xs ys n)

segment-own : (ps : List PartState) (n : ℕ) (before block after : List PartState) → ps ≡ before ++ (block ++ after) → length block ≡ n → segment ps (length before) n ≡ block
segment-own ps zero before [] after w e = refl
segment-own ps zero before (b ∷ block) after w e = absurd (omega arith)
segment-own ps (suc n) before [] after w e = absurd (omega arith)
segment-own ps (suc n) before (b ∷ block) after w e =
    let here : slice_get ps (length before) ≡ Some b =
    ap (λ (z : List PartState). slice_get z (length before)) w ∙ ap (λ (k : ℕ). slice_get (before ++ (b ∷ (block ++ after))) k) (omega arith) ∙ slice-append before (b ∷ (block ++ after)) 0 in
    let next : length (before ++ b ∷ []) ≡ suc (length before) = length-append before (b ∷ []) ∙ omega arith in
    let rest : ps ≡ (before ++ b ∷ []) ++ (block ++ after) = w ∙ sym (append_assoc before (b ∷ []) (block ++ after)) in
    let more = segment-own ps n (before ++ b ∷ []) block after rest (omega arith) in
    ap (λ (o : Option PartState). with_found o (segment ps (suc (length before)) n)) here
    ∙ ap (λ (z : List PartState). b ∷ z) (ap (λ (k : ℕ). segment ps k n) (sym next) ∙ more)

pub segment-first : (ps : List PartState) (m : Member) (per first : ℕ) → (f : IsFirst ps m per first) → segment ps first per ≡ f.block
segment-first ps m per first f = ap (λ (k : ℕ). segment ps k per) (sym f.at) ∙ segment-own ps per f.before f.block f.after f.whole (length-block f.block m 0 per f.own)

pub first-within : (ps : List PartState) (m : Member) (per first : ℕ) → IsFirst ps m per first → first + per ≤ length ps
first-within ps m per first f =
    omega (arith, f.at, length-block f.block m 0 per f.own, ap (λ (z : List PartState). length z) f.whole, length-append f.before (f.block ++ f.after), length-append f.block f.after)

-- ---- receipts

receipts-skip : (m : Member) (xs ys : List PartState) → HasNone m xs → receipts_of ring_owner key_part (xs ++ ys) m ≡ receipts_of ring_owner key_part ys m
receipts-skip m [] ys h = refl
receipts-skip m (x ∷ xs) ys h = ap (λ (b : Bool). cond b (receipt_of ring_owner x ∷ receipts_of ring_owner key_part (xs ++ ys) m) (receipts_of ring_owner key_part (xs ++ ys) m)) h.0 ∙ receipts-skip m xs ys h.1

receipts-none : (m : Member) (ps : List PartState) → HasNone m ps → receipts_of ring_owner key_part ps m ≡ []
receipts-none m [] h = refl
receipts-none m (p ∷ ps) h = ap (λ (b : Bool). cond b (receipt_of ring_owner p ∷ receipts_of ring_owner key_part ps m) (receipts_of ring_owner key_part ps m)) h.0 ∙ receipts-none m ps h.1

receipts-own : (m : Member) (j n : ℕ) (block after : List PartState) → IsBlock m j n block → HasNone m after → receipts_of ring_owner key_part (block ++ after) m ≡ map (receipt_of ring_owner) block
receipts-own m j zero [] after e none = receipts-none m after none
receipts-own m j zero (p ∷ ps) after e none = absurd (cc)
receipts-own m j (suc n) [] after e none = absurd (cc)
receipts-own m j (suc n) (p ∷ ps) after e none =
    let h = own_head m j n p ps e in
    ap (λ (b : Bool). cond b (receipt_of ring_owner p ∷ receipts_of ring_owner key_part (ps ++ after) m) (receipts_of ring_owner key_part (ps ++ after) m)) (own_same m p h.0)
    ∙ ap (λ (z : List ReceiptState). receipt_of ring_owner p ∷ z) (receipts-own m (suc j) n ps after h.2 none)

pub receipts-first : (ps : List PartState) (m : Member) (per first : ℕ) → IsFirst ps m per first → receipts_of ring_owner key_part ps m ≡ map (receipt_of ring_owner) (segment ps first per)
receipts-first ps m per first f =
    ap (λ (z : List PartState). receipts_of ring_owner key_part z m) f.whole ∙ receipts-skip m f.before (f.block ++ f.after) f.none_before ∙ receipts-own m 0 per f.block f.after f.own f.none_after
    ∙ ap (λ (z : List PartState). map (receipt_of ring_owner) z) (sym (segment-first ps m per first f))

others-own : (m : Member) (j n : ℕ) (block : List PartState) → IsBlock m j n block → other_place m j (map (receipt_of ring_owner) block) ≡ None
others-own m j n [] e = refl
others-own m j zero (p ∷ ps) e = absurd (cc)
others-own m j (suc n) (p ∷ ps) e =
    let h = own_head m j n p ps e in
    let own : is_of_part m j (receipt_of ring_owner p) ≡ true =
    ap (λ (b : Bool). b && (p.number == j)) (subst (λ (z : Member). same_member z m ≡ true) (sym h.0) (same_member-self m)) ∙ eq-eqb p.number j h.1 in
    ap (λ (b : Bool). cond b (other_place m (j + 1) (map (receipt_of ring_owner) ps)) (Some j)) own ∙ ap (λ (k : ℕ). other_place m k (map (receipt_of ring_owner) ps)) (omega arith) ∙ others-own m (suc j) n ps h.2

-- each receipt is that of the member's part of its place
pub others-first : (ps : List PartState) (m : Member) (per first : ℕ) → IsFirst ps m per first → other_place m 0 (receipts_of ring_owner key_part ps m) ≡ None
others-first ps m per first f =
    ap (λ (z : List ReceiptState). other_place m 0 z) (receipts-first ps m per first f ∙ ap (λ (z : List PartState). map (receipt_of ring_owner) z) (segment-first ps m per first f)) ∙ others-own m 0 per f.block f.own

pub length-receipts : (ps : List PartState) (m : Member) (per first : ℕ) → IsFirst ps m per first → length (receipts_of ring_owner key_part ps m) ≡ per
length-receipts ps m per first f =
    ap (λ (z : List ReceiptState). length z) (receipts-first ps m per first f ∙ ap (λ (z : List PartState). map (receipt_of ring_owner) z) (segment-first ps m per first f))
    ∙ length-map f.block (receipt_of ring_owner) ∙ length-block f.block m 0 per f.own

-- ---- stopped parts

stopped-skip : (m : Member) (xs ys : List PartState) → HasNone m xs → all_stopped (xs ++ ys) m ≡ all_stopped ys m
stopped-skip m [] ys h = refl
stopped-skip m (x ∷ xs) ys h = ap (λ (b : Bool). (not b || is_stopped x.stage) && all_stopped (xs ++ ys) m) h.0 ∙ stopped-skip m xs ys h.1

pub stopped-none : (m : Member) (ps : List PartState) → HasNone m ps → all_stopped ps m ≡ true
stopped-none m [] h = refl
stopped-none m (p ∷ ps) h = ap (λ (b : Bool). (not b || is_stopped p.stage) && all_stopped ps m) h.0 ∙ stopped-none m ps h.1

stopped-own : (m : Member) (j n : ℕ) (block after : List PartState) → IsBlock m j n block → HasNone m after → all_stopped (block ++ after) m ≡ are_all_stopped block
stopped-own m j zero [] after e none = stopped-none m after none
stopped-own m j zero (p ∷ ps) after e none = absurd (cc)
stopped-own m j (suc n) [] after e none = absurd (cc)
stopped-own m j (suc n) (p ∷ ps) after e none =
    let h = own_head m j n p ps e in
    ap (λ (b : Bool). (not b || is_stopped p.stage) && all_stopped (ps ++ after) m) (own_same m p h.0) ∙ ap (λ (b : Bool). is_stopped p.stage && b) (stopped-own m (suc j) n ps after h.2 none)

pub stopped-first : (ps : List PartState) (m : Member) (per first : ℕ) → IsFirst ps m per first → all_stopped ps m ≡ are_all_stopped (segment ps first per)
stopped-first ps m per first f =
    ap (λ (z : List PartState). all_stopped z m) f.whole ∙ stopped-skip m f.before (f.block ++ f.after) f.none_before ∙ stopped-own m 0 per f.block f.after f.own f.none_after
    ∙ ap are_all_stopped (sym (segment-first ps m per first f))

-- a receipt says whether its part has stopped
pub stopped_receipt_is : (p : PartState) → is_stopped_stage (receipt_of ring_owner p).stage ≡ is_stopped p.stage
stopped_receipt_is p = go p.stage
  where
    go : (s : Stage) → is_stopped_stage (seen_stage ring_owner p s) ≡ is_stopped s
    go Stopped = refl
    go Locked = refl
    go Open = refl
    go Updated = drained (is_drained ring_owner p)
      where
        drained : (b : Bool) → is_stopped_stage (cond b seen.Drained seen.Draining) ≡ false
        drained true = refl
        drained false = refl

-- ---- one part more of those that are looked at

pub segment-next : (ps : List PartState) (at count : ℕ) (p : PartState) → slice_get ps at ≡ Some p → count ≢ 0 → segment ps at count ≡ p ∷ segment ps (at + 1) (count - 1)
segment-next ps at zero p e some = absurd (some refl)
segment-next ps at (suc n) p e some =
    let next : suc at ≡ at + 1 = omega arith in
    let less : n ≡ suc n - 1 = omega arith in
    (λ i. with_found (e i) (segment ps (next i) (less i)))

pub segment-none : (ps : List PartState) (at count : ℕ) → count ≡ 0 → segment ps at count ≡ []
segment-none ps at zero e = refl
segment-none ps at (suc n) e = absurd (omega arith)
