-- What an acceptance leaves of a lane: its numbers still differ, and a number that was used stays used.
use Rattle.std.proofs.Common.{◌≡◌, ◌⊎◌, inl, inr, ℕ, ◌+◌, ◌<◌, ◌≤◌, max, nat_le, ◌==◌, Bool, true, false, if◌then◌else◌, List, [], ◌∷◌, ◌++◌, length, Option, Some, None, Result, Ok, Err, is_some, refl, sym, ap, ◌∙◌, arith, length-append}
use Rattle.std.specs.Ordering.{nat_cmp, is_eq}
use Rattle.std.proofs.lemmas.Bool.Decides.{nat_tests}
use Rattle.lists_and_limits.specs.Lists.{found, without, with_put}
use Rattle.lists_and_limits.specs.Orders.{Ascends, IsPlace, OrderLaw}
use Rattle.lists_and_limits.specs.Cuts.{IsCut}
use Rattle.lists_and_limits.proofs.Orders.{law, cut, place_key}
use Rattle.stamp_lanes.specs.declared.answer.LaneAnswer.{LaneAnswer}
use Rattle.stamp_lanes.specs.declared.answer.KeptNumber.{KeptNumber}
use Rattle.stamp_lanes.specs.declared.answer.StampLook.{StampLook}
use Rattle.stamp_lanes.specs.declared.answer.StampLook.TheVariants.{Fresh, Kept}
use Rattle.stamp_lanes.specs.declared.error.StampError.{StampError}
use Rattle.stamp_lanes.specs.declared.lane.Lane.{Lane}
use Rattle.stamp_lanes.specs.Kept.{kept_answer, Differ}
use Rattle.stamp_lanes.specs.Lanes.{new_lane, answered, look_lane, dropped, with_space, joined, lane_after, IsLane, at_part, lane_cmp, lane_at, lane_or_new, lane_of, lanes_after}
use Rattle.std.specs.List.{AllByRecursion as Every}
use Rattle.stamp_lanes.specs.Stamps.{after_part}
use Rattle.stamp_lanes.specs.Orders.{lanes_total}
use Rattle.lists_and_limits.proofs.Maps as maps
use Rattle.lists_and_limits.proofs.Each.{each_put, each_found}

-- ---- numbers

other_way : (a b : ℕ) → (a == b) ≡ false → (b == a) ≡ false
other_way a b h = grind (arith, nat_tests)

same : (a : ℕ) → (a == a) ≡ true
same a = grind (arith, nat_tests)

-- a number that isn't kept is neither the first one nor behind it
pub apart : (n : ℕ) (x : KeptNumber) (xs : List KeptNumber) → kept_answer n (x ∷ xs) ≡ None → ((x.number == n) ≡ false) × (kept_answer n xs ≡ None)
apart n x xs h = go (x.number == n) refl
  where
    go : (b : Bool) → (x.number == n) ≡ b → ((x.number == n) ≡ false) × (kept_answer n xs ≡ None)
    go true t = absurd (let k : Some x.answer ≡ None = rw t at h in cc)
    go false t = (t, rw t at h)

answer-joined : (m : ℕ) (ks : List KeptNumber) (k : KeptNumber) → kept_answer m ks ≡ None → kept_answer m (ks ++ k ∷ []) ≡ (if k.number == m then Some k.answer else None)
answer-joined m [] k h = refl
answer-joined m (x ∷ xs) k h = let a = apart m x xs h in rw a.0 (answer-joined m xs k a.1)

pub differ-joined : (ks : List KeptNumber) (k : KeptNumber) → Differ ks → kept_answer k.number ks ≡ None → Differ (ks ++ k ∷ [])
differ-joined [] k d h = (refl, tt)
differ-joined (x ∷ xs) k d h =
    let a = apart k.number x xs h in
    let o : (k.number == x.number) ≡ false = other_way x.number k.number a.0 in
    (answer-joined x.number xs k d.0 ∙ rw o refl, differ-joined xs k d.1 a.1)

-- a kept number stays kept when another one joins
still : (m : ℕ) (ks : List KeptNumber) (k : KeptNumber) → is_some (kept_answer m ks) ≡ true → is_some (kept_answer m (ks ++ k ∷ [])) ≡ true
still m [] k h = absurd (cc)
still m (x ∷ xs) k h = go (x.number == m) refl (λ n. still m xs k n)
  where
    go : (b : Bool) → (x.number == m) ≡ b → (is_some (kept_answer m xs) ≡ true → is_some (kept_answer m (xs ++ k ∷ [])) ≡ true) → is_some (kept_answer m (x ∷ xs ++ k ∷ [])) ≡ true
    go true t ih = rw t refl
    go false t ih = rw t (ih (rw t at h))

-- a number that joins is kept
there : (ks : List KeptNumber) (k : KeptNumber) → is_some (kept_answer k.number (ks ++ k ∷ [])) ≡ true
there [] k = rw (same k.number) refl
there (x ∷ xs) k = go (x.number == k.number) (there xs k)
  where
    go : (b : Bool) → is_some (kept_answer k.number (xs ++ k ∷ [])) ≡ true → is_some (if b then Some x.answer else kept_answer k.number (xs ++ k ∷ [])) ≡ true
    go true ih = refl
    go false ih = ih

-- ---- one lane

-- a fresh number isn't kept, and is above the floor
pub fresh-is : (number floor : ℕ) (o : Option LaneAnswer) → answered number floor o ≡ Ok Fresh → (o ≡ None) × (floor < number)
fresh-is number floor (Some a) h = absurd (cc)
fresh-is number floor None h = (refl, go (nat_le number floor) refl)
  where
    go : (b : Bool) → nat_le number floor ≡ b → floor < number
    go true t = absurd (let k = rw t at h in cc)
    go false t = grind (arith, nat_tests)

dropped-fits : (lane : Lane) (ks : List KeptNumber) → length ks ≤ 256 → nat_le 256 (length ks) ≡ true → length ((dropped lane ks).kept) < 256
dropped-fits lane [] l h = absurd (cc)
dropped-fits lane (k ∷ ks) l h = omega arith

dropped-differ : (lane : Lane) (ks : List KeptNumber) → lane.kept ≡ ks → Differ ks → Differ ((dropped lane ks).kept)
dropped-differ lane [] is d = rw is tt
dropped-differ lane (k ∷ ks) is d = d.1

dropped-none : (n : ℕ) (lane : Lane) (ks : List KeptNumber) → lane.kept ≡ ks → kept_answer n ks ≡ None → kept_answer n ((dropped lane ks).kept) ≡ None
dropped-none n lane [] is h = rw is refl
dropped-none n lane (k ∷ ks) is h = (apart n k ks h).1

dropped-part : (lane : Lane) (ks : List KeptNumber) → (dropped lane ks).part ≡ lane.part
dropped-part lane [] = refl
dropped-part lane (k ∷ ks) = refl

module _ (lane : Lane) where
  -- what holds of a lane whether it drops a number or not
  space_by : (P : Lane → Type 0) → (nat_le 256 (length lane.kept) ≡ true → P (dropped lane lane.kept)) → (nat_le 256 (length lane.kept) ≡ false → P lane) → P (with_space lane)
  space_by P dropping keeping = go (nat_le 256 (length lane.kept)) refl
    where
      go : (b : Bool) → nat_le 256 (length lane.kept) ≡ b → P (if b then dropped lane lane.kept else lane)
      go true t = dropping t
      go false t = keeping t

  pub space-fits : length lane.kept ≤ 256 → length ((with_space lane).kept) < 256
  space-fits l = space_by (λ x. length x.kept < 256) (λ t. dropped-fits lane lane.kept l t) (λ t. grind (arith, nat_tests))

  space-differ : Differ lane.kept → Differ ((with_space lane).kept)
  space-differ d = space_by (λ x. Differ x.kept) (λ t. dropped-differ lane lane.kept refl d) (λ t. d)

  space-none : (n : ℕ) → kept_answer n lane.kept ≡ None → kept_answer n ((with_space lane).kept) ≡ None
  space-none n h = space_by (λ x. kept_answer n x.kept ≡ None) (λ t. dropped-none n lane lane.kept refl h) (λ t. h)

  pub space-part : (with_space lane).part ≡ lane.part
  space-part = space_by (λ x. x.part ≡ lane.part) (λ t. dropped-part lane lane.kept) (λ t. refl)

  pub is_lane-after : (k : KeptNumber) → IsLane lane → kept_answer k.number lane.kept ≡ None → IsLane (lane_after lane k)
  is_lane-after k i h = record {
    fits = (let f = space-fits i.fits in let m = length-append ((with_space lane).kept) (k ∷ []) in omega arith);
    differ = differ-joined ((with_space lane).kept) k (space-differ i.differ) (space-none k.number h);
  }

-- ---- used numbers

-- the number is kept, or at or below the floor
abbrev pub IsUsed : ℕ → Lane → Type 0
IsUsed number lane = (is_some (kept_answer number lane.kept) ≡ true) ⊎ (number ≤ lane.floor)

used-dropped : (number : ℕ) (lane : Lane) (ks : List KeptNumber) → lane.kept ≡ ks → (is_some (kept_answer number ks) ≡ true) ⊎ (number ≤ lane.floor) → IsUsed number (dropped lane ks)
used-dropped number lane [] is (inl h) = absurd (cc)
used-dropped number lane [] is (inr h) = inr h
used-dropped number lane (k ∷ ks) is (inr h) = inr (omega arith)
used-dropped number lane (k ∷ ks) is (inl h) = go (k.number == number) refl
  where
    go : (b : Bool) → (k.number == number) ≡ b → (is_some (kept_answer number ks) ≡ true) ⊎ (number ≤ max lane.floor k.number)
    go true t = inr (grind (arith, nat_tests))
    go false t = inl (rw t at h)

used-joined : (number : ℕ) (lane : Lane) (k : KeptNumber) → IsUsed number lane → IsUsed number (joined lane k)
used-joined number lane k (inl h) = inl (still number lane.kept k h)
used-joined number lane k (inr h) = inr h

pub used-after : (number : ℕ) (lane : Lane) (k : KeptNumber) → IsUsed number lane → IsUsed number (lane_after lane k)
used-after number lane k u =
    used-joined number (with_space lane) k
    (space_by lane (λ x. IsUsed number x) (λ t. used-dropped number lane lane.kept refl u) (λ t. u))

pub used-new : (lane : Lane) (k : KeptNumber) → IsUsed k.number (lane_after lane k)
used-new lane k = inl (there ((with_space lane).kept) k)

pub used-not-fresh : (number : ℕ) (lane : Lane) → IsUsed number lane → look_lane number lane ≡ Ok Fresh → ⊥
used-not-fresh number lane u h = let f = fresh-is number lane.floor (kept_answer number lane.kept) h in go f u
  where
    go : (kept_answer number lane.kept ≡ None) × (lane.floor < number) → IsUsed number lane → ⊥
    go f (inl k) = let n : is_some (kept_answer number lane.kept) ≡ false = ap is_some f.0 in cc
    go f (inr l) = let g = f.1 in omega arith

-- ---- the lanes of a node

pub lanes_law : OrderLaw lane_cmp
lanes_law = law lane_cmp lanes_total

pub cut_part : (part : ℕ) (lanes : List Lane) → Ascends lane_cmp lanes → IsCut (at_part part) lanes
cut_part part lanes a = let l = lanes_law in l.cut_element (new_lane part) lanes a

nat-is : (m n : ℕ) → is_eq (nat_cmp m n) ≡ true → m ≡ n
nat-is m n h = grind (arith, nat_tests)

nat-tied : (m n : ℕ) → m ≡ n → is_eq (nat_cmp m n) ≡ true
nat-tied m n h = grind (arith, nat_tests)

pub lane-part : (part : ℕ) (lanes : List Lane) → (lane_of part lanes).part ≡ part
lane-part part lanes = go (lane_at part lanes) refl
  where
    go : (o : Option Lane) → lane_at part lanes ≡ o → (lane_or_new part o).part ≡ part
    go None h = refl
    go (Some l) h = nat-is l.part part (maps.found-is (at_part part) l lanes h)

after-part : (part : ℕ) (k : KeptNumber) (lanes : List Lane) → (lane_after (lane_of part lanes) k).part ≡ part
after-part part k lanes = space-part (lane_of part lanes) ∙ lane-part part lanes

-- the lane of the part has changed, and no other one
pub lane_at-after : (q part : ℕ) (k : KeptNumber) (lanes : List Lane) → lane_at q (lanes_after part k lanes) ≡ (if is_eq (nat_cmp part q) then Some (lane_after (lane_of part lanes) k) else lane_at q lanes)
lane_at-after q part k lanes =
    maps.found-put (λ x. x) lane_cmp lanes_total (lane_after (lane_of part lanes) k) (new_lane q) lanes
    ∙ ap (λ p. if is_eq (nat_cmp p q) then Some (lane_after (lane_of part lanes) k) else lane_at q lanes) (after-part part k lanes)

pub lane_of-after : (part : ℕ) (k : KeptNumber) (lanes : List Lane) → lane_of part (lanes_after part k lanes) ≡ lane_after (lane_of part lanes) k
lane_of-after part k lanes =
    let tied : is_eq (nat_cmp part part) ≡ true = nat-tied part part refl in
    let e : lane_at part (lanes_after part k lanes) ≡ Some (lane_after (lane_of part lanes) k) =
    lane_at-after part part k lanes ∙ ap (λ (b : Bool). if b then Some (lane_after (lane_of part lanes) k) else lane_at part lanes) tied
    in
    ap (lane_or_new part) e

pub used-lanes : (number q part : ℕ) (k : KeptNumber) (lanes : List Lane) → IsUsed number (lane_of q lanes) → IsUsed number (lane_of q (lanes_after part k lanes))
used-lanes number q part k lanes u = rw (lane_at-after q part k lanes) (go (is_eq (nat_cmp part q)) refl)
  where
    go : (b : Bool) → is_eq (nat_cmp part q) ≡ b → IsUsed number (lane_or_new q (if b then Some (lane_after (lane_of part lanes) k) else lane_at q lanes))
    go true t =
        let e : part ≡ q = nat-is part q t in
        let v : IsUsed number (lane_of part lanes) = rw e u in
        used-after number (lane_of part lanes) k v
    go false t = u

-- a lane that is found is sound, and so is a new one
pub sound-lane : (part : ℕ) (lanes : List Lane) → Every IsLane lanes → IsLane (lane_of part lanes)
sound-lane part lanes h = go (lane_at part lanes) refl
  where
    go : (o : Option Lane) → lane_at part lanes ≡ o → IsLane (lane_or_new part o)
    go None n = record { fits = omega arith; differ = tt }
    go (Some l) f = each_found IsLane (at_part part) lanes l f h

pub order-lanes : (part : ℕ) (k : KeptNumber) (lanes : List Lane) → Ascends lane_cmp lanes → Ascends lane_cmp (lanes_after part k lanes)
order-lanes part k lanes a = let l = lanes_law in l.put (lane_after (lane_of part lanes) k) lanes a

pub sound-lanes : (part : ℕ) (k : KeptNumber) (lanes : List Lane) → Every IsLane lanes → kept_answer k.number (lane_of part lanes).kept ≡ None → Every IsLane (lanes_after part k lanes)
sound-lanes part k lanes h n =
    each_put IsLane lane_cmp (lane_after (lane_of part lanes) k) lanes
    (is_lane-after (lane_of part lanes) k (sound-lane part lanes h) n) h

-- ---- lanes that are taken out and put back

-- a lane of the part takes the place of the one that was taken out
pub put-lane : (part : ℕ) (l : Lane) (lanes : List Lane) → Ascends lane_cmp lanes → l.part ≡ part → with_put lane_cmp l (without (at_part part) lanes) ≡ with_put lane_cmp l lanes
put-lane part l lanes a e = maps.put-without (λ x. x) lane_cmp lanes_total (new_lane part) l lanes a (nat-tied l.part part e)

-- ---- places in the order of parts

after-place : (p : Option ℕ) → IsPlace lane_cmp (after_part p)
after-place None x y h = inr refl
after-place (Some part) x y h = place_key (λ x. x) lane_cmp lanes_total (new_lane part) x y h

pub cut_after_part : (p : Option ℕ) (lanes : List Lane) → Ascends lane_cmp lanes → IsCut (after_part p) lanes
cut_after_part p lanes a = cut (λ x. x) lane_cmp (after_part p) lanes (after-place p) a

-- ---- a lane that is taken out, keeps a number and is put back

module _ (part : ℕ) (lanes : List Lane) (a : Ascends lane_cmp lanes) where
  pub order-without : Ascends lane_cmp (without (at_part part) lanes)
  order-without = let l = lanes_law in l.without_one (at_part part) lanes a

  pub kept-new : (k : KeptNumber) → lane_at part lanes ≡ None → with_put lane_cmp (lane_after (new_lane part) k) (without (at_part part) lanes) ≡ lanes_after part k lanes
  kept-new k h = put-lane part (lane_after (new_lane part) k) lanes a (space-part (new_lane part)) ∙ rw h refl

  pub kept-there : (k : KeptNumber) (l : Lane) → lane_at part lanes ≡ Some l → with_put lane_cmp (lane_after l k) (without (at_part part) lanes) ≡ lanes_after part k lanes
  kept-there k l h = put-lane part (lane_after l k) lanes a (space-part l ∙ nat-is l.part part (maps.found-is (at_part part) l lanes h)) ∙ rw h refl

pub cut_lane : (l : Lane) (lanes : List Lane) → Ascends lane_cmp lanes → IsCut (λ x. lane_cmp x l) lanes
cut_lane l lanes a = let o = lanes_law in o.cut_element l lanes a
