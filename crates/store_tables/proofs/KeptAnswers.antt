-- A stamp that was accepted last is looked up with its answer.
use Rattle.std.proofs.Common.{◌≡◌, ℕ, nat_le, ◌==◌, Bool, true, false, if◌then◌else◌, List, [], ◌∷◌, ◌++◌, length, Option, Some, None, Ok, refl, ap, arith}
use Rattle.std.specs.Ordering.{is_eq, nat_cmp}
use Rattle.std.proofs.lemmas.Bool.Decides.{nat_tests}
use Rattle.actor_names.specs.declared.member.Member.{Member}
use Rattle.lists_and_limits.specs.Lists.{with_put}
use Rattle.lists_and_limits.proofs.Maps.{found-is, put-tied}
use Rattle.stamp_lanes.specs.declared.answer.LaneAnswer.{LaneAnswer}
use Rattle.stamp_lanes.specs.declared.answer.KeptNumber.{KeptNumber}
use Rattle.stamp_lanes.specs.declared.answer.StampLook.TheVariants.{Fresh, Kept}
use Rattle.stamp_lanes.specs.declared.lane.Lane.{Lane}
use Rattle.stamp_lanes.specs.declared.node.NodeLanes.{NodeLanes}
use Rattle.stamp_lanes.specs.Kept.{kept_answer}
use Rattle.stamp_lanes.specs.Lanes.{new_lane, answered, look_lane, dropped, with_space, lane_after, at_part, lane_cmp, lane_at, lane_or_new, lane_of, lanes_after}
use Rattle.stamp_lanes.specs.Stamps.{at_node, node_cmp, node_at, bare_node, look_node, look, node_after, nodes_after, after_accept}
use Rattle.stamp_lanes.specs.Orders.{lanes_total, nodes_total}

-- ---- one lane

kept-joined : (ks : List KeptNumber) (k : KeptNumber) → kept_answer k.number ks ≡ None → kept_answer k.number (ks ++ k ∷ []) ≡ Some k.answer
kept-joined [] k h = let s : (k.number == k.number) ≡ true = grind (arith, nat_tests) in rw s refl
kept-joined (x ∷ xs) k h = go (x.number == k.number) refl (λ n. kept-joined xs k n)
  where
    go : (b : Bool) → (x.number == k.number) ≡ b → (kept_answer k.number xs ≡ None → kept_answer k.number (xs ++ k ∷ []) ≡ Some k.answer) → kept_answer k.number (x ∷ xs ++ k ∷ []) ≡ Some k.answer
    go true t ih = absurd (let n : Some x.answer ≡ None = rw t at h in cc)
    go false t ih = rw t (ih (rw t at h))

not_behind : (n : ℕ) (x : KeptNumber) (xs : List KeptNumber) → kept_answer n (x ∷ xs) ≡ None → kept_answer n xs ≡ None
not_behind n x xs h = go (x.number == n) refl
  where
    go : (b : Bool) → (x.number == n) ≡ b → kept_answer n xs ≡ None
    go true t = absurd (let k : Some x.answer ≡ None = rw t at h in cc)
    go false t = rw t at h

dropped-none : (n : ℕ) (lane : Lane) (ks : List KeptNumber) → kept_answer n lane.kept ≡ None → lane.kept ≡ ks → kept_answer n (dropped lane ks).kept ≡ None
dropped-none n lane [] h is = h
dropped-none n lane (k ∷ ks) h is = not_behind n k ks (rw is at h)

dropped-part : (lane : Lane) (ks : List KeptNumber) → (dropped lane ks).part ≡ lane.part
dropped-part lane [] = refl
dropped-part lane (k ∷ ks) = refl

space-none : (n : ℕ) (lane : Lane) → kept_answer n lane.kept ≡ None → kept_answer n (with_space lane).kept ≡ None
space-none n lane h = go (nat_le 256 (length lane.kept))
  where
    go : (b : Bool) → kept_answer n (if b then dropped lane lane.kept else lane).kept ≡ None
    go true = dropped-none n lane lane.kept h refl
    go false = h

space-part : (lane : Lane) → (with_space lane).part ≡ lane.part
space-part lane = go (nat_le 256 (length lane.kept))
  where
    go : (b : Bool) → (if b then dropped lane lane.kept else lane).part ≡ lane.part
    go true = dropped-part lane lane.kept
    go false = refl

fresh-none : (number floor : ℕ) (o : Option LaneAnswer) → answered number floor o ≡ Ok Fresh → o ≡ None
fresh-none number floor None h = refl
fresh-none number floor (Some a) h = absurd (cc)

look-after : (lane : Lane) (k : KeptNumber) → look_lane k.number lane ≡ Ok Fresh → look_lane k.number (lane_after lane k) ≡ Ok (Kept k.answer)
look-after lane k f =
    let none = space-none k.number lane (fresh-none k.number lane.floor (kept_answer k.number lane.kept) f) in
    rw (kept-joined ((with_space lane).kept) k none) refl

-- ---- the lanes of a node

lane-tied : (part : ℕ) (lanes : List Lane) → is_eq (nat_cmp (lane_of part lanes).part part) ≡ true
lane-tied part lanes = go (lane_at part lanes) refl
  where
    go : (o : Option Lane) → lane_at part lanes ≡ o → is_eq (nat_cmp (lane_or_new part o).part part) ≡ true
    go None h = grind (arith, nat_tests)
    go (Some l) h = found-is (at_part part) l lanes h

lane_of-after : (part : ℕ) (k : KeptNumber) (lanes : List Lane) → lane_of part (lanes_after part k lanes) ≡ lane_after (lane_of part lanes) k
lane_of-after part k lanes =
    let lane = lane_of part lanes in
    let tied : is_eq (nat_cmp (lane_after lane k).part part) ≡ true = rw (space-part lane) (lane-tied part lanes) in
    ap (λ (o : Option Lane). lane_or_new part o) (put-tied (λ x. x) lane_cmp lanes_total (lane_after lane k) (new_lane part) lanes tied)

-- ---- nodes

look-node : (boot part : ℕ) (k : KeptNumber) (e : NodeLanes) → look_node boot part k.number (Some e) ≡ Ok Fresh → look_node boot part k.number (Some (node_after part k e)) ≡ Ok (Kept k.answer)
look-node boot part k e f = go (e.boot == boot) refl
  where
    go : (b : Bool) → (e.boot == boot) ≡ b → look_node boot part k.number (Some (node_after part k e)) ≡ Ok (Kept k.answer)
    go true t =
        let g : look_lane k.number (lane_of part e.lanes) ≡ Ok Fresh = rw t at f in
        rw (t, lane_of-after part k e.lanes) (look-after (lane_of part e.lanes) k g)
    go false t = absurd (let g = rw t at f in cc)

-- a stamp that is accepted is kept with its answer
pub look-accepted : (member : Member) (part : ℕ) (k : KeptNumber) (nodes : List NodeLanes) → look member part k.number nodes ≡ Ok Fresh → look member part k.number (after_accept member part k nodes) ≡ Ok (Kept k.answer)
look-accepted member part k nodes f = go (node_at member.space member.node nodes) refl
  where
    go : (o : Option NodeLanes) → node_at member.space member.node nodes ≡ o → look member part k.number (nodes_after part k o nodes) ≡ Ok (Kept k.answer)
    go None h = absurd (let g : look_node member.boot part k.number None ≡ Ok Fresh = rw h at f in cc)
    go (Some e) h =
        let g : look_node member.boot part k.number (Some e) ≡ Ok Fresh = rw h at f in
        let tied : is_eq (at_node member.space member.node e) ≡ true = found-is (at_node member.space member.node) e nodes h in
        let there : node_at member.space member.node (with_put node_cmp (node_after part k e) nodes) ≡ Some (node_after part k e) = put-tied (λ x. x) node_cmp nodes_total (node_after part k e) (bare_node member.space member.node 0) nodes tied in
        rw there (look-node member.boot part k e g)
