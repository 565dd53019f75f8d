-- Nodes in order: what stays sound when a boot is drawn, a stamp is accepted, or a row is read back.
use Rattle.std.proofs.Common.{◌≡◌, inr, ℕ, suc, ◌+◌, ◌<◌, ◌≤◌, ◌^◌, min, max, nat_le, nat_lt, ◌==◌, ◌&&◌, Bool, true, false, if◌then◌else◌, List, [], ◌∷◌, ◌++◌, length, Option, Some, None, Ok, is_some, refl, sym, ap, ◌∙◌, arith, length-append}
use Rattle.std.specs.Option.{is_none}
use Rattle.std.specs.Ordering.{is_eq}
use Rattle.std.proofs.lemmas.Bool.Decides.{nat_tests}
use Rattle.actor_names.specs.declared.member.Member.{Member}
use Rattle.lists_and_limits.specs.Lists.{found, without, with_put}
use Rattle.lists_and_limits.specs.Cuts.{IsCut}
use Rattle.lists_and_limits.specs.Orders.{Ascends, IsPlace, OrderLaw}
use Rattle.lists_and_limits.proofs.Orders.{law, cut, place_key}
use Rattle.stamp_lanes.specs.declared.answer.KeptNumber.{KeptNumber}
use Rattle.stamp_lanes.specs.declared.answer.LaneAnswer.{LaneAnswer}
use Rattle.stamp_lanes.specs.declared.answer.StampLook.TheVariants.{Fresh}
use Rattle.stamp_lanes.specs.declared.error.BootError.{BootError}
use Rattle.stamp_lanes.specs.declared.error.RestoreError.{RestoreError}
use Rattle.stamp_lanes.specs.declared.error.RestoreError.TheVariants.{SameLane, OtherBoot, TooManyNumbers, SameNumber}
use Rattle.stamp_lanes.specs.declared.lane.Lane.{Lane}
use Rattle.stamp_lanes.specs.declared.node.NodeLanes.{NodeLanes}
use Rattle.stamp_lanes.specs.Kept.{kept_answer, Differ}
use Rattle.stamp_lanes.specs.Lanes.{lane_cmp, lane_at, lane_of, look_lane, lanes_after, IsLane}
use Rattle.stamp_lanes.specs.Stamps.{at_node, node_cmp, node_at, greatest_boot, bare_node, draw_fault, look_node, look, node_after, nodes_after, after_accept, after_node, after_part, IsNode, IsSound}
use Rattle.stamp_lanes.specs.Restores.{number_fault, numbers_fault, lane_fault, node_fault, lane_row_fault, with_lane, put_lane, after_lane_row}
use Rattle.stamp_lanes.specs.Orders.{nodes_total}
use Rattle.lists_and_limits.proofs.Maps as maps
use Rattle.lists_and_limits.proofs.Each.{each_put, each_found}
use Rattle.stamp_lanes.proofs.LaneFacts.{fresh-is, order-lanes, sound-lanes, lanes_law}

pub nodes_law : OrderLaw node_cmp
nodes_law = law node_cmp nodes_total

-- some node of this name
abbrev pub named : List ℕ → List ℕ → NodeLanes
named space node = bare_node space node 0

pub cut_node : (space node : List ℕ) (nodes : List NodeLanes) → Ascends node_cmp nodes → IsCut (at_node space node) nodes
cut_node space node nodes a = let l = nodes_law in l.cut_element (named space node) nodes a

pub node-tied : (space node : List ℕ) (e : NodeLanes) (nodes : List NodeLanes) → node_at space node nodes ≡ Some e → is_eq (at_node space node e) ≡ true
node-tied space node e nodes h = maps.found-is (at_node space node) e nodes h

-- the same node is found under the name of the one that was found
pub node-again : (space node : List ℕ) (e : NodeLanes) (nodes : List NodeLanes) → node_at space node nodes ≡ Some e → node_at e.space e.node nodes ≡ Some e
node-again space node e nodes h = maps.found-tied (λ x. x) node_cmp nodes_total e (named space node) (node-tied space node e nodes h) nodes ∙ h

-- ---- places in the orders

-- the place behind a node is one that a search tree can use
after-place : (p : Option NodeLanes) → IsPlace node_cmp (after_node p)
after-place None x y h = inr refl
after-place (Some e) x y h = place_key (λ x. x) node_cmp nodes_total e x y h

pub cut_after_node : (p : Option NodeLanes) (nodes : List NodeLanes) → Ascends node_cmp nodes → IsCut (after_node p) nodes
cut_after_node p nodes a = cut (λ x. x) node_cmp (after_node p) nodes (after-place p) a

-- ---- a node that takes the place of itself

pub cut_at : (d : NodeLanes) (nodes : List NodeLanes) → Ascends node_cmp nodes → IsCut (λ x. node_cmp x d) nodes
cut_at d nodes a = let l = nodes_law in l.cut_element d nodes a

module _ (space node : List ℕ) (nodes : List NodeLanes) (a : Ascends node_cmp nodes) where
  pub order-without : Ascends node_cmp (without (at_node space node) nodes)
  order-without = let l = nodes_law in l.without_one (at_node space node) nodes a

  -- a node of the name takes the place of the one that was taken out
  put-node : (d : NodeLanes) → is_eq (at_node space node d) ≡ true → with_put node_cmp d (without (at_node space node) nodes) ≡ with_put node_cmp d nodes
  put-node d t = maps.put-without (λ x. x) node_cmp nodes_total (named space node) d nodes a t

without-none : (space node : List ℕ) (nodes : List NodeLanes) → node_at space node nodes ≡ None → without (at_node space node) nodes ≡ nodes
without-none space node nodes h = maps.without-none (at_node space node) nodes h

module _ (member : Member) (part : ℕ) (k : KeptNumber) (nodes : List NodeLanes) where
  pub accept-none : node_at member.space member.node nodes ≡ None → without (at_node member.space member.node) nodes ≡ after_accept member part k nodes
  accept-none h = without-none member.space member.node nodes h ∙ rw h refl

  pub accept-there : (e : NodeLanes) → Ascends node_cmp nodes → node_at member.space member.node nodes ≡ Some e → with_put node_cmp (node_after part k e) (without (at_node member.space member.node) nodes) ≡ after_accept member part k nodes
  accept-there e a h = put-node member.space member.node nodes a (node_after part k e) (node-tied member.space member.node e nodes h) ∙ rw h refl

module _ (member : Member) (l : Lane) (nodes : List NodeLanes) where
  pub lane-none : node_at member.space member.node nodes ≡ None → without (at_node member.space member.node) nodes ≡ after_lane_row member l nodes
  lane-none h = without-none member.space member.node nodes h ∙ rw h refl

  pub lane-there : (e : NodeLanes) → Ascends node_cmp nodes → node_at member.space member.node nodes ≡ Some e → with_put node_cmp (with_lane l e) (without (at_node member.space member.node) nodes) ≡ after_lane_row member l nodes
  lane-there e a h = put-node member.space member.node nodes a (with_lane l e) (node-tied member.space member.node e nodes h) ∙ rw h refl

-- ---- counts

abbrev Boots : List NodeLanes → ℕ
Boots es = greatest_boot es

boots-append : (a b : List NodeLanes) → greatest_boot (a ++ b) ≡ max (greatest_boot a) (greatest_boot b)
boots-append [] b = omega arith
boots-append (x ∷ xs) b = omega (arith, boots-append xs b)

-- the boot of a node that is found isn't above the greatest
pub boot_le : (space node : List ℕ) (e : NodeLanes) (nodes : List NodeLanes) → node_at space node nodes ≡ Some e → e.boot ≤ greatest_boot nodes
boot_le space node e [] h = absurd (cc)
boot_le space node e (x ∷ xs) h = go (is_eq (at_node space node x)) refl (λ k. boot_le space node e xs k)
  where
    go : (b : Bool) → is_eq (at_node space node x) ≡ b → (node_at space node xs ≡ Some e → e.boot ≤ greatest_boot xs) → e.boot ≤ max x.boot (greatest_boot xs)
    go true t ih =
        let k : Some x ≡ Some e = rw t at h in
        let same : x.boot ≡ e.boot = cc in
        omega arith
    go false t ih = let l = ih (rw t at h) in omega arith

-- where a node was, another one of its name changes no number of nodes
pub length-found : (e d : NodeLanes) (nodes : List NodeLanes) → Ascends node_cmp nodes → node_at e.space e.node nodes ≡ Some d → length (with_put node_cmp e nodes) ≡ length nodes
length-found e d nodes a h =
    let s = maps.put-found (λ x. x) node_cmp nodes_total e d nodes a h in
    ap length s.3 ∙ (length-append s.0 (e ∷ s.1) ∙ (sym (length-append s.0 (d ∷ s.1)) ∙ sym (ap length s.2)))

pub length-new : (e : NodeLanes) (nodes : List NodeLanes) → node_at e.space e.node nodes ≡ None → length (with_put node_cmp e nodes) ≡ length nodes + 1
length-new e nodes h =
    let s = maps.put-new (λ x. x) node_cmp nodes_total e nodes h in
    let l : length (with_put node_cmp e nodes) ≡ length (s.0 ++ e ∷ s.1) = ap length s.3 in
    let m : length nodes ≡ length (s.0 ++ s.1) = ap length s.2 in
    omega (arith, length-append s.0 (e ∷ s.1), length-append s.0 s.1)

-- the greatest boot after a node with the same boot, or with one that isn't below the greatest, is put
pub boots-found : (e d : NodeLanes) (nodes : List NodeLanes) → Ascends node_cmp nodes → node_at e.space e.node nodes ≡ Some d → e.boot ≡ d.boot → greatest_boot (with_put node_cmp e nodes) ≡ greatest_boot nodes
boots-found e d nodes a h same =
    let s = maps.put-found (λ x. x) node_cmp nodes_total e d nodes a h in
    let l : greatest_boot (with_put node_cmp e nodes) ≡ greatest_boot (s.0 ++ e ∷ s.1) = ap Boots s.3 in
    let m : greatest_boot nodes ≡ greatest_boot (s.0 ++ d ∷ s.1) = ap Boots s.2 in
    omega (arith, boots-append s.0 (e ∷ s.1), boots-append s.0 (d ∷ s.1))

pub boots-new : (e : NodeLanes) (nodes : List NodeLanes) → node_at e.space e.node nodes ≡ None → greatest_boot (with_put node_cmp e nodes) ≡ max (greatest_boot nodes) e.boot
boots-new e nodes h =
    let s = maps.put-new (λ x. x) node_cmp nodes_total e nodes h in
    let l : greatest_boot (with_put node_cmp e nodes) ≡ greatest_boot (s.0 ++ e ∷ s.1) = ap Boots s.3 in
    let m : greatest_boot nodes ≡ greatest_boot (s.0 ++ s.1) = ap Boots s.2 in
    omega (arith, boots-append s.0 (e ∷ s.1), boots-append s.0 s.1)

pub boots-greater : (e : NodeLanes) (nodes : List NodeLanes) → Ascends node_cmp nodes → greatest_boot nodes ≤ e.boot → greatest_boot (with_put node_cmp e nodes) ≡ e.boot
boots-greater e nodes a g = go (node_at e.space e.node nodes) refl
  where
    go : (o : Option NodeLanes) → node_at e.space e.node nodes ≡ o → greatest_boot (with_put node_cmp e nodes) ≡ e.boot
    go None h = omega (arith, boots-new e nodes h)
    go (Some d) h =
        let s = maps.put-found (λ x. x) node_cmp nodes_total e d nodes a h in
        let l : greatest_boot (with_put node_cmp e nodes) ≡ greatest_boot (s.0 ++ e ∷ s.1) = ap Boots s.3 in
        let m : greatest_boot nodes ≡ greatest_boot (s.0 ++ d ∷ s.1) = ap Boots s.2 in
        omega (arith, boots-append s.0 (e ∷ s.1), boots-append s.0 (d ∷ s.1))

-- ---- what stays sound

pub bare-sound : (space node : List ℕ) (boot : ℕ) → IsNode (bare_node space node boot)
bare-sound space node boot = record { order = tt; lanes = tt }

-- a node with another list of lanes
abbrev pub with_lanes : List Lane → NodeLanes → NodeLanes
with_lanes lanes e = record e { lanes = lanes }

module _ (nodes : List NodeLanes) (greatest count : ℕ) (s : IsSound nodes greatest count) where
  -- other lanes of a node
  pub sound-lanes_of : (space node : List ℕ) (e : NodeLanes) (lanes : List Lane) → node_at space node nodes ≡ Some e → IsNode (with_lanes lanes e) → IsSound (with_put node_cmp (with_lanes lanes e) nodes) greatest count
  sound-lanes_of space node e lanes h i =
      let there : node_at e.space e.node nodes ≡ Some e = node-again space node e nodes h in
      let l = nodes_law in
      record {
        order = l.put (with_lanes lanes e) nodes s.order;
        each = each_put IsNode node_cmp (with_lanes lanes e) nodes i s.each;
        boots = s.boots ∙ sym (boots-found (with_lanes lanes e) e nodes s.order there refl);
        limit = s.limit;
        counted = (let n = length-found (with_lanes lanes e) e nodes s.order there in s.counted ∙ ap (λ m. min 65536 m) (sym n));
      }

  -- how many nodes there are after one is put
  pub count-put : (e : NodeLanes) → (if is_some (node_at e.space e.node nodes) then count else min 65536 (count + 1)) ≡ min 65536 (length (with_put node_cmp e nodes))
  count-put e = go (node_at e.space e.node nodes) refl
    where
      go : (o : Option NodeLanes) → node_at e.space e.node nodes ≡ o → (if is_some o then count else min 65536 (count + 1)) ≡ min 65536 (length (with_put node_cmp e nodes))
      go None h = let n = length-new e nodes h in let c = s.counted in omega arith
      go (Some d) h = let n = length-found e d nodes s.order h in s.counted ∙ ap (λ m. min 65536 m) (sym n)

  -- a boot is put that isn't below the others
  pub sound-boot : (space node : List ℕ) (boot : ℕ) → greatest ≤ boot → boot ≤ 2 ^ 62 → IsSound (with_put node_cmp (bare_node space node boot) nodes) boot (if is_some (node_at space node nodes) then count else min 65536 (count + 1))
  sound-boot space node boot g b =
      let l = nodes_law in
      record {
        order = l.put (bare_node space node boot) nodes s.order;
        each = each_put IsNode node_cmp (bare_node space node boot) nodes (bare-sound space node boot) s.each;
        boots = (let m = s.boots in let n : greatest_boot nodes ≤ boot = omega arith in sym (boots-greater (bare_node space node boot) nodes s.order n));
        limit = b;
        counted = count-put (bare_node space node boot);
      }

  -- a boot of a new node is put
  pub sound-row : (space node : List ℕ) (boot : ℕ) → node_at space node nodes ≡ None → boot ≤ 2 ^ 62 → IsSound (with_put node_cmp (bare_node space node boot) nodes) (max greatest boot) (min 65536 (count + 1))
  sound-row space node boot h b =
      let l = nodes_law in
      record {
        order = l.put (bare_node space node boot) nodes s.order;
        each = each_put IsNode node_cmp (bare_node space node boot) nodes (bare-sound space node boot) s.each;
        boots = (let m = s.boots in let n = boots-new (bare_node space node boot) nodes h in omega arith);
        limit = (let m = s.limit in omega arith);
        counted = (let n = length-new (bare_node space node boot) nodes h in let c = s.counted in omega arith);
      }

-- ---- a fresh stamp

-- the node of a fresh stamp is there, and its lane doesn't keep the number
pub record IsFresh (member : Member) (part number : ℕ) (e : NodeLanes) : Type 0 where
  pub boot : e.boot ≡ member.boot
  pub none : kept_answer number (lane_of part e.lanes).kept ≡ None
  pub above : (lane_of part e.lanes).floor < number

pub fresh-node : (member : Member) (part number : ℕ) (e : NodeLanes) → look_node member.boot part number (Some e) ≡ Ok Fresh → IsFresh member part number e
fresh-node member part number e h = go (e.boot == member.boot) refl
  where
    go : (b : Bool) → (e.boot == member.boot) ≡ b → IsFresh member part number e
    go true t =
        let k : look_lane number (lane_of part e.lanes) ≡ Ok Fresh = rw t at h in
        let f = fresh-is number (lane_of part e.lanes).floor (kept_answer number (lane_of part e.lanes).kept) k in
        record { boot = grind (arith, nat_tests); none = f.0; above = f.1 }
    go false t = absurd (let k = rw t at h in cc)

pub sound-accept : (member : Member) (part : ℕ) (k : KeptNumber) (nodes : List NodeLanes) (greatest count : ℕ) → IsSound nodes greatest count → look member part k.number nodes ≡ Ok Fresh → IsSound (after_accept member part k nodes) greatest count
sound-accept member part k nodes greatest count s f = go (node_at member.space member.node nodes) refl
  where
    go : (o : Option NodeLanes) → node_at member.space member.node nodes ≡ o → IsSound (nodes_after part k o nodes) greatest count
    go None h = s
    go (Some e) h =
        let g : look_node member.boot part k.number (Some e) ≡ Ok Fresh = rw h at f in
        let i = fresh-node member part k.number e g in
        let n = each_found IsNode (at_node member.space member.node) nodes e h s.each in
        sound-lanes_of nodes greatest count s member.space member.node e (lanes_after part k e.lanes) h
        (record { order = order-lanes part k e.lanes n.order; lanes = sound-lanes part k e.lanes n.lanes i.none })

-- ---- a lane that is read back

-- the row's node is there, and has no lane of the part; the numbers are few enough, and differ
pub record IsNewLane (member : Member) (part : ℕ) (kept : List KeptNumber) (e : NodeLanes) : Type 0 where
  pub none : lane_at part e.lanes ≡ None
  pub fits : length kept ≤ 256
  pub differ : Differ kept

numbers-differ : (ks : List KeptNumber) → number_fault ks ≡ None → Differ ks
numbers-differ [] h = tt
numbers-differ (k ∷ ks) h = go (kept_answer k.number ks) refl (λ n. numbers-differ ks n)
  where
    go : (o : Option LaneAnswer) → kept_answer k.number ks ≡ o → (number_fault ks ≡ None → Differ ks) → (kept_answer k.number ks ≡ None) × Differ ks
    go None is ih = (is, ih (rw is at h))
    go (Some a) is ih = absurd (let n : Some (SameNumber k.number) ≡ None = rw is at h in cc)

numbers-fine : (ks : List KeptNumber) → numbers_fault ks ≡ None → (length ks ≤ 256) × Differ ks
numbers-fine ks h = go (nat_lt 256 (length ks)) refl
  where
    go : (b : Bool) → nat_lt 256 (length ks) ≡ b → (length ks ≤ 256) × Differ ks
    go true t = absurd (let n : Some (TooManyNumbers (length ks)) ≡ None = rw t at h in cc)
    go false t = (grind (arith, nat_tests), numbers-differ ks (rw t at h))

pub lane-new : (member : Member) (part : ℕ) (kept : List KeptNumber) (e : NodeLanes) → node_fault member.boot part kept (Some e) ≡ None → IsNewLane member part kept e
lane-new member part kept e h = go (e.boot == member.boot) refl
  where
    in_part : (o : Option Lane) → lane_at part e.lanes ≡ o → lane_fault part kept e.lanes ≡ None → IsNewLane member part kept e
    in_part None is k = let f = numbers-fine kept (rw is at k) in record { none = is; fits = f.0; differ = f.1 }
    in_part (Some l) is k = absurd (let n : Some SameLane ≡ None = rw is at k in cc)

    go : (b : Bool) → (e.boot == member.boot) ≡ b → IsNewLane member part kept e
    go true t = in_part (lane_at part e.lanes) refl (rw t at h)
    go false t = absurd (let n : Some (OtherBoot e.boot) ≡ None = rw t at h in cc)

pub row-fits : (member : Member) (part : ℕ) (kept : List KeptNumber) (nodes : List NodeLanes) → lane_row_fault member part kept nodes ≡ None → length kept ≤ 256
row-fits member part kept nodes h = go (node_at member.space member.node nodes) refl
  where
    go : (o : Option NodeLanes) → node_at member.space member.node nodes ≡ o → length kept ≤ 256
    go None is = absurd (let n : Some (OtherBoot 0) ≡ None = rw is at h in cc)
    go (Some e) is = let f = lane-new member part kept e (rw is at h) in f.fits

pub sound-lane_row : (member : Member) (l : Lane) (nodes : List NodeLanes) (greatest count : ℕ) → IsSound nodes greatest count → lane_row_fault member l.part l.kept nodes ≡ None → IsSound (after_lane_row member l nodes) greatest count
sound-lane_row member l nodes greatest count s f = go (node_at member.space member.node nodes) refl
  where
    go : (o : Option NodeLanes) → node_at member.space member.node nodes ≡ o → IsSound (put_lane l o nodes) greatest count
    go None h = s
    go (Some e) h =
        let g : node_fault member.boot l.part l.kept (Some e) ≡ None = rw h at f in
        let i = lane-new member l.part l.kept e g in
        let n = each_found IsNode (at_node member.space member.node) nodes e h s.each in
        let o = lanes_law in
        sound-lanes_of nodes greatest count s member.space member.node e (with_put lane_cmp l e.lanes) h
        (record { order = o.put l e.lanes n.order; lanes = each_put IsLane lane_cmp l e.lanes (record { fits = i.fits; differ = i.differ }) n.lanes })
