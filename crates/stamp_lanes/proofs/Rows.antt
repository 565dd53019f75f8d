-- The rows of nodes are read back to the same nodes.
use Rattle.std.proofs.Common.{◌≡◌, ℕ, ◌<◌, ◌≤◌, nat_lt, ◌==◌, Bool, true, false, if◌then◌else◌, List, [], ◌∷◌, ◌++◌, length, Option, Some, None, is_some, refl, sym, ap, ◌∙◌, subst, arith, append_assoc}
use Rattle.std.specs.declared.cmp.Ordering.TheVariants.{Equal, Greater}
use Rattle.std.specs.Ordering.{nat_cmp}
use Rattle.std.proofs.lemmas.Bool.Decides.{nat_tests}
use Rattle.std.proofs.lemmas.Cmp.{tied_itself}
use Rattle.std.proofs.lemmas.List.{append-nil}
use Rattle.actor_names.specs.declared.member.Member.{Member}
use Rattle.lists_and_limits.specs.Lists.{with_put}
use Rattle.lists_and_limits.specs.Orders.{Ascends}
use Rattle.lists_and_limits.proofs.Fronts.{AreBefore, before_of, found-before, found-at, put-before, put-at}
use Rattle.stamp_lanes.specs.declared.answer.KeptNumber.{KeptNumber}
use Rattle.stamp_lanes.specs.declared.error.RestoreError.{RestoreError}
use Rattle.stamp_lanes.specs.declared.lane.Lane.{Lane}
use Rattle.stamp_lanes.specs.declared.node.NodeLanes.{NodeLanes}
use Rattle.stamp_lanes.specs.Kept.{kept_answer, Differ}
use Rattle.stamp_lanes.specs.Lanes.{IsLane, at_part, lane_at, lane_cmp}
use Rattle.std.specs.List.{AllByRecursion as Every}
use Rattle.stamp_lanes.specs.Stamps.{at_node, node_cmp, node_at, bare_node, IsNode}
use Rattle.stamp_lanes.specs.Orders.{lanes_total, nodes_total}
use Rattle.stamp_lanes.specs.Restores.{number_fault, numbers_fault, lane_fault, node_fault, lane_row_fault, with_lane, put_lane, after_lane_row, Row, BootRow, LaneRow, boot_rows, rows_of_member, member_of, lane_rows, rows_of, row_fault, after_row, Restores}

-- ---- rows one after another

restores-append : (rs ss : List Row) (a b c : List NodeLanes) → Restores rs a b → Restores ss b c → Restores (rs ++ ss) a c
restores-append [] ss a b c h k = rw h k
restores-append (r ∷ rs) ss a b c h k = (h.0, restores-append rs ss (after_row r a) b c h.1 k)

-- ---- boots

abbrev bare : NodeLanes → NodeLanes
bare e = bare_node e.space e.node e.boot

abbrev bares : List NodeLanes → List NodeLanes
bares [] = []
bares (e ∷ es) = bare e ∷ bares es

bares-append : (xs ys : List NodeLanes) → bares (xs ++ ys) ≡ bares xs ++ bares ys
bares-append [] ys = refl
bares-append (x ∷ xs) ys = ap (λ zs. bare x ∷ zs) (bares-append xs ys)

before-bare : (e : NodeLanes) (xs : List NodeLanes) → AreBefore (λ x. x) node_cmp e xs → AreBefore (λ x. x) node_cmp (bare e) (bares xs)
before-bare e [] b = tt
before-bare e (x ∷ xs) b = (b.0, before-bare e xs b.1)

boots-back : (done todo : List NodeLanes) → Ascends node_cmp (done ++ todo) → Restores (boot_rows todo) (bares done) (bares (done ++ todo))
boots-back done [] a = sym (ap bares (append-nil done))
boots-back done (e ∷ es) a =
    let b = before-bare e done (before_of (λ x. x) node_cmp done e es a) in
    let none : node_at e.space e.node (bares done) ≡ None =
    ap (node_at e.space e.node) (sym (append-nil (bares done))) ∙ found-before (λ x. x) node_cmp (bare e) (bares done) [] b
    in
    let put : with_put node_cmp (bare e) (bares done) ≡ bares (done ++ e ∷ []) =
    ap (with_put node_cmp (bare e)) (sym (append-nil (bares done))) ∙ (put-before (λ x. x) node_cmp (bare e) (bares done) [] b ∙ sym (bares-append done (e ∷ [])))
    in
    let same : (done ++ e ∷ []) ++ es ≡ done ++ e ∷ es = append_assoc done (e ∷ []) es in
    let rest : Restores (boot_rows es) (bares (done ++ e ∷ [])) (bares ((done ++ e ∷ []) ++ es)) = boots-back (done ++ e ∷ []) es (rw same a) in
    (rw none refl, rw put (rw (← same) rest))

-- ---- numbers

no_number_fault : (ks : List KeptNumber) → Differ ks → number_fault ks ≡ None
no_number_fault [] d = refl
no_number_fault (k ∷ ks) d = rw d.0 (no_number_fault ks d.1)

no_numbers_fault : (l : Lane) → IsLane l → numbers_fault l.kept ≡ None
no_numbers_fault l i =
    let f : nat_lt 256 (length l.kept) ≡ false = (let m = i.fits in grind (arith, nat_tests)) in
    rw f (no_number_fault l.kept i.differ)

same : (a : ℕ) → (a == a) ≡ true
same a = grind (arith, nat_tests)

-- ---- the lanes of one node

abbrev with_lanes : List Lane → NodeLanes → NodeLanes
with_lanes lanes e = record e { lanes = lanes }

module _ (e : NodeLanes) (front back : List NodeLanes) (b : AreBefore (λ x. x) node_cmp e front) where
  -- the nodes, if that one has these lanes
  abbrev Among : List Lane → List NodeLanes
  Among lanes = front ++ with_lanes lanes e ∷ back

  tied : node_cmp e e ≡ Equal
  tied = tied_itself nodes_total e

  here : (lanes : List Lane) → node_at e.space e.node (Among lanes) ≡ Some (with_lanes lanes e)
  here lanes = found-at (λ x. x) node_cmp e (with_lanes lanes e) front back b tied

  placed : (lanes other : List Lane) → with_put node_cmp (with_lanes other e) (Among lanes) ≡ Among other
  placed lanes other = put-at (λ x. x) node_cmp (with_lanes other e) (with_lanes lanes e) front back b tied

  lanes-back : (done todo : List Lane) → Ascends lane_cmp (done ++ todo) → Every IsLane todo → Restores (rows_of_member (member_of e) todo) (Among done) (Among (done ++ todo))
  lanes-back done [] a i = sym (ap Among (append-nil done))
  lanes-back done (l ∷ ls) a i =
      let before = before_of (λ x. x) lane_cmp done l ls a in
      let new : lane_at l.part done ≡ None = ap (lane_at l.part) (sym (append-nil done)) ∙ found-before (λ x. x) lane_cmp l done [] before in
      let put : with_put lane_cmp l done ≡ done ++ l ∷ [] = ap (with_put lane_cmp l) (sym (append-nil done)) ∙ put-before (λ x. x) lane_cmp l done [] before in
      let assoc : (done ++ l ∷ []) ++ ls ≡ done ++ l ∷ ls = append_assoc done (l ∷ []) ls in
      let rest : Restores (rows_of_member (member_of e) ls) (Among (done ++ l ∷ [])) (Among ((done ++ l ∷ []) ++ ls)) = lanes-back (done ++ l ∷ []) ls (rw assoc a) i.1 in
      let fine : lane_row_fault (member_of e) l.part l.kept (Among done) ≡ None = rw (here done, same e.boot, new) (no_numbers_fault l i.0) in
      let after : after_lane_row (member_of e) l (Among done) ≡ Among (done ++ l ∷ []) = rw (here done, put) (placed done (done ++ l ∷ [])) in
      (fine, rw after (rw (← assoc) rest))

-- ---- the lanes of all nodes

lane_rows-back : (done todo : List NodeLanes) → Ascends node_cmp (done ++ todo) → Every IsNode todo → Restores (lane_rows todo) (done ++ bares todo) (done ++ todo)
lane_rows-back done [] a i = refl
lane_rows-back done (e ∷ es) a i =
    let before = before_of (λ x. x) node_cmp done e es a in
    let n = i.0 in
    let assoc : (done ++ e ∷ []) ++ es ≡ done ++ e ∷ es = append_assoc done (e ∷ []) es in
    let open_ : (done ++ e ∷ []) ++ bares es ≡ done ++ e ∷ bares es = append_assoc done (e ∷ []) (bares es) in
    let mine : Restores (rows_of_member (member_of e) e.lanes) (done ++ bare e ∷ bares es) (done ++ e ∷ bares es) = lanes-back e done (bares es) before [] e.lanes n.order n.lanes in
    let rest : Restores (lane_rows es) ((done ++ e ∷ []) ++ bares es) ((done ++ e ∷ []) ++ es) = lane_rows-back (done ++ e ∷ []) es (rw assoc a) i.1 in
    restores-append (rows_of_member (member_of e) e.lanes) (lane_rows es) (done ++ bare e ∷ bares es) (done ++ e ∷ bares es) (done ++ e ∷ es) mine (rw (← open_, ← assoc) rest)

pub rows-back : (nodes : List NodeLanes) → Ascends node_cmp nodes → Every IsNode nodes → Restores (rows_of nodes) [] nodes
rows-back nodes a i = restores-append (boot_rows nodes) (lane_rows nodes) [] (bares nodes) nodes (boots-back [] nodes a) (lane_rows-back [] nodes a i)
