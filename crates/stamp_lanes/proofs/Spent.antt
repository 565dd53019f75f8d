-- A stamp that was accepted is never fresh again.
use Rattle.std.proofs.Common.{◌≡◌, ◌⊎◌, inl, inr, ℕ, ◌+◌, ◌<◌, ◌≤◌, ◌==◌, Bool, true, false, if◌then◌else◌, List, [], ◌∷◌, ◌++◌, Option, Some, None, Ok, refl, sym, ap, ◌∙◌, subst, arith}
use Rattle.std.specs.Ordering.{is_eq}
use Rattle.std.proofs.lemmas.Bool.Decides.{nat_tests}
use Rattle.actor_names.specs.declared.member.Member.{Member}
use Rattle.lists_and_limits.specs.Lists.{with_put}
use Rattle.stamp_lanes.specs.declared.answer.LaneAnswer.{LaneAnswer}
use Rattle.stamp_lanes.specs.declared.answer.KeptNumber.{KeptNumber}
use Rattle.stamp_lanes.specs.declared.answer.StampLook.TheVariants.{Fresh}
use Rattle.stamp_lanes.specs.declared.node.NodeLanes.{NodeLanes}
use Rattle.stamp_lanes.specs.Lanes.{lane_of, lanes_after, look_lane}
use Rattle.stamp_lanes.specs.Stamps.{at_node, node_cmp, node_at, greatest_boot, bare_node, look_node, look, node_after, nodes_after, after_accept, after_draw}
use Rattle.stamp_lanes.specs.Runs.{LaneEvent, Draws, Accepts, MayCome, MayRun, after_event, after_events}
use Rattle.stamp_lanes.specs.Orders.{nodes_total}
use Rattle.lists_and_limits.proofs.Maps as maps
use Rattle.stamp_lanes.proofs.LaneFacts.{IsUsed, used-lanes, used-new, used-not-fresh, lane_of-after}
use Rattle.stamp_lanes.proofs.NodeFacts.{named, boot_le, node-tied, fresh-node}

-- the node has drawn a later boot, or its lane of the part has used the number
abbrev pub IsSpent : ℕ → ℕ → ℕ → Option NodeLanes → Type 0
IsSpent boot part number None = ⊥
IsSpent boot part number (Some e) = (boot < e.boot) ⊎ ((e.boot ≡ boot) × IsUsed number (lane_of part e.lanes))

pub spent-not-fresh : (boot part number : ℕ) (o : Option NodeLanes) → IsSpent boot part number o → look_node boot part number o ≡ Ok Fresh → ⊥
spent-not-fresh boot part number None s h = s
spent-not-fresh boot part number (Some e) s h = go (e.boot == boot) refl s
  where
    go : (b : Bool) → (e.boot == boot) ≡ b → (boot < e.boot) ⊎ ((e.boot ≡ boot) × IsUsed number (lane_of part e.lanes)) → ⊥
    go true t (inl l) = grind (arith, nat_tests)
    go true t (inr u) =
        let k : look_lane number (lane_of part e.lanes) ≡ Ok Fresh = rw t at h in
        used-not-fresh number (lane_of part e.lanes) u.1 k
    go false t v = let k = rw t at h in cc

-- a boot of a stamp whose number is used isn't above the greatest
spent_le : (boot part number : ℕ) (o : Option NodeLanes) (space node : List ℕ) (nodes : List NodeLanes) → node_at space node nodes ≡ o → IsSpent boot part number o → boot ≤ greatest_boot nodes
spent_le boot part number None space node nodes h s = absurd s
spent_le boot part number (Some e) space node nodes h (inl l) = let m = boot_le space node e nodes h in omega arith
spent_le boot part number (Some e) space node nodes h (inr u) = let m = boot_le space node e nodes h in let n = u.0 in omega arith

spent-lanes : (boot part number p : ℕ) (k : KeptNumber) (e : NodeLanes) → IsSpent boot part number (Some e) → IsSpent boot part number (Some (node_after p k e))
spent-lanes boot part number p k e (inl l) = inl l
spent-lanes boot part number p k e (inr u) = inr (u.0, used-lanes number part p k e.lanes u.1)

found-put : (space node : List ℕ) (e : NodeLanes) (nodes : List NodeLanes) → node_at space node (with_put node_cmp e nodes) ≡ (if is_eq (at_node space node e) then Some e else node_at space node nodes)
found-put space node e nodes = maps.found-put (λ x. x) node_cmp nodes_total e (named space node) nodes

module _ (boot part number : ℕ) (space node : List ℕ) where
  abbrev pub Spent : List NodeLanes → Type 0
  Spent nodes = IsSpent boot part number (node_at space node nodes)

  after-put : (e : NodeLanes) (nodes : List NodeLanes) → (is_eq (at_node space node e) ≡ true → IsSpent boot part number (Some e)) → Spent nodes → Spent (with_put node_cmp e nodes)
  after-put e nodes new s = rw (found-put space node e nodes) (go (is_eq (at_node space node e)) refl)
    where
      go : (b : Bool) → is_eq (at_node space node e) ≡ b → IsSpent boot part number (if b then Some e else node_at space node nodes)
      go true t = new t
      go false t = s

  spent-draw : (other_space other : List ℕ) (nodes : List NodeLanes) → Spent nodes → Spent (after_draw other_space other nodes)
  spent-draw other_space other nodes s =
      let l = spent_le boot part number (node_at space node nodes) space node nodes refl s in
      after-put (bare_node other_space other (greatest_boot nodes + 1)) nodes (λ t. inl (omega arith)) s

  spent-accept : (member : Member) (p : ℕ) (k : KeptNumber) (nodes : List NodeLanes) → Spent nodes → Spent (after_accept member p k nodes)
  spent-accept member p k nodes s = go (node_at member.space member.node nodes) refl
    where
      go : (o : Option NodeLanes) → node_at member.space member.node nodes ≡ o → Spent (nodes_after p k o nodes)
      go None h = s
      go (Some d) h =
          after-put (node_after p k d) nodes
          (λ t.
          let mine : node_at d.space d.node nodes ≡ node_at space node nodes = maps.found-tied (λ x. x) node_cmp nodes_total d (named space node) t nodes in
          let its : node_at d.space d.node nodes ≡ Some d = maps.found-tied (λ x. x) node_cmp nodes_total d (named member.space member.node) (node-tied member.space member.node d nodes h) nodes ∙ h in
          let found : node_at space node nodes ≡ Some d = sym mine ∙ its in
          spent-lanes boot part number p k d (rw found at s))
          s

  spent-event : (e : LaneEvent) (nodes : List NodeLanes) → Spent nodes → Spent (after_event e nodes)
  spent-event (Draws other_space other) nodes s = spent-draw other_space other nodes s
  spent-event (Accepts member p n answer) nodes s = spent-accept member p (record { number = n; answer = answer }) nodes s

  pub spent-events : (es : List LaneEvent) (nodes : List NodeLanes) → Spent nodes → Spent (after_events es nodes)
  spent-events [] nodes s = s
  spent-events (e ∷ es) nodes s = spent-events es (after_event e nodes) (spent-event e nodes s)

-- an accepted stamp is spent
pub spent-new : (member : Member) (part : ℕ) (k : KeptNumber) (nodes : List NodeLanes) → look member part k.number nodes ≡ Ok Fresh → Spent member.boot part k.number member.space member.node (after_accept member part k nodes)
spent-new member part k nodes f = go (node_at member.space member.node nodes) refl
  where
    go : (o : Option NodeLanes) → node_at member.space member.node nodes ≡ o → Spent member.boot part k.number member.space member.node (nodes_after part k o nodes)
    go None h = absurd (let g : look_node member.boot part k.number None ≡ Ok Fresh = rw h at f in cc)
    go (Some e) h =
        let g : look_node member.boot part k.number (Some e) ≡ Ok Fresh = rw h at f in
        let i = fresh-node member part k.number e g in
        let tied : is_eq (at_node member.space member.node e) ≡ true = node-tied member.space member.node e nodes h in
        let there : node_at member.space member.node (with_put node_cmp (node_after part k e) nodes) ≡ Some (node_after part k e) = found-put member.space member.node (node_after part k e) nodes ∙ rw tied refl in
        rw there (inr (i.boot, rw (lane_of-after part k e.lanes) (used-new (lane_of part e.lanes) k)))

-- ---- runs

pub run-front : (xs ys : List LaneEvent) (nodes : List NodeLanes) → MayRun (xs ++ ys) nodes → MayRun xs nodes
run-front [] ys nodes r = tt
run-front (x ∷ xs) ys nodes r = (r.0, run-front xs ys (after_event x nodes) r.1)

pub run-back : (xs ys : List LaneEvent) (nodes : List NodeLanes) → MayRun (xs ++ ys) nodes → MayRun ys (after_events xs nodes)
run-back [] ys nodes r = r
run-back (x ∷ xs) ys nodes r = run-back xs ys (after_event x nodes) r.1

after_events-append : (xs ys : List LaneEvent) (nodes : List NodeLanes) → after_events (xs ++ ys) nodes ≡ after_events ys (after_events xs nodes)
after_events-append [] ys nodes = refl
after_events-append (x ∷ xs) ys nodes = after_events-append xs ys (after_event x nodes)

module _ (member : Member) (part number : ℕ) (answer : LaneAnswer) (later : List LaneEvent) where
  pub never : (nodes : List NodeLanes) → MayRun (Accepts member part number answer ∷ later) nodes → look member part number (after_events (Accepts member part number answer ∷ later) nodes) ≡ Ok Fresh → ⊥
  never nodes r h =
      let k : KeptNumber = record { number = number; answer = answer } in
      let new = spent-new member part k nodes r.0 in
      let s = spent-events member.boot part number member.space member.node later (after_accept member part k nodes) new in
      spent-not-fresh member.boot part number (node_at member.space member.node (after_events later (after_accept member part k nodes))) s h

  pub never_twice : (second : LaneAnswer) (before after : List LaneEvent) (nodes : List NodeLanes) → MayRun (before ++ Accepts member part number answer ∷ later ++ Accepts member part number second ∷ after) nodes → ⊥
  never_twice second before after nodes r =
      let first = before ++ Accepts member part number answer ∷ later in
      let rest = Accepts member part number second ∷ after in
      let begun = run-back before (Accepts member part number answer ∷ later) nodes (run-front first rest nodes r) in
      let again = run-back first rest nodes r in
      let h : look member part number (after_events first nodes) ≡ Ok Fresh = again.0 in
      never (after_events before nodes) begun
      (ap (λ ns. look member part number ns) (sym (after_events-append before (Accepts member part number answer ∷ later) nodes)) ∙ h)
