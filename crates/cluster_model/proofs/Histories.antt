-- The marks so far say what the parts are, no actor is active twice in them, and two turns overlap only under one
-- chain.
use Rattle.std.proofs.Common.{◌≡◌, ◌⊎◌, ℕ, true, false, ◌<◌, ◌≤◌, List, [], ◌∷◌, ◌++◌, length, set, Option, None, Some, refl, sym, ap, ◌∙◌, subst, inl, inr, arith, length-append}
use Rattle.std.specs.Prelude.{zero, suc, slice_get}
use Rattle.std.proofs.lemmas.Bool.{cases_eq, cond-true, cond-false, false≢true, true≢false, cases_Bool, lt-ltb}
use Rattle.actor_names.specs.declared.member.Member.{Member}
use Rattle.actor_names.specs.declared.actor_key.ActorKey.{ActorKey}
use Rattle.place_table.specs.declared.host.HostInfo.{HostInfo}
use Rattle.place_table.specs.Hosts.{PlacementTable}
use Rattle.turn_core.specs.declared.cell.Turn.{Turn}
use Rattle.turn_core.specs.CellSound.{In, FitsDepth}
use Rattle.turn_core.proofs.Elements.{In-last, In-left}
use Rattle.part_model.specs.declared.actor_cell.ActorCell.{ActorCell}
use Rattle.part_model.specs.Cells.{cell_at}
use Rattle.part_model.proofs.Elements.{In-cell_at, key-cell_at}
use Rattle.part_model.proofs.KeyOrders.{same_key-self}
use Rattle.part_model.specs.declared.event.PartEvent.{PartEvent}
use Rattle.part_model.specs.Activity.{Activity, no_activity, activity_of, after_mark, is_mark_of, replay, AreTidy, IsAsked, IsFrom, Replays}
use Rattle.actor_names.specs.Same.{same_member}
use Rattle.part_model.specs.Marks.{PartMark, TurnBegan, BecameActive}
use Rattle.part_model.specs.Part.{PartState}
use Rattle.part_model.specs.PartMoves.{Stepped}
use Rattle.part_model.specs.Sound.{IsActorSound}
use Rattle.part_model.proofs.CallReplays.{from_key}
use Rattle.part_model.proofs.Replays.{tidy_split, unmarked, still_active, replay-append}
use Rattle.cluster_model.specs.World.{TraceMark, tagged}
use Rattle.cluster_model.specs.Invariant.{IsActiveOnce}
use Rattle.cluster_model.specs.History.{history, IsNeverTwice, IsOneChain}
use Rattle.cluster_model.proofs.Basics.{same_member-true, same_member-self, In-slice_get}

-- ---- lists by place

pub some_same : {A : Type 0} (a b : A) → Some a ≡ Some b → a ≡ b
some_same {A = A} a b e = ap (λ (o : Option A). elim o [ None ↦ a | Some x ↦ x ]) e

pub get-set : {A : Type 0} (xs : List A) (n i : ℕ) (x y z : A) → slice_get xs n ≡ Some z → slice_get (set xs n x) i ≡ Some y → ((i ≡ n) × (y ≡ x)) ⊎ ((i ≡ n → ⊥) × (slice_get xs i ≡ Some y))
get-set [] n i x y z h e = absurd (cc)
get-set (w ∷ xs) zero zero x y z h e = inl (refl, sym (some_same x y e))
get-set (w ∷ xs) zero (suc i) x y z h e = inr (λ q. omega arith, e)
get-set (w ∷ xs) (suc n) zero x y z h e = inr (λ q. omega arith, e)
get-set (w ∷ xs) (suc n) (suc i) x y z h e = elim (get-set xs n i x y z h e) [ inl q ↦ inl (ap suc q.0, q.1) | inr q ↦ inr (λ r. q.0 (omega arith), q.1) ]

pub get-set_same : {A : Type 0} (xs : List A) (n : ℕ) (x z : A) → slice_get xs n ≡ Some z → slice_get (set xs n x) n ≡ Some x
get-set_same [] n x z h = absurd (cc)
get-set_same (w ∷ xs) zero x z h = refl
get-set_same (w ∷ xs) (suc n) x z h = get-set_same xs n x z h

pub get-set_other : {A : Type 0} (xs : List A) (n i : ℕ) (x y : A) → (i ≡ n → ⊥) → slice_get xs i ≡ Some y → slice_get (set xs n x) i ≡ Some y
get-set_other [] n i x y ne h = h
get-set_other (w ∷ xs) zero zero x y ne h = absurd (ne refl)
get-set_other (w ∷ xs) zero (suc i) x y ne h = h
get-set_other (w ∷ xs) (suc n) zero x y ne h = h
get-set_other (w ∷ xs) (suc n) (suc i) x y ne h = get-set_other xs n i x y (λ q. ne (ap suc q)) h

-- ---- histories

pub history-append : (xs ys : List TraceMark) (m : Member) (k : ActorKey) (h : Activity) → history (xs ++ ys) m k h ≡ history ys m k (history xs m k h)
history-append [] ys m k h = refl
history-append (x ∷ xs) ys m k h = history-append xs ys m k _

pub history-mine : (xs : List PartMark) (m n : Member) (k : ActorKey) (h : Activity) → same_member m n ≡ true → history (tagged n xs) m k h ≡ replay xs k h
history-mine [] m n k h t = refl
history-mine (x ∷ xs) m n k h t = ap (history (tagged n xs) m k) (cond-true (same_member m n) _ _ t) ∙ history-mine xs m n k _ t

pub history-others : (xs : List PartMark) (m n : Member) (k : ActorKey) (h : Activity) → same_member m n ≡ false → history (tagged n xs) m k h ≡ h
history-others [] m n k h f = refl
history-others (x ∷ xs) m n k h f = ap (history (tagged n xs) m k) (cond-false (same_member m n) _ _ f) ∙ history-others xs m n k h f

-- a mark is in the first list or in the second
pub split_append : (xs ys before after : List TraceMark) (x : TraceMark) → xs ++ ys ≡ before ++ x ∷ after →
    ((rest : List TraceMark) × (xs ≡ before ++ x ∷ rest)) ⊎ ((front : List TraceMark) × (before ≡ xs ++ front) × (ys ≡ front ++ x ∷ after))
split_append [] ys before after x e = inr (before, refl, e)
split_append (z ∷ xs) ys [] after x e = inl (xs, (let a : z ≡ x = cc in ap (λ (u : TraceMark). u ∷ xs) a))
split_append (z ∷ xs) ys (b ∷ before) after x e =
    let a : z ≡ b = cc in
    let t : xs ++ ys ≡ before ++ x ∷ after = cc in
    elim (split_append xs ys before after x t) [
      | inl q ↦ inl (q.0, (let f = q.1 in ap (λ (u : TraceMark). u ∷ xs) a ∙ ap (◌∷◌ b) f))
      | inr q ↦ inr (q.0, (ap (◌∷◌ b) q.1 ∙ ap (λ (u : TraceMark). u ∷ xs ++ q.0) (sym a)), q.2)
    ]

pub split_tagged : (n : Member) (xs : List PartMark) (front after : List TraceMark) (x : TraceMark) → tagged n xs ≡ front ++ x ∷ after →
    (ys : List PartMark) × (zs : List PartMark) × (front ≡ tagged n ys) × (xs ≡ ys ++ x.what ∷ zs) × (x.member ≡ n)
split_tagged n [] [] after x e = absurd (cc)
split_tagged n [] (f ∷ front) after x e = absurd (cc)
split_tagged n (y ∷ xs) [] after x e =
    let a : ◌≡◌ {A = TraceMark} (record { member = n; what = y }) x = cc in
    ([], xs, refl, ap (λ (u : TraceMark). u.what ∷ xs) a, ap (λ (u : TraceMark). u.member) (sym a))
split_tagged n (y ∷ xs) (f ∷ front) after x e =
    let a : ◌≡◌ {A = TraceMark} (record { member = n; what = y }) f = cc in
    let t : tagged n xs ≡ front ++ x ∷ after = cc in
    let q = split_tagged n xs front after x t in
    (y ∷ q.0, q.1, (ap (λ (u : TraceMark). u ∷ front) (sym a) ∙ ap (◌∷◌ (record { member = n; what = y })) q.2), ap (◌∷◌ y) q.3, q.4)

module _ (part_of : ActorKey → ℕ → ℕ) (n0 : ℕ) where
  pub record FitsHistory (ps : List PartState) (marks : List TraceMark) : Type 0 where
    pub placed : (i : ℕ) (p : PartState) → slice_get ps i ≡ Some p → (c : ActorCell) → In c p.cells → part_of c.key n0 ≡ p.number
    pub apart : (i j : ℕ) (p q : PartState) → slice_get ps i ≡ Some p → slice_get ps j ≡ Some q → p.member ≡ q.member → p.number ≡ q.number → i ≡ j
    pub here : (i : ℕ) (p : PartState) → slice_get ps i ≡ Some p → (k : ActorKey) → part_of k n0 ≡ p.number → history marks p.member k no_activity ≡ activity_of (cell_at p.cells k)
    pub nowhere : (m : Member) (k : ActorKey) → ((i : ℕ) (p : PartState) → slice_get ps i ≡ Some p → p.member ≡ m → part_of k n0 ≡ p.number → ⊥) → history marks m k no_activity ≡ no_activity

  -- an actor that the marks mention has its part
  pub home : (ps : List PartState) (m : Member) (k : ActorKey) → ((i : ℕ) × (p : PartState) × (slice_get ps i ≡ Some p) × (p.member ≡ m) × (part_of k n0 ≡ p.number)) ⊎ ((i : ℕ) (p : PartState) → slice_get ps i ≡ Some p → p.member ≡ m → part_of k n0 ≡ p.number → ⊥)
  home [] m k = inr (λ i p e. absurd (cc))
  home (p ∷ ps) m k = elim (home ps m k) [
    | inl h ↦ inl (suc h.0, h.1, h.2, h.3, h.4)
    | inr h ↦ elim (cases_Bool (same_member p.member m)) [
      | inl t ↦ elim (cases_eq (part_of k n0) p.number) [
        | inl e ↦ inl (0, p, refl, same_member-true p.member m t, e)
        | inr n ↦ inr (no p ps h (λ a b. n b))
      ]
      | inr f ↦ inr (no p ps h (λ a b. true≢false (sym (subst (λ (z : Member). same_member p.member z ≡ true) a (same_member-self p.member)) ∙ f)))
    ]
  ]
    where
      no : (p : PartState) (ps : List PartState) → ((i : ℕ) (q : PartState) → slice_get ps i ≡ Some q → q.member ≡ m → part_of k n0 ≡ q.number → ⊥) → (p.member ≡ m → part_of k n0 ≡ p.number → ⊥) →
          (i : ℕ) (q : PartState) → slice_get (p ∷ ps) i ≡ Some q → q.member ≡ m → part_of k n0 ≡ q.number → ⊥
      no p ps h n zero q e a b = let s = some_same p q e in n (ap (λ (z : PartState). z.member) s ∙ a) (b ∙ ap (λ (z : PartState). z.number) (sym s))
      no p ps h n (suc i) q e a b = h i q e a b

  module _ (owner : PlacementTable → ActorKey → Option HostInfo) (ps : List PartState) (marks : List TraceMark) (fits : FitsHistory ps marks)
      (n : ℕ) (p q : PartState) (at : slice_get ps n ≡ Some p) (e : PartEvent) (xs : List PartMark) (asked : (k : ActorKey) → IsAsked e k → part_of k n0 ≡ p.number)
      (st : Stepped owner p e q) (r : Replays e p q xs) where
    abbrev changed : List PartState
    changed = set ps n q

    from_placed : (k : ActorKey) → IsFrom e p k → part_of k n0 ≡ p.number
    from_placed k (inl h) = subst (λ (z : ActorKey). part_of z n0 ≡ p.number) h.2 (fits.placed n p at h.0 h.1)
    from_placed k (inr a) = asked k a

    pub not_marked : (k : ActorKey) → (part_of k n0 ≡ p.number → ⊥) → (y : PartMark) → In y xs → is_mark_of y k ≡ true → ⊥
    not_marked k away y i t = away (from_placed k (r.marked y k i t))

    -- the part that was there before
    pub orig : (i : ℕ) (x : PartState) → slice_get changed i ≡ Some x → (y : PartState) × (slice_get ps i ≡ Some y) × (y.member ≡ x.member) × (y.number ≡ x.number)
    orig i x g = elim (get-set ps n i q x p at g) [
      | inl h ↦ (p, subst (λ (j : ℕ). slice_get ps j ≡ Some p) (sym h.0) at, sym st.member ∙ ap (λ (z : PartState). z.member) (sym h.1), sym st.number ∙ ap (λ (z : PartState). z.number) (sym h.1))
      | inr h ↦ (x, h.1, refl, refl)
    ]

    -- and the one that is there after
    pub after_at : (i : ℕ) (y : PartState) → slice_get ps i ≡ Some y → (x : PartState) × (slice_get changed i ≡ Some x) × (x.member ≡ y.member) × (x.number ≡ y.number)
    after_at i y g = elim (cases_eq i n) [
      | inl h ↦ (
          let s : p ≡ y = some_same p y (sym at ∙ subst (λ (j : ℕ). slice_get ps j ≡ Some y) h g) in
          (q, subst (λ (j : ℕ). slice_get changed j ≡ Some q) (sym h) (get-set_same ps n q p at), st.member ∙ ap (λ (z : PartState). z.member) s, st.number ∙ ap (λ (z : PartState). z.number) s))
      | inr h ↦ (y, get-set_other ps n i q y h g, refl, refl)
    ]

    tagged_away : (m : Member) (k : ActorKey) (h : Activity) → (m ≡ p.member → part_of k n0 ≡ p.number → ⊥) → history (tagged p.member xs) m k h ≡ h
    tagged_away m k h away = elim (cases_Bool (same_member m p.member)) [
      | inl t ↦ history-mine xs m p.member k h t ∙ unmarked xs k h (not_marked k (away (same_member-true m p.member t)))
      | inr f ↦ history-others xs m p.member k h f
    ]

    here_changed : (i : ℕ) (x : PartState) → slice_get changed i ≡ Some x → (k : ActorKey) → part_of k n0 ≡ x.number → history (marks ++ tagged p.member xs) x.member k no_activity ≡ activity_of (cell_at x.cells k)
    here_changed i x g k h = elim (get-set ps n i q x p at g) [
      | inl s ↦ (
          let m : x.member ≡ p.member = ap (λ (z : PartState). z.member) s.1 ∙ st.member in
          let l : part_of k n0 ≡ p.number = h ∙ ap (λ (z : PartState). z.number) s.1 ∙ st.number in
          history-append marks (tagged p.member xs) x.member k no_activity
          ∙ history-mine xs x.member p.member k _ (subst (λ (z : Member). same_member z p.member ≡ true) (sym m) (same_member-self p.member))
          ∙ ap (λ (z : Member). replay xs k (history marks z k no_activity)) m
          ∙ ap (replay xs k) (fits.here n p at k l)
          ∙ sym (r.activity k)
          ∙ ap (λ (z : PartState). activity_of (cell_at z.cells k)) (sym s.1))
      | inr s ↦
          history-append marks (tagged p.member xs) x.member k no_activity
          ∙ tagged_away x.member k _ (λ a b. s.0 (fits.apart i n x p s.1 at a (sym h ∙ b)))
          ∙ fits.here i x s.1 k h
    ]

    pub fits_step : FitsHistory changed (marks ++ tagged p.member xs)
    fits_step =
        record {
          placed = λ i x g c j. elim (get-set ps n i q x p at g) [
            | inl s ↦ from_placed c.key (from_key e p c (r.cells c (subst (λ (z : PartState). In c z.cells) s.1 j))) ∙ sym st.number ∙ ap (λ (z : PartState). z.number) (sym s.1)
            | inr s ↦ fits.placed i x s.1 c j
          ];
          apart = λ i j x y g h a b.
              let u = orig i x g in
              let v = orig j y h in
              fits.apart i j u.0 v.0 u.1 v.1 (u.2 ∙ a ∙ sym v.2) (u.3 ∙ b ∙ sym v.3);
          here = here_changed;
          nowhere = λ m k no.
              let old : (i : ℕ) (y : PartState) → slice_get ps i ≡ Some y → y.member ≡ m → part_of k n0 ≡ y.number → ⊥ = λ i y g a b. (let x = after_at i y g in no i x.0 x.1 (x.2 ∙ a) (b ∙ sym x.3)) in
              history-append marks (tagged p.member xs) m k no_activity
              ∙ tagged_away m k _ (λ a b. old n p at (sym a) b)
              ∙ fits.nowhere m k old;
        }

    -- ---- what an actor's last marks say of its cell

    pub seen_active : (cs : List ActorCell) (k : ActorKey) → (activity_of (cell_at cs k)).active ≡ true → (c : ActorCell) × In c cs × (c.key ≡ k) × (c.active ≡ true)
    seen_active cs k a = go (cell_at cs k) refl a
      where
        go : (o : Option ActorCell) → cell_at cs k ≡ o → (activity_of o).active ≡ true → (c : ActorCell) × In c cs × (c.key ≡ k) × (c.active ≡ true)
        go None f b = absurd (false≢true b)
        go (Some c) f b = (c, In-cell_at cs k c f, key-cell_at cs k c f, b)

    seen_turn : (cs : List ActorCell) (k : ActorKey) (t : Turn) → In t (activity_of (cell_at cs k)).turns → (c : ActorCell) × In c cs × (c.key ≡ k) × (c.inner.turns ≡ (activity_of (cell_at cs k)).turns)
    seen_turn cs k t i = go (cell_at cs k) refl i
      where
        go : (o : Option ActorCell) → cell_at cs k ≡ o → In t (activity_of o).turns → (c : ActorCell) × In c cs × (c.key ≡ k) × (c.inner.turns ≡ (activity_of o).turns)
        go None f b = absurd b
        go (Some c) f b = (c, In-cell_at cs k c f, key-cell_at cs k c f, refl)

    -- another member's cell of the actor, which the marks mention
    other_cell : (m : Member) (k : ActorKey) → (m ≡ p.member → ⊥) → (h : (history marks m k no_activity ≡ no_activity) → ⊥) →
        (x : PartState) × In x ps × In x changed × (x.member ≡ m) × (history marks m k no_activity ≡ activity_of (cell_at x.cells k))
    other_cell m k ne h = elim (home ps m k) [
      | inl f ↦ (
        f.1,
        In-slice_get ps f.0 f.1 f.2,
        In-slice_get changed f.0 f.1 (get-set_other ps n f.0 q f.1 (λ s. ne (sym f.3 ∙ ap (λ (z : PartState). z.member) (some_same f.1 p (sym f.2 ∙ subst (λ (j : ℕ). slice_get ps j ≡ Some p) (sym s) at)))) f.2),
        f.3,
        ap (λ (z : Member). history marks z k no_activity) (sym f.3) ∙ fits.here f.0 f.1 f.2 k f.4,
      )
      | inr f ↦ absurd (h (fits.nowhere m k f))
    ]

    pub last_seen : (k : ActorKey) (ys zs : List PartMark) (x : PartMark) → xs ≡ ys ++ x ∷ zs → is_mark_of x k ≡ true → activity_of (cell_at q.cells k) ≡ replay zs k (after_mark x (replay ys k (activity_of (cell_at p.cells k))))
    last_seen k ys zs x s t =
        r.activity k ∙ ap (λ (l : List PartMark). replay l k (activity_of (cell_at p.cells k))) s ∙ replay-append ys (x ∷ zs) k _ ∙ ap (replay zs k) (cond-true (is_mark_of x k) _ _ t)

    q_here : In q changed
    q_here = In-slice_get changed n q (get-set_same ps n q p at)

    not_no_activity : (h : Activity) → h.active ≡ true → h ≡ no_activity → ⊥
    not_no_activity h a z = true≢false (sym a ∙ ap (λ (y : Activity). y.active) z)

    before_other : (m : Member) (k : ActorKey) (ys : List PartMark) (before front : List TraceMark) → before ≡ marks ++ front → front ≡ tagged p.member ys → same_member m p.member ≡ false → history before m k no_activity ≡ history marks m k no_activity
    before_other m k ys before front a b f =
        ap (λ (l : List TraceMark). history l m k no_activity) (a ∙ ap (λ (l : List TraceMark). marks ++ l) b) ∙ history-append marks (tagged p.member ys) m k no_activity ∙ history-others ys m p.member k _ f

    pub never_step : IsNeverTwice marks → IsActiveOnce changed → IsNeverTwice (marks ++ tagged p.member xs)
    never_step never once before after m n' k v same act = elim (split_append marks (tagged p.member xs) before after _ same) [
      | inl f ↦ never before f.0 m n' k v f.1 act
      | inr f ↦ (
          let g = split_tagged p.member xs f.0 after (record { member = n'; what = BecameActive k v }) f.2 in
          elim (cases_Bool (same_member m p.member)) [
            | inl t ↦ same_member-true m p.member t ∙ sym g.4
            | inr t ↦ (
                let ne : m ≡ p.member → ⊥ = λ s. true≢false (sym (subst (λ (z : Member). same_member m z ≡ true) s (same_member-self m)) ∙ t) in
                let mine = before_other m k g.0 before f.0 f.1 g.2 t in
                let a : (history marks m k no_activity).active ≡ true = ap (λ (z : Activity). z.active) (sym mine) ∙ act in
                let o = other_cell m k ne (not_no_activity (history marks m k no_activity) a) in
                let c = seen_active o.0.cells k (ap (λ (z : Activity). z.active) (sym o.4) ∙ a) in
                let word = tidy_split g.0 (BecameActive k v) g.1 (subst AreTidy g.3 r.tidy) in
                let b = still_active g.1 k (after_mark (BecameActive k v) (replay g.0 k (activity_of (cell_at p.cells k)))) refl word in
                let d = seen_active q.cells k (ap (λ (z : Activity). z.active) (last_seen k g.0 g.1 (BecameActive k v) g.3 (same_key-self k)) ∙ b) in
                sym o.3 ∙ once o.0 q c.0 d.0 o.2 q_here c.1 d.1 c.3 d.3 (c.2 ∙ sym d.2) ∙ st.member ∙ sym g.4)
          ])
    ]

    pub chain_step : (depth : List ℕ → ℕ) → ((c : ActorCell) → In c q.cells → c.inner.depth ≤ depth c.key.kind) → IsOneChain depth marks → IsActiveOnce changed → ((x : PartState) → In x ps → (c : ActorCell) → In c x.cells → IsActorSound c) → IsOneChain depth (marks ++ tagged p.member xs)
    chain_step depth deep one once sound before after m n' k call chain same t i = elim (split_append marks (tagged p.member xs) before after _ same) [
      | inl f ↦ one before f.0 m n' k call chain f.1 t i
      | inr f ↦ (
          let g = split_tagged p.member xs f.0 after (record { member = n'; what = TurnBegan k call chain }) f.2 in
          let word = tidy_split g.0 (TurnBegan k call chain) g.1 (subst AreTidy g.3 r.tidy) in
          let old : Activity = replay g.0 k (activity_of (cell_at p.cells k)) in
          let new : Turn = record { call = call; chain = chain } in
          let s : activity_of (cell_at q.cells k) ≡ after_mark (TurnBegan k call chain) old = last_seen k g.0 g.1 (TurnBegan k call chain) g.3 (same_key-self k) ∙ unmarked g.1 k _ word in
          let turns : (activity_of (cell_at q.cells k)).turns ≡ old.turns ++ new ∷ [] = ap (λ (z : Activity). z.turns) s in
          let d = seen_turn q.cells k new (subst (In new) (sym turns) (In-last old.turns new)) in
          let has : In new d.0.inner.turns = subst (In new) (sym (d.3 ∙ turns)) (In-last old.turns new) in
          elim (cases_Bool (same_member m p.member)) [
            | inl b ↦ (
                let at_home : part_of k n0 ≡ p.number = from_placed k (r.marked (TurnBegan k call chain) k (subst (In (TurnBegan k call chain)) (sym g.3) (in_middle g.0 (TurnBegan k call chain) g.1)) (same_key-self k)) in
                let h : history before m k no_activity ≡ old =
                ap (λ (l : List TraceMark). history l m k no_activity) (f.1 ∙ ap (λ (l : List TraceMark). marks ++ l) g.2)
                ∙ history-append marks (tagged p.member g.0) m k no_activity
                ∙ history-mine g.0 m p.member k _ b
                ∙ ap (λ (z : Member). replay g.0 k (history marks z k no_activity)) (same_member-true m p.member b)
                ∙ ap (replay g.0 k) (fits.here n p at k at_home) in
                let j : In t d.0.inner.turns = subst (In t) (sym (d.3 ∙ turns)) (In-left old.turns _ t (subst (λ (z : Activity). In t z.turns) h i)) in
                let me : m ≡ n' = same_member-true m p.member b ∙ sym g.4 in
                let l : length d.0.inner.turns ≡ length (old.turns ++ new ∷ []) = ap length (d.3 ∙ turns) in
                let x = length-append old.turns (new ∷ []) in
                let y = (st.sound.each_sound d.0 d.1).sound.within in
                let z : d.0.inner.depth ≤ depth k.kind = subst (λ (w : ActorKey). d.0.inner.depth ≤ depth w.kind) d.2 (deep d.0 d.1) in
                let some : 0 < length old.turns = length_of t old.turns (subst (λ (w : Activity). In t w.turns) h i) in
                let few : length old.turns < depth k.kind = omega arith in
                (me, (st.sound.each_sound d.0 d.1).sound.one_chain t new j has, subst (λ (w : Member). length (history before w k no_activity).turns < depth k.kind) me (rw h few), named d.0.inner.depth chain (omega arith) ((st.sound.each_sound d.0 d.1).sound.turns_fit new has)))
            | inr b ↦ (
                let ne : m ≡ p.member → ⊥ = λ s. true≢false (sym (subst (λ (z : Member). same_member m z ≡ true) s (same_member-self m)) ∙ b) in
                let mine = before_other m k g.0 before f.0 f.1 g.2 b in
                let l : In t (history marks m k no_activity).turns = subst (λ (z : Activity). In t z.turns) mine i in
                let o = other_cell m k ne (λ z. subst (λ (y : Activity). In t y.turns) z l) in
                let u : In t (activity_of (cell_at o.0.cells k)).turns = subst (λ (z : Activity). In t z.turns) o.4 l in
                let c = seen_turn o.0.cells k t u in
                let a = (sound o.0 o.1 c.0 c.1).open_active t (subst (In t) (sym c.3) u) in
                let x = (st.sound.each_sound d.0 d.1).open_active new has in
                absurd (ne (sym o.3 ∙ once o.0 q c.0 d.0 o.2 q_here c.1 d.1 a x (c.2 ∙ sym d.2) ∙ st.member)))
          ])
    ]
      where
        named : (d : ℕ) (chain : Option (List ℕ)) → 0 < d → FitsDepth d chain → (name : List ℕ) × (chain ≡ Some name)
        named d None l f = absurd (false≢true (f ∙ lt-ltb 0 d l))
        named d (Some name) l f = (name, refl)

        length_of : (t : Turn) (ts : List Turn) → In t ts → 0 < length ts
        length_of t [] i = absurd i
        length_of t (u ∷ ts) i = omega arith

        in_middle : (ys : List PartMark) (x : PartMark) (zs : List PartMark) → In x (ys ++ x ∷ zs)
        in_middle [] x zs = inl refl
        in_middle (y ∷ ys) x zs = inr (in_middle ys x zs)
