-- What the marks say of the versions at which parts opened: each actor that was active was given by that version's
-- table.
use Rattle.std.proofs.Common.{◌≡◌, ◌⊎◌, ℕ, true, false, cond, ◌<◌, List, [], ◌∷◌, ◌++◌, set, Option, Some, refl, sym, ap, ◌∙◌, subst, inl, inr, append_assoc}
use Rattle.std.specs.Prelude.{slice_get, ◌==◌}
use Rattle.std.proofs.lemmas.Bool.{cases_eq, cases_order, cond_both, cond-true, cond-false, false≢true, cases_Bool, eq-eqb, ne_eqb}
use Rattle.actor_names.specs.declared.member.Member.{Member}
use Rattle.actor_names.specs.declared.actor_key.ActorKey.{ActorKey}
use Rattle.place_table.specs.declared.host.HostInfo.{HostInfo}
use Rattle.place_table.specs.Hosts.{PlacementTable}
use Rattle.turn_core.specs.CellSound.{In}
use Rattle.turn_core.proofs.Elements.{In-left}
use Rattle.part_model.specs.declared.actor_cell.ActorCell.{ActorCell}
use Rattle.part_model.specs.Cells.{cell_at}
use Rattle.actor_names.specs.Same.{same_key}
use Rattle.part_model.proofs.KeyOrders.{same_key-self, same_key-true}
use Rattle.part_model.specs.declared.event.PartEvent.{PartEvent}
use Rattle.part_model.specs.Activity.{Activity, no_activity, activity_of, after_mark, replay, AreTidy, AreAt, AreCalm, IsAsked, Replays}
use Rattle.actor_names.specs.Same.{same_member}
use Rattle.part_model.specs.Marks.{PartMark, TurnBegan, TurnEnded, BecameActive, BecameInactive, PartOpened}
use Rattle.part_model.specs.Part.{PartState}
use Rattle.part_model.specs.PartMoves.{Stepped}
use Rattle.part_model.proofs.Replays.{tidy_split, unmarked, still_active, at_front, at_middle}
use Rattle.cluster_model.specs.Messages.{Message}
use Rattle.cluster_model.specs.World.{TraceMark, tagged}
use Rattle.cluster_model.specs.Invariant.{Gives, IsPartBacked}
use Rattle.cluster_model.specs.History.{history, opened_at, opened_version_at, HadActive, WasGiven, AreGiven, DoVersionsRise}
use Rattle.cluster_model.proofs.Basics.{same_member-true, same_member-self, one_owner, In-slice_get}
use Rattle.cluster_model.proofs.Histories.{FitsHistory, get-set, get-set_same, history-append, history-mine, history-others, split_append, split_tagged, not_marked, after_at, last_seen, seen_active}
use Rattle.cluster_model.specs.Spaces.{KeepsToSpace}
use Rattle.cluster_model.proofs.SpaceParts.{AreSpacesApart}

append_nil : {A : Type 0} (xs : List A) → xs ++ [] ≡ xs
append_nil [] = refl
append_nil (x ∷ xs) = ap (◌∷◌ x) (append_nil xs)

-- two ways to split a list
split_two : {A : Type 0} (xs ys before after : List A) → xs ++ ys ≡ before ++ after → ((rest : List A) × (xs ≡ before ++ rest)) ⊎ ((front : List A) × (before ≡ xs ++ front) × (ys ≡ front ++ after))
split_two [] ys before after e = inr (before, refl, e)
split_two (z ∷ xs) ys [] after e = inl (z ∷ xs, refl)
split_two (z ∷ xs) ys (b ∷ before) after e =
    let a : z ≡ b = cc in
    let t : xs ++ ys ≡ before ++ after = cc in
    elim (split_two xs ys before after t) [
      | inl q ↦ inl (q.0, ap (λ u. u ∷ xs) a ∙ ap (◌∷◌ b) q.1)
      | inr q ↦ inr (q.0, (ap (◌∷◌ b) q.1 ∙ ap (λ u. u ∷ xs ++ q.0) (sym a)), q.2)
    ]

-- a split of tagged marks is one of the marks
split_marks : (n : Member) (xs : List PartMark) (front after : List TraceMark) → tagged n xs ≡ front ++ after → (ys : List PartMark) × (zs : List PartMark) × (front ≡ tagged n ys) × (xs ≡ ys ++ zs)
split_marks n xs [] after e = ([], xs, refl, refl)
split_marks n [] (f ∷ front) after e = absurd (cc)
split_marks n (y ∷ xs) (f ∷ front) after e =
    let a : ◌≡◌ {A = TraceMark} (record { member = n; what = y }) f = cc in
    let t : tagged n xs ≡ front ++ after = cc in
    let q = split_marks n xs front after t in
    (y ∷ q.0, q.1, (ap (λ (u : TraceMark). u ∷ front) (sym a) ∙ ap (◌∷◌ (record { member = n; what = y })) q.2), ap (◌∷◌ y) q.3)

abbrev opens : List PartMark → ℕ → ℕ → ℕ
opens [] i v = v
opens (x ∷ xs) i v = opens xs i (opened_at x i v)

opened_version_at-append : (xs ys : List TraceMark) (m : Member) (i v : ℕ) → opened_version_at (xs ++ ys) m i v ≡ opened_version_at ys m i (opened_version_at xs m i v)
opened_version_at-append [] ys m i v = refl
opened_version_at-append (x ∷ xs) ys m i v = opened_version_at-append xs ys m i _

opened-mine : (xs : List PartMark) (m n : Member) (i v : ℕ) → same_member m n ≡ true → opened_version_at (tagged n xs) m i v ≡ opens xs i v
opened-mine [] m n i v t = refl
opened-mine (x ∷ xs) m n i v t = ap (opened_version_at (tagged n xs) m i) (cond-true (same_member m n) _ _ t) ∙ opened-mine xs m n i _ t

opened-others : (xs : List PartMark) (m n : Member) (i v : ℕ) → same_member m n ≡ false → opened_version_at (tagged n xs) m i v ≡ v
opened-others [] m n i v f = refl
opened-others (x ∷ xs) m n i v f = ap (opened_version_at (tagged n xs) m i) (cond-false (same_member m n) _ _ f) ∙ opened-others xs m n i v f

opens-at : (xs : List PartMark) (i v w : ℕ) → AreAt w xs → opens xs i v ≡ v
opens-at [] i v w a = refl
opens-at (PartOpened j u ∷ xs) i v w a = absurd a.0
opens-at (x ∷ xs) i v w a = opens-at xs i v w a.1

-- an actor that is active after some marks was so before, or became so among them
became : (ys : List PartMark) (k : ActorKey) (h : Activity) → (replay ys k h).active ≡ true → (h.active ≡ true) ⊎ ((v : ℕ) × (front : List PartMark) × (back : List PartMark) × (ys ≡ front ++ BecameActive k v ∷ back))
became [] k h a = inl a
became (TurnBegan j c d ∷ ys) k h a = elim (became ys k _ a) [
  | inl b ↦ inl (same b)
  | inr b ↦ inr (b.0, TurnBegan j c d ∷ b.1, b.2, ap (◌∷◌ (TurnBegan j c d)) b.3)
]
  where
    same : (cond (same_key k j) (after_mark (TurnBegan j c d) h) h).active ≡ true → h.active ≡ true
    same = cond_both (same_key k j) _ _ (λ (r : Activity). r.active ≡ true → h.active ≡ true) (λ _ e. e) (λ _ e. e)
became (TurnEnded j c ∷ ys) k h a = elim (became ys k _ a) [
  | inl b ↦ inl (same b)
  | inr b ↦ inr (b.0, TurnEnded j c ∷ b.1, b.2, ap (◌∷◌ (TurnEnded j c)) b.3)
]
  where
    same : (cond (same_key k j) (after_mark (TurnEnded j c) h) h).active ≡ true → h.active ≡ true
    same = cond_both (same_key k j) _ _ (λ (r : Activity). r.active ≡ true → h.active ≡ true) (λ _ e. e) (λ _ e. e)
became (BecameInactive j ∷ ys) k h a = elim (became ys k _ a) [
  | inl b ↦ inl (same b)
  | inr b ↦ inr (b.0, BecameInactive j ∷ b.1, b.2, ap (◌∷◌ (BecameInactive j)) b.3)
]
  where
    same : (cond (same_key k j) (after_mark (BecameInactive j) h) h).active ≡ true → h.active ≡ true
    same = cond_both (same_key k j) _ _ (λ (r : Activity). r.active ≡ true → h.active ≡ true) (λ _ e. absurd (false≢true e)) (λ _ e. e)
became (BecameActive j v ∷ ys) k h a = elim (became ys k _ a) [
  | inl b ↦ same b
  | inr b ↦ inr (b.0, BecameActive j v ∷ b.1, b.2, ap (◌∷◌ (BecameActive j v)) b.3)
]
  where
    same : (cond (same_key k j) (after_mark (BecameActive j v) h) h).active ≡ true → (h.active ≡ true) ⊎ ((u : ℕ) × (front : List PartMark) × (back : List PartMark) × (BecameActive j v ∷ ys ≡ front ++ BecameActive k u ∷ back))
    same = cond_both (same_key k j) _ _ (λ (r : Activity). r.active ≡ true → (h.active ≡ true) ⊎ ((u : ℕ) × (front : List PartMark) × (back : List PartMark) × (BecameActive j v ∷ ys ≡ front ++ BecameActive k u ∷ back)))
        (λ t e. inr (v, [], ys, ap (λ (z : ActorKey). BecameActive z v ∷ ys) (sym (same_key-true k j t)))) (λ _ e. inl e)
became (PartOpened j v ∷ ys) k h a = elim (became ys k h a) [
  | inl b ↦ inl b
  | inr b ↦ inr (b.0, PartOpened j v ∷ b.1, b.2, ap (◌∷◌ (PartOpened j v)) b.3)
]

-- what holds at a place of the first marks holds at a place of the longer list too
had_longer : (owner : PlacementTable → ActorKey → Option HostInfo) (part_of : ActorKey → ℕ → ℕ) (n0 : ℕ) (marks more : List TraceMark) (m : Member) (k : ActorKey) (u : ℕ) → HadActive owner part_of n0 marks m k u → HadActive owner part_of n0 (marks ++ more) m k u
had_longer owner part_of n0 marks more m k u h =
    record { before = h.before; after = h.after ++ more; place = ap (λ (l : List TraceMark). l ++ more) h.place ∙ append_assoc h.before h.after more; active = h.active; opened = h.opened }

module _ (part_of : ActorKey → ℕ → ℕ) (n0 : ℕ) where
  pub record FitsOpenings (ps : List PartState) (marks : List TraceMark) : Type 0 where
    pub opened : (i : ℕ) (p : PartState) → slice_get ps i ≡ Some p → opened_version_at marks p.member p.number 0 ≡ p.opened
    pub never : (m : Member) (i : ℕ) → ((j : ℕ) (p : PartState) → slice_get ps j ≡ Some p → p.member ≡ m → p.number ≡ i → ⊥) → opened_version_at marks m i 0 ≡ 0

  module _ (owner : PlacementTable → ActorKey → Option HostInfo) (ms : List Message) (ps : List PartState) (marks : List TraceMark) (fits : FitsHistory part_of n0 ps marks) (fo : FitsOpenings ps marks)
      (n : ℕ) (p q : PartState) (at : slice_get ps n ≡ Some p) (e : PartEvent) (xs : List PartMark) (asked : (k : ActorKey) → IsAsked e k → part_of k n0 ≡ p.number)
      (st : Stepped owner p e q) (r : Replays e p q xs) where
    abbrev changed : List PartState
    changed = set ps n q

    opens_mine : opens xs p.number p.opened ≡ q.opened
    opens_mine = elim r.at [
      | inl h ↦ opens-at xs p.number p.opened q.opened h.0 ∙ sym h.1
      | inr h ↦ ap (λ (l : List PartMark). opens l p.number p.opened) h.1 ∙ opens-at h.0 p.number _ q.opened h.2 ∙ cond-true (p.number == p.number) _ _ (eq-eqb p.number p.number refl)
    ]

    -- a prefix of the marks changes nothing about another part's opening
    opens_away : (ys zs : List PartMark) → xs ≡ ys ++ zs → (i v : ℕ) → (i ≡ p.number → ⊥) → opens ys i v ≡ v
    opens_away ys zs s i v ne = elim r.at [
      | inl h ↦ opens-at ys i v q.opened (at_front q.opened ys zs (subst (AreAt q.opened) s h.0))
      | inr h ↦ go ys (sym s ∙ h.1) h.2
    ]
      where
        go : (ys : List PartMark) {rest : List PartMark} → ys ++ zs ≡ PartOpened p.number q.opened ∷ rest → AreAt q.opened rest → opens ys i v ≡ v
        go [] f a = refl
        go (y ∷ ys) {rest} f a =
            let b : y ≡ PartOpened p.number q.opened = cc in
            let c : ys ++ zs ≡ rest = cc in
            ap (λ (z : PartMark). opens ys i (opened_at z i v)) b ∙ opens-at ys i _ q.opened (at_front q.opened ys zs (subst (AreAt q.opened) (sym c) a)) ∙ cond-false (i == p.number) _ _ (ne_eqb i p.number ne)

    whole : xs ≡ xs ++ []
    whole = sym (append_nil xs)

    tagged_opens : (m : Member) (i v : ℕ) → (m ≡ p.member → i ≡ p.number → ⊥) → opened_version_at (tagged p.member xs) m i v ≡ v
    tagged_opens m i v away = elim (cases_Bool (same_member m p.member)) [
      | inl t ↦ opened-mine xs m p.member i v t ∙ opens_away xs [] whole i v (away (same_member-true m p.member t))
      | inr f ↦ opened-others xs m p.member i v f
    ]

    pub openings_step : FitsOpenings changed (marks ++ tagged p.member xs)
    openings_step =
        record {
          opened = λ i x g. elim (get-set ps n i q x p at g) [
            | inl s ↦ (
                let m : x.member ≡ p.member = ap (λ (z : PartState). z.member) s.1 ∙ st.member in
                let l : x.number ≡ p.number = ap (λ (z : PartState). z.number) s.1 ∙ st.number in
                opened_version_at-append marks (tagged p.member xs) x.member x.number 0
                ∙ opened-mine xs x.member p.member x.number _ (subst (λ (z : Member). same_member z p.member ≡ true) (sym m) (same_member-self p.member))
                ∙ ap (λ (z : Member). opens xs x.number (opened_version_at marks z x.number 0)) m
                ∙ ap (λ (z : ℕ). opens xs z (opened_version_at marks p.member z 0)) l
                ∙ ap (opens xs p.number) (fo.opened n p at)
                ∙ opens_mine
                ∙ ap (λ (z : PartState). z.opened) (sym s.1))
            | inr s ↦
                opened_version_at-append marks (tagged p.member xs) x.member x.number 0
                ∙ tagged_opens x.member x.number _ (λ a b. s.0 (fits.apart i n x p s.1 at a b))
                ∙ fo.opened i x s.1
          ];
          never = λ m i away.
              let old : (j : ℕ) (y : PartState) → slice_get ps j ≡ Some y → y.member ≡ m → y.number ≡ i → ⊥ = λ j y g a b. (let x = after_at part_of n0 owner ps marks fits n p q at e xs asked st r j y g in away j x.0 x.1 (x.2 ∙ a) (x.3 ∙ b)) in
              opened_version_at-append marks (tagged p.member xs) m i 0 ∙ tagged_opens m i _ (λ a b. old n p at (sym a) (sym b)) ∙ fo.never m i old;
        }

    -- ---- what was given

    module _ (boots : ℕ) (sound : IsPartBacked owner ms boots p) (kept : IsPartBacked owner ms boots q) where
      given_by : (x : PartState) → IsPartBacked owner ms boots x → (k : ActorKey) (c : ActorCell) → In c x.cells → c.key ≡ k → c.active ≡ true → WasGiven owner part_of n0 ms x.member k x.opened
      given_by x s k c i h a = let o = s.owned c i a in (o.1.0, o.1.1, s.unlock_came o.0, o.1.2, subst (λ (z : ActorKey). Gives owner o.1.0 z x.member) h o.1.3)

      given_p : (k : ActorKey) → (activity_of (cell_at p.cells k)).active ≡ true → WasGiven owner part_of n0 ms p.member k p.opened
      given_p k a = let c = seen_active part_of n0 owner ps marks fits n p q at e xs asked st r p.cells k a in given_by p sound k c.0 c.1 c.2 c.3

      given_q : (k : ActorKey) → (activity_of (cell_at q.cells k)).active ≡ true → WasGiven owner part_of n0 ms p.member k q.opened
      given_q k a =
          let c = seen_active part_of n0 owner ps marks fits n p q at e xs asked st r q.cells k a in
          subst (λ (z : Member). WasGiven owner part_of n0 ms z k q.opened) st.member (given_by q kept k c.0 c.1 c.2 c.3)

      active_q : (k : ActorKey) (v : ℕ) (ys zs : List PartMark) → xs ≡ ys ++ BecameActive k v ∷ zs → (activity_of (cell_at q.cells k)).active ≡ true
      active_q k v ys zs s =
          let word = tidy_split ys (BecameActive k v) zs (subst AreTidy s r.tidy) in
          ap (λ (z : Activity). z.active) (last_seen part_of n0 owner ps marks fits n p q at e xs asked st r k ys zs (BecameActive k v) s (same_key-self k))
          ∙ still_active zs k (after_mark (BecameActive k v) (replay ys k (activity_of (cell_at p.cells k)))) refl word

      became_q : (k : ActorKey) (ys zs : List PartMark) → xs ≡ ys ++ zs → ((v : ℕ) × (front : List PartMark) × (back : List PartMark) × (ys ≡ front ++ BecameActive k v ∷ back)) → (activity_of (cell_at q.cells k)).active ≡ true
      became_q k ys zs s b = active_q k b.0 b.1 (b.2 ++ zs) (s ∙ ap (λ (l : List PartMark). l ++ zs) b.3 ∙ append_assoc b.1 (BecameActive k b.0 ∷ b.2) zs)

      -- in the middle of the step, for an actor of this part
      given_mid : (k : ActorKey) (ys zs : List PartMark) → xs ≡ ys ++ zs → (replay ys k (activity_of (cell_at p.cells k))).active ≡ true → WasGiven owner part_of n0 ms p.member k (opens ys p.number p.opened)
      given_mid k ys zs s a = elim r.at [
        | inl h ↦ (
            let o : opens ys p.number p.opened ≡ p.opened = opens-at ys p.number p.opened q.opened (at_front q.opened ys zs (subst (AreAt q.opened) s h.0)) in
            subst (WasGiven owner part_of n0 ms p.member k) (sym o) (elim (became ys k _ a) [
              | inl b ↦ given_p k b
              | inr b ↦ subst (WasGiven owner part_of n0 ms p.member k) h.1 (given_q k (became_q k ys zs s b))
            ]))
        | inr h ↦ go ys s a (sym s ∙ h.1) h.2 h.3
      ]
        where
          go : (ys : List PartMark) {rest : List PartMark} → xs ≡ ys ++ zs → (replay ys k (activity_of (cell_at p.cells k))).active ≡ true → ys ++ zs ≡ PartOpened p.number q.opened ∷ rest → AreAt q.opened rest → AreCalm rest →
              WasGiven owner part_of n0 ms p.member k (opens ys p.number p.opened)
          go [] s a f b calm = given_p k a
          go (y ∷ ys) {rest} s a f b calm =
              let first : y ≡ PartOpened p.number q.opened = cc in
              let c : ys ++ zs ≡ rest = cc in
              let o : opens (y ∷ ys) p.number p.opened ≡ q.opened =
              ap (λ (z : PartMark). opens ys p.number (opened_at z p.number p.opened)) first
              ∙ opens-at ys p.number _ q.opened (at_front q.opened ys zs (subst (AreAt q.opened) (sym c) b)) ∙ cond-true (p.number == p.number) _ _ (eq-eqb p.number p.number refl) in
              subst (WasGiven owner part_of n0 ms p.member k) (sym o) (elim (became (y ∷ ys) k (activity_of (cell_at p.cells k)) a) [
                | inl h ↦ given_q k (
                    ap (λ (z : Activity). z.active) (r.activity k ∙ ap (λ (l : List PartMark). replay l k (activity_of (cell_at p.cells k))) (s ∙ f))
                    ∙ still_active rest k (activity_of (cell_at p.cells k)) h (λ x i g. calm x k i g))
                | inr h ↦ given_q k (became_q k (y ∷ ys) zs s h)
              ])

      pub given_step : AreGiven owner part_of n0 ms marks → AreGiven owner part_of n0 ms (marks ++ tagged p.member xs)
      given_step given m k u h = elim (split_two marks (tagged p.member xs) h.before h.after h.place) [
        | inl f ↦ given m k u (record { before = h.before; after = f.0; place = f.1; active = h.active; opened = h.opened })
        | inr f ↦ (
            let g = split_marks p.member xs f.0 h.after f.2 in
            let b : h.before ≡ marks ++ tagged p.member g.0 = f.1 ∙ ap (λ (l : List TraceMark). marks ++ l) g.2 in
            let hist : history h.before m k no_activity ≡ history (tagged p.member g.0) m k (history marks m k no_activity) = ap (λ (l : List TraceMark). history l m k no_activity) b ∙ history-append marks (tagged p.member g.0) m k no_activity in
            let open' : opened_version_at h.before m (part_of k n0) 0 ≡ opened_version_at (tagged p.member g.0) m (part_of k n0) (opened_version_at marks m (part_of k n0) 0) = ap (λ (l : List TraceMark). opened_version_at l m (part_of k n0) 0) b ∙ opened_version_at-append marks (tagged p.member g.0) m (part_of k n0) 0 in
            let same : history (tagged p.member g.0) m k (history marks m k no_activity) ≡ history marks m k no_activity → opened_version_at (tagged p.member g.0) m (part_of k n0) (opened_version_at marks m (part_of k n0) 0) ≡ opened_version_at marks m (part_of k n0) 0 → WasGiven owner part_of n0 ms m k u =
            λ x y. given m k u (record { before = marks; after = []; place = sym (append_nil marks); active = ap (λ (z : Activity). z.active) (sym (hist ∙ x)) ∙ h.active; opened = sym (open' ∙ y) ∙ h.opened }) in
            elim (cases_Bool (same_member m p.member)) [
              | inr t ↦ same (history-others g.0 m p.member k _ t) (opened-others g.0 m p.member (part_of k n0) _ t)
              | inl t ↦ elim (cases_eq (part_of k n0) p.number) [
                | inr ne ↦ same
                    (history-mine g.0 m p.member k _ t ∙ unmarked g.0 k _ (λ y i. not_marked part_of n0 owner ps marks fits n p q at e xs asked st r k ne y (subst (In y) (sym g.3) (In-left g.0 g.1 y i))))
                    (opened-mine g.0 m p.member (part_of k n0) _ t ∙ opens_away g.0 g.1 g.3 (part_of k n0) _ ne)
                | inl home ↦ (
                    let me = same_member-true m p.member t in
                    let seen : history h.before m k no_activity ≡ replay g.0 k (activity_of (cell_at p.cells k)) =
                    hist ∙ history-mine g.0 m p.member k _ t ∙ ap (λ (z : Member). replay g.0 k (history marks z k no_activity)) me ∙ ap (replay g.0 k) (fits.here n p at k home) in
                    let o : opened_version_at h.before m (part_of k n0) 0 ≡ opens g.0 p.number p.opened =
                    open' ∙ opened-mine g.0 m p.member (part_of k n0) _ t ∙ ap (λ (z : Member). opens g.0 (part_of k n0) (opened_version_at marks z (part_of k n0) 0)) me
                    ∙ ap (λ (z : ℕ). opens g.0 z (opened_version_at marks p.member z 0)) home ∙ ap (opens g.0 p.number) (fo.opened n p at) in
                    subst (λ (z : Member). WasGiven owner part_of n0 ms z k u) (sym me)
                    (subst (WasGiven owner part_of n0 ms p.member k) (sym o ∙ h.opened) (given_mid k g.0 g.1 g.3 (ap (λ (z : Activity). z.active) (sym seen) ∙ h.active))))
              ]
            ])
      ]

      pub rise_step : (keeps : KeepsToSpace owner) → AreSpacesApart owner keeps ms changed →
          AreGiven owner part_of n0 ms (marks ++ tagged p.member xs) → DoVersionsRise owner part_of n0 marks → DoVersionsRise owner part_of n0 (marks ++ tagged p.member xs)
      rise_step keeps s given rise before after m n' k u v same had ne = elim (split_append marks (tagged p.member xs) before after _ same) [
        | inl f ↦ rise before f.0 m n' k u v f.1 had ne
        | inr f ↦ (
            let g = split_tagged p.member xs f.0 after (record { member = n'; what = BecameActive k v }) f.2 in
            let w = given m k u (subst (λ (l : List TraceMark). HadActive owner part_of n0 l m k u) (sym same) (had_longer owner part_of n0 before _ m k u had)) in
            let version : v ≡ q.opened = elim r.at [
              | inl h ↦ at_middle q.opened g.0 g.1 (BecameActive k v) (subst (AreAt q.opened) g.3 h.0)
              | inr h ↦ go g.0 g.1 (sym g.3 ∙ h.1) h.2
            ] in
            let a = active_q k v g.0 g.1 g.3 in
            let c = seen_active part_of n0 owner ps marks fits n p q at e xs asked st r q.cells k a in
            let there = In-slice_get changed n q (get-set_same ps n q p at) in
            let me : q.member ≡ n' = st.member ∙ sym g.4 in
            let other : Gives owner w.0 k q.member → ⊥ = λ h. ne (one_owner m q.member (owner w.0 k) w.4 h ∙ me) in
            let o = kept.owned c.0 c.1 c.3 in
            let near : m.space ≡ q.member.space = sym (s.given m w.0 k w.1 w.4) ∙ ap (λ (z : ActorKey). z.space) (sym c.2) ∙ s.given q.member o.1.0 c.0.key o.1.1 o.1.3 in
            elim (cases_order u v) [
              | inl x ↦ (
                  let t = s.one_table m q.member w.0 o.1.0 near w.1 o.1.1 (w.3 ∙ x ∙ version ∙ sym o.1.2) in
                  absurd (other (subst (λ (z : PlacementTable). Gives owner z k q.member) (sym t) (subst (λ (z : ActorKey). Gives owner o.1.0 z q.member) c.2 o.1.3))))
              | inr x ↦ elim x [
                | inl y ↦ y
                | inr y ↦ absurd (other (subst (λ (z : ActorKey). Gives owner w.0 z q.member) c.2 (s.owned u q c.0 m near w.2 there c.1 c.3 (subst (λ (z : ℕ). z < u) version y) w.0 w.1 w.3)))
              ]
            ])
      ]
        where
          go : (ys : List PartMark) (zs : List PartMark) {rest : List PartMark} → ys ++ BecameActive k v ∷ zs ≡ PartOpened p.number q.opened ∷ rest → AreAt q.opened rest → v ≡ q.opened
          go [] zs f b = absurd (cc)
          go (y ∷ ys) zs {rest} f b = (let c : ys ++ BecameActive k v ∷ zs ≡ rest = cc in at_middle q.opened ys zs (BecameActive k v) (subst (AreAt q.opened) (sym c) b))
