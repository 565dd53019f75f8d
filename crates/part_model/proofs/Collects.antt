-- What an acknowledgement collected from receipts guarantees: each part has reached it.
use Rattle.std.proofs.Common.{◌≡◌, ◌⊎◌, ◌<◌, ◌≤◌, ◌+◌, ℕ, Bool, true, false, List, [], ◌∷◌, Option, None, Some, refl, sym, ap, ◌∙◌, subst, inl, inr, arith}
use Rattle.std.specs.Prelude.{nat_lt, ◌==◌}
use Rattle.std.proofs.lemmas.Bool.{and_parts, eqb-true, ltb-true, ltb-false, cond_both, cond-false, false≢true, true≢false, eq-eqb, cases_Bool, cases_order, lt-ltb, ne_eqb}
use Rattle.actor_names.specs.declared.actor_key.ActorKey.{ActorKey}
use Rattle.place_table.specs.declared.host.HostInfo.{HostInfo}
use Rattle.place_table.specs.declared.ack_stage.AckStage.{AckStage}
use Rattle.place_table.specs.declared.ack_stage.AckStage.TheVariants as stages
use Rattle.place_table.specs.Hosts.{PlacementTable}
use Rattle.turn_core.specs.CellSound.{In}
use Rattle.part_model.specs.declared.stage.SeenStage.{SeenStage}
use Rattle.part_model.specs.declared.stage.SeenStage.TheVariants as seen
use Rattle.part_model.specs.declared.stage.Stage.{Stage}
use Rattle.part_model.specs.declared.stage.Stage.TheVariants.{Locked, Updated, Open, Stopped}
use Rattle.part_model.specs.Part.{PartState, is_drained, is_own, is_owned_by, seen_stage, receipt_of}
use Rattle.part_model.specs.Sound.{OwnsActive}
use Rattle.part_model.specs.Receipts.{ReceiptState}
use Rattle.part_model.specs.declared.event.PartEvent.{PartEvent}
use Rattle.part_model.specs.declared.event.PartEvent.TheVariants as events
use Rattle.part_model.specs.PartMoves.{keeps, locks, updates, opens, stops, Stepped}
use Rattle.part_model.proofs.PartLaws.{truly_drained}
use Rattle.part_model.specs.declared.ack.Ack.{Ack}
use Rattle.part_model.specs.Acks.{shown_stage, stage_rank, shown_ack, ack_of, is_as_far, lesser_ack, lesser_of, least_ack, above_zero, collected, is_stopped_stage, are_stopped, Shows}
use Rattle.part_model.specs.Progress.{HasStage, PartReached}

-- ---- the order of acknowledgements

pub as_far_parts : (a b : Ack) → is_as_far a b ≡ true → (b.version < a.version) ⊎ ((a.version ≡ b.version) × (stage_rank b.stage ≤ stage_rank a.stage))
as_far_parts a b =
    cond_both (a.version == b.version) _ _ (λ (r : Bool). r ≡ true → (b.version < a.version) ⊎ ((a.version ≡ b.version) × (stage_rank b.stage ≤ stage_rank a.stage)))
    (λ e l. inr (eqb-true a.version b.version e, (let h = ltb-true (stage_rank b.stage) (stage_rank a.stage + 1) l in omega arith)))
    (λ _ l. inl (ltb-true b.version a.version l))

pub as_far_from : (a b : Ack) → (b.version < a.version) ⊎ ((a.version ≡ b.version) × (stage_rank b.stage ≤ stage_rank a.stage)) → is_as_far a b ≡ true
as_far_from a b h =
    cond_both (a.version == b.version) _ _ (λ (r : Bool). r ≡ true)
    (λ e. lt-ltb (stage_rank b.stage) (stage_rank a.stage + 1) (let k = eqb-true a.version b.version e in elim h [ inl l ↦ absurd (omega arith) | inr l ↦ (let m = l.1 in omega arith) ]))
    (λ n. lt-ltb b.version a.version (elim h [ inl l ↦ l | inr l ↦ absurd (true≢false (sym (eq-eqb a.version b.version l.0) ∙ n)) ]))

pub as_far_self : (a : Ack) → is_as_far a a ≡ true
as_far_self a = as_far_from a a (inr (refl, omega arith))

pub as_far_over : (a b c : Ack) → is_as_far a b ≡ true → is_as_far b c ≡ true → is_as_far a c ≡ true
as_far_over a b c h k =
    as_far_from a c (elim (as_far_parts a b h) [
      | inl l ↦ elim (as_far_parts b c k) [ inl m ↦ inl (omega arith) | inr m ↦ (let e = m.0 in inl (omega arith)) ]
      | inr l ↦ elim (as_far_parts b c k) [
        | inl m ↦ (let e = l.0 in inl (omega arith))
        | inr m ↦ (let x = l.1 in let y = m.1 in inr (l.0 ∙ m.0, omega arith))
      ]
    ])

-- one of two is at least as far as the other
as_far_other : (a b : Ack) → is_as_far a b ≡ false → is_as_far b a ≡ true
as_far_other a b f =
    as_far_from b a (elim (cases_order a.version b.version) [
      | inl e ↦ inr (sym e, rest e (cases_Bool (nat_lt (stage_rank b.stage) (stage_rank a.stage + 1))))
      | inr h ↦ elim h [
        | inl l ↦ inl l
        | inr l ↦ absurd (true≢false (sym (as_far_from a b (inl l)) ∙ f))
      ]
    ])
  where
    rest : a.version ≡ b.version → (nat_lt (stage_rank b.stage) (stage_rank a.stage + 1) ≡ true) ⊎ (nat_lt (stage_rank b.stage) (stage_rank a.stage + 1) ≡ false) → stage_rank a.stage ≤ stage_rank b.stage
    rest e (inl t) = (let h = ltb-true (stage_rank b.stage) (stage_rank a.stage + 1) t in absurd (true≢false (sym (as_far_from a b (inr (e, omega arith))) ∙ f)))
    rest e (inr t) = (let h = ltb-false (stage_rank b.stage) (stage_rank a.stage + 1) t in omega arith)

lesser_first : (a b : Ack) → is_as_far a (lesser_ack a b) ≡ true
lesser_first a b = cond_both (is_as_far b a) _ _ (λ (r : Ack). is_as_far a r ≡ true) (λ _. as_far_self a) (λ f. as_far_other b a f)

lesser_second : (a b : Ack) → is_as_far b (lesser_ack a b) ≡ true
lesser_second a b = cond_both (is_as_far b a) _ _ (λ (r : Ack). is_as_far b r ≡ true) (λ t. t) (λ _. as_far_self b)

lesser_least : (a b c : Ack) → is_as_far a c ≡ true → is_as_far b c ≡ true → is_as_far (lesser_ack a b) c ≡ true
lesser_least a b c h k = cond_both (is_as_far b a) _ _ (λ (r : Ack). is_as_far r c ≡ true) (λ _. h) (λ _. k)

-- ---- the least of what receipts show

least_none : (rs : List ReceiptState) → least_ack None rs ≡ None
least_none [] = refl
least_none (r ∷ rs) = least_none rs

some_ack : (a b : Ack) → Some a ≡ Some b → a ≡ b
some_ack a b e = cc

none_ack : (a : Ack) → ◌≡◌ {A = Option Ack} None (Some a) → ⊥
none_ack a e = cc

least_shown : (a b : Ack) (rs : List ReceiptState) → least_ack (Some a) rs ≡ Some b → (is_as_far a b ≡ true) × ((r : ReceiptState) → In r rs → Shows r b)
least_shown a b [] e = (subst (λ (z : Ack). is_as_far a z ≡ true) (some_ack a b e) (as_far_self a), λ r i. absurd i)
least_shown a b (r ∷ rs) e = go (λ c. least_shown c b rs) (ack_of r) refl e
  where
    go : ((c : Ack) → least_ack (Some c) rs ≡ Some b → (is_as_far c b ≡ true) × ((q : ReceiptState) → In q rs → Shows q b)) →
        (o : Option Ack) → ack_of r ≡ o → least_ack (lesser_of (Some a) o) rs ≡ Some b → (is_as_far a b ≡ true) × ((q : ReceiptState) → In q (r ∷ rs) → Shows q b)
    go more None f g = absurd (none_ack b (sym (least_none rs) ∙ g))
    go more (Some c) f g =
        let h = more (lesser_ack a c) g in (
          as_far_over a (lesser_ack a c) b (lesser_first a c) h.0,
          λ q. elim [
            | inl same ↦ (c, ap ack_of same ∙ f, as_far_over c (lesser_ack a c) b (lesser_second a c) h.0)
            | inr i ↦ h.1 q i
          ],
        )

least_greatest : (a c : Ack) (rs : List ReceiptState) → is_as_far a c ≡ true → ((r : ReceiptState) → In r rs → Shows r c) → (b : Ack) × (least_ack (Some a) rs ≡ Some b) × (is_as_far b c ≡ true)
least_greatest a c [] h shows = (a, refl, h)
least_greatest a c (r ∷ rs) h shows =
    let s = shows r (inl refl) in
    let k = least_greatest (lesser_ack a s.0) c rs (lesser_least a s.0 c h s.2) (λ q i. shows q (inr i)) in
    (k.0, ap (λ (o : Option Ack). least_ack (lesser_of (Some a) o) rs) s.1 ∙ k.1, k.2)

above : (o : Option Ack) (b : Ack) → above_zero o ≡ Some b → (o ≡ Some b) × (0 < b.version)
above None b e = absurd (none_ack b e)
above (Some a) b e =
    cond_both (a.version == 0) _ _ (λ (r : Option Ack). r ≡ Some b → (Some a ≡ Some b) × (0 < b.version))
    (λ _ g. absurd (none_ack b g))
    (λ f g. (g, subst (λ (z : Ack). 0 < z.version) (some_ack a b g) (positive a.version f))) e
  where
    positive : (n : ℕ) → (n == 0) ≡ false → 0 < n
    positive n f = elim (cases_order 0 n) [ inl z ↦ absurd (true≢false (sym (eq-eqb n 0 (sym z)) ∙ f)) | inr h ↦ elim h [ inl l ↦ l | inr l ↦ absurd (omega arith) ] ]

-- an acknowledgement is shown by each receipt, at a version above 0
pub collected_shown : (rs : List ReceiptState) (a : Ack) → collected rs ≡ Some a → (0 < a.version) × ((r : ReceiptState) → In r rs → Shows r a)
collected_shown [] a e = absurd (none_ack a e)
collected_shown (r ∷ rs) a e = go (ack_of r) refl (above (least_ack (ack_of r) rs) a e)
  where
    go : (o : Option Ack) → ack_of r ≡ o → (least_ack o rs ≡ Some a) × (0 < a.version) → (0 < a.version) × ((q : ReceiptState) → In q (r ∷ rs) → Shows q a)
    go None f g = absurd (none_ack a (sym (least_none rs) ∙ g.0))
    go (Some b) f g =
        let h = least_shown b a rs g.0 in
        (g.1, λ q. elim [ inl same ↦ (b, ap ack_of same ∙ f, h.0) | inr i ↦ h.1 q i ])

-- and it is the greatest such
pub collected_greatest : (rs : List ReceiptState) (a : Ack) → (rs ≡ [] → ⊥) → 0 < a.version → ((r : ReceiptState) → In r rs → Shows r a) → (b : Ack) × (collected rs ≡ Some b) × (is_as_far b a ≡ true)
collected_greatest [] a some l shows = absurd (some refl)
collected_greatest (r ∷ rs) a some l shows =
    let s = shows r (inl refl) in
    let k = least_greatest s.0 a rs s.2 (λ q i. shows q (inr i)) in
    let v : 0 < k.0.version = elim (as_far_parts k.0 a k.2) [ inl h ↦ omega arith | inr h ↦ (let e = h.0 in omega arith) ] in
    (k.0, ap (λ (o : Option Ack). above_zero (least_ack o rs)) s.1 ∙ ap above_zero k.1 ∙ cond-false (k.0.version == 0) _ _ (not_zero k.0.version v), k.2)
  where
    not_zero : (n : ℕ) → 0 < n → (n == 0) ≡ false
    not_zero n l = ne_eqb n 0 (λ e. omega arith)

-- ---- what a receipt shows of its part

module _ (owner : PlacementTable → ActorKey → Option HostInfo) where
  has_less : (s t : AckStage) (p : PartState) → stage_rank t ≤ stage_rank s → HasStage owner s p → HasStage owner t p
  has_less s stages.Lock p l h = tt
  has_less stages.Lock stages.Update p l h = absurd (omega arith)
  has_less stages.Update stages.Update p l h = h
  has_less stages.Unlock stages.Update p l h = inr h
  has_less stages.Lock stages.Unlock p l h = absurd (omega arith)
  has_less stages.Update stages.Unlock p l h = absurd (omega arith)
  has_less stages.Unlock stages.Unlock p l h = h

  pub reached_less : (a b : Ack) (p : PartState) → is_as_far a b ≡ true → PartReached owner a.stage a.version p → PartReached owner b.stage b.version p
  reached_less a b p f (inl h) = inl (elim (as_far_parts a b f) [ inl l ↦ omega arith | inr l ↦ (let e = l.0 in omega arith) ])
  reached_less a b p f (inr h) = elim (as_far_parts a b f) [
    | inl l ↦ inl (let e = h.0 in omega arith)
    | inr l ↦ inr (h.0 ∙ l.0, has_less a.stage b.stage p l.1 h.1)
  ]

  shown_here : (p : PartState) (s : SeenStage) → seen_stage owner p p.stage ≡ s → (t : AckStage) → shown_stage s ≡ Some t → HasStage owner t p
  shown_here p s e stages.Lock f = tt
  shown_here p seen.Locked e stages.Update f = absurd (cc)
  shown_here p seen.Draining e stages.Update f = absurd (cc)
  shown_here p seen.Drained e stages.Update f = (let d = truly_drained owner p p.stage refl e in inl (d.updated, d.owns))
  shown_here p seen.Open e stages.Update f = absurd (cc)
  shown_here p seen.Stopped e stages.Update f = absurd (cc)
  shown_here p seen.Locked e stages.Unlock f = absurd (cc)
  shown_here p seen.Draining e stages.Unlock f = absurd (cc)
  shown_here p seen.Drained e stages.Unlock f = absurd (cc)
  shown_here p seen.Open e stages.Unlock f = open_told p p.stage refl e
    where
      open_told : (p : PartState) (s : Stage) → p.stage ≡ s → seen_stage owner p s ≡ seen.Open → p.stage ≡ Open
      open_told p Locked g k = absurd (cc)
      open_told p Updated g k = cond_both (is_drained owner p) _ _ (λ (r : SeenStage). r ≡ seen.Open → p.stage ≡ Open) (λ _ q. absurd (cc)) (λ _ q. absurd (cc)) k
      open_told p Open g k = g
      open_told p Stopped g k = absurd (cc)
  shown_here p seen.Stopped e stages.Unlock f = absurd (cc)

  shown_reached : (p : PartState) (a : Ack) → ack_of (receipt_of owner p) ≡ Some a → PartReached owner a.stage a.version p
  shown_reached p a e = go (shown_stage (seen_stage owner p p.stage)) refl e
    where
      go : (o : Option AckStage) → shown_stage (seen_stage owner p p.stage) ≡ o → shown_ack (receipt_of owner p) o ≡ Some a → PartReached owner a.stage a.version p
      go None f g = absurd (none_ack a g)
      go (Some s) f g =
          subst (λ (z : Ack). PartReached owner z.stage z.version p) (some_ack (record { stage = s; version = p.seen }) a g) (inr (refl, shown_here p (seen_stage owner p p.stage) refl s f))

  -- what a receipt of a part shows, the part has reached
  pub shows_reached : (p : PartState) (a : Ack) → Shows (receipt_of owner p) a → PartReached owner a.stage a.version p
  shows_reached p a s = reached_less s.0 a p s.2 (shown_reached p s.0 s.1)

  -- an acknowledgement of receipts says what each of their parts has reached
  pub collected_reached : (rs : List ReceiptState) (a : Ack) → collected rs ≡ Some a → (p : PartState) → In (receipt_of owner p) rs → PartReached owner a.stage a.version p
  collected_reached rs a e p i = shows_reached p a ((collected_shown rs a e).1 (receipt_of owner p) i)

  stopped_told : (p : PartState) (s : Stage) → p.stage ≡ s → is_stopped_stage (seen_stage owner p s) ≡ true → p.stage ≡ Stopped
  stopped_told p Locked e t = absurd (false≢true t)
  stopped_told p Updated e t = cond_both (is_drained owner p) _ _ (λ (r : SeenStage). is_stopped_stage r ≡ true → p.stage ≡ Stopped) (λ _ q. absurd (false≢true q)) (λ _ q. absurd (false≢true q)) t
  stopped_told p Open e t = absurd (false≢true t)
  stopped_told p Stopped e t = e

  are_stopped-In : (rs : List ReceiptState) → are_stopped rs ≡ true → (r : ReceiptState) → In r rs → is_stopped_stage r.stage ≡ true
  are_stopped-In [] e r i = absurd i
  are_stopped-In (q ∷ rs) e r (inl same) = (let h = and_parts (is_stopped_stage q.stage) (are_stopped rs) e in ap (λ (z : ReceiptState). is_stopped_stage z.stage) same ∙ h.0)
  are_stopped-In (q ∷ rs) e r (inr i) = are_stopped-In rs (and_parts (is_stopped_stage q.stage) (are_stopped rs) e).1 r i

  -- if all receipts are of stopped parts, each of their parts has stopped
  pub stopped_receipts : (rs : List ReceiptState) → are_stopped rs ≡ true → (p : PartState) → In (receipt_of owner p) rs → p.stage ≡ Stopped
  stopped_receipts rs e p i = stopped_told p p.stage refl (are_stopped-In rs e (receipt_of owner p) i)

  -- ---- what a step of a part keeps

  had_own : (p q : PartState) (e : PartEvent) → Stepped owner p e q → q.table ≡ p.table → (q.stage ≡ Open → ⊥) → OwnsActive owner p → OwnsActive owner q
  had_own p q e s table closed owns c i a =
      let m = s.member in
      elim (s.active c i a) [
        | inl had ↦
            let was : is_own owner p c.key ≡ true = subst (λ (k : ActorKey). is_own owner p k ≡ true) had.3 (owns had.0 had.1 had.2) in
            let same : is_own owner q c.key ≡ is_own owner p c.key = λ j. is_owned_by (m j) (owner (table j) c.key) in
            same ∙ was
        | inr now ↦ absurd (closed now.0)
      ]

  -- each step but StopPart keeps what the part had reached
  pub step_reached : (p q : PartState) (e : PartEvent) (s : AckStage) (v : ℕ) → Stepped owner p e q → PartReached owner s v p → ((e ≡ events.StopPart) × (q.stage ≡ Stopped)) ⊎ PartReached owner s v q
  step_reached p q e s v st (inl l) = elim st.moves [
    | keeps a b c d ↦ inr (inl (omega arith))
    | locks a b c d f ↦ inr (inl (omega arith))
    | updates a b c d f g ↦ inr (inl (omega arith))
    | opens a b c d f g h ↦ inr (inl (omega arith))
    | stops a b c d f g ↦ inl (g, a)
  ]
  step_reached p q e s v st (inr h) = elim st.moves [
    | keeps a b c d ↦ inr (inr (b ∙ h.0, kept s a d h.1))
    | locks a b c d f ↦ inr (inl (let k = h.0 in omega arith))
    | updates a b c d f g ↦ inr (inr (c ∙ h.0, updated s a h.1))
    | opens a b c d f g i ↦ inr (inr (d ∙ h.0, opened s c))
    | stops a b c d f g ↦ inl (g, a)
  ]
    where
      kept : (s : AckStage) → q.stage ≡ p.stage → q.table ≡ p.table → HasStage owner s p → HasStage owner s q
      kept stages.Lock a t k = tt
      kept stages.Update a t k = elim k [
        | inl u ↦ inl (a ∙ u.0, had_own p q e st t (λ o. (let w = sym (a ∙ u.0) ∙ o in cc)) u.1)
        | inr o ↦ inr (a ∙ o)
      ]
      kept stages.Unlock a t k = a ∙ k

      updated : (s : AckStage) → p.stage ≡ Locked → HasStage owner s p → HasStage owner s q
      updated stages.Lock a k = tt
      updated stages.Update a k = elim k [ inl u ↦ absurd (let w = sym a ∙ u.0 in cc) | inr o ↦ absurd (let w = sym a ∙ o in cc) ]
      updated stages.Unlock a k = absurd (let w = sym a ∙ k in cc)

      opened : (s : AckStage) → q.stage ≡ Open → HasStage owner s q
      opened stages.Lock a = tt
      opened stages.Update a = inr a
      opened stages.Unlock a = a
