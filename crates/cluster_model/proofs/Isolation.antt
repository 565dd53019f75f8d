-- What the marks say between two of them: an actor that became active stays so, and a turn stays open, until a mark
-- says otherwise; so the headline's two sentences follow from what is true at each mark.
use Rattle.std.proofs.Common.{◌≡◌, ◌⊎◌, ℕ, true, cond, ◌+◌, ◌<◌, ◌≤◌, List, [], ◌∷◌, ◌++◌, length, Option, IsSome, refl, sym, ap, ◌∙◌, subst, inl, inr, arith, append_assoc, length-append}
use Rattle.std.specs.Prelude.{◌==◌}
use Rattle.std.proofs.lemmas.Bool.{cond_both, cond-true}
use Rattle.actor_names.specs.declared.member.Member.{Member}
use Rattle.actor_names.specs.declared.actor_key.ActorKey.{ActorKey}
use Rattle.turn_core.specs.declared.cell.Turn.{Turn}
use Rattle.turn_core.specs.Cell.{without_turn}
use Rattle.turn_core.specs.CellMarks.{most_turns}
use Rattle.turn_core.specs.CellSound.{In}
use Rattle.turn_core.proofs.Elements.{In-left, In-last, In-without_turn, In-without_other}
use Rattle.actor_names.specs.Same.{same_key}
use Rattle.part_model.proofs.KeyOrders.{same_key-self, same_key-true}
use Rattle.part_model.specs.Activity.{Activity, no_activity, after_mark, is_mark_of}
use Rattle.actor_names.specs.Same.{same_member}
use Rattle.part_model.specs.Marks.{PartMark, TurnBegan, TurnEnded, BecameActive, BecameInactive, PartOpened}
use Rattle.cluster_model.specs.World.{TraceMark}
use Rattle.cluster_model.specs.History.{history, IsNeverTwice, IsOneChain}
use Rattle.cluster_model.proofs.Basics.{same_member-true, same_member-self}
use Rattle.cluster_model.proofs.Histories.{history-append}

-- what one mark does to an actor's activity on a member
abbrev pub after_trace : TraceMark → Member → ActorKey → Activity → Activity
after_trace x m k a = cond (same_member m x.member) (cond (is_mark_of x.what k) (after_mark x.what a) a) a

not_nil : (x : TraceMark) (m : Member) (k : ActorKey) (a : Activity) (P : Activity → Type 0) → P a → ((same_member m x.member ≡ true) → (is_mark_of x.what k ≡ true) → P (after_mark x.what a)) → P (after_trace x m k a)
not_nil x m k a P old new =
    cond_both (same_member m x.member) _ _ P (λ s. cond_both (is_mark_of x.what k) _ _ P (λ t. new s t) (λ _. old)) (λ _. old)

same_mark : (x : TraceMark) (m : Member) (w : PartMark) → same_member m x.member ≡ true → x.what ≡ w → x ≡ record { member = m; what = w }
same_mark x m w s q = let e = sym (same_member-true m x.member s) in λ i. record { member = e i; what = q i }

-- ---- active actors

mark_active : (x : TraceMark) (m : Member) (k : ActorKey) (a : Activity) → a.active ≡ true → (x ≡ record { member = m; what = BecameInactive k } → ⊥) → (after_trace x m k a).active ≡ true
mark_active x m k a e off = not_nil x m k a (λ z. z.active ≡ true) e (λ s t. go s x.what refl t)
  where
    go : same_member m x.member ≡ true → (w : PartMark) → x.what ≡ w → is_mark_of w k ≡ true → (after_mark w a).active ≡ true
    go s (TurnBegan key call chain) q t = e
    go s (TurnEnded key call) q t = e
    go s (BecameActive key v) q t = refl
    go s (BecameInactive key) q t = absurd (off (same_mark x m (BecameInactive k) s (q ∙ ap BecameInactive (sym (same_key-true k key t)))))
    go s (PartOpened i v) q t = e

stays_active : (xs : List TraceMark) (m : Member) (k : ActorKey) (a : Activity) → a.active ≡ true → (In (record { member = m; what = BecameInactive k }) xs → ⊥) → (history xs m k a).active ≡ true
stays_active [] m k a e off = e
stays_active (x ∷ xs) m k a e off = stays_active xs m k (after_trace x m k a) (mark_active x m k a e (λ q. off (inl (sym q)))) (λ i. off (inr i))

became_active : (m : Member) (k : ActorKey) (u : ℕ) (a : Activity) → (after_trace (record { member = m; what = BecameActive k u }) m k a).active ≡ true
became_active m k u a = ap (λ (z : Activity). z.active) (cond-true (same_member m m) _ _ (same_member-self m) ∙ cond-true (same_key k k) _ _ (same_key-self k))

-- the marks before the second of two
split_second : (marks before middle after : List TraceMark) (x y : TraceMark) → marks ≡ before ++ x ∷ (middle ++ y ∷ after) → marks ≡ (before ++ x ∷ middle) ++ y ∷ after
split_second marks before middle after x y e = e ∙ sym (append_assoc before (x ∷ middle) (y ∷ after))

pub single_activation : (marks : List TraceMark) → IsNeverTwice marks → (before middle after : List TraceMark) (m n : Member) (k : ActorKey) (u v : ℕ) →
    marks ≡ before ++ record { member = m; what = BecameActive k u } ∷ (middle ++ record { member = n; what = BecameActive k v } ∷ after) →
    (In (record { member = m; what = BecameInactive k }) middle → ⊥) → m ≡ n
single_activation marks never before middle after m n k u v e off =
    let x : TraceMark = record { member = m; what = BecameActive k u } in
    never (before ++ x ∷ middle) after m n k v (split_second marks before middle after x _ e)
    (ap (λ (z : Activity). z.active) (history-append before (x ∷ middle) m k no_activity)
    ∙ stays_active middle m k (after_trace x m k (history before m k no_activity)) (became_active m k u (history before m k no_activity)) off)

-- ---- open turns

mark_turn : (x : TraceMark) (m : Member) (k : ActorKey) (a : Activity) (t : Turn) → In t a.turns → (x ≡ record { member = m; what = TurnEnded k t.call } → ⊥) → In t (after_trace x m k a).turns
mark_turn x m k a t i off = not_nil x m k a (λ z. In t z.turns) i (λ s e. go s x.what refl e)
  where
    go : same_member m x.member ≡ true → (w : PartMark) → x.what ≡ w → is_mark_of w k ≡ true → In t (after_mark w a).turns
    go s (TurnBegan key call chain) q e = In-left a.turns _ t i
    go s (TurnEnded key call) q e =
        In-without_other call a.turns t (λ c. off (same_mark x m (TurnEnded k t.call) s (q ∙ ap (λ (z : ActorKey). TurnEnded z call) (sym (same_key-true k key e)) ∙ ap (λ (n : ℕ). TurnEnded k n) c))) i
    go s (BecameActive key v) q e = i
    go s (BecameInactive key) q e = i
    go s (PartOpened j v) q e = i

stays_open : (xs : List TraceMark) (m : Member) (k : ActorKey) (a : Activity) (t : Turn) → In t a.turns → (In (record { member = m; what = TurnEnded k t.call }) xs → ⊥) → In t (history xs m k a).turns
stays_open [] m k a t i off = i
stays_open (x ∷ xs) m k a t i off = stays_open xs m k (after_trace x m k a) t (mark_turn x m k a t i (λ q. off (inl (sym q)))) (λ j. off (inr j))

began_open : (m : Member) (k : ActorKey) (call : ℕ) (chain : Option (List ℕ)) (a : Activity) → In (record { call = call; chain = chain }) (after_trace (record { member = m; what = TurnBegan k call chain }) m k a).turns
began_open m k call chain a =
    subst (λ (z : Activity). In (record { call = call; chain = chain }) z.turns) (sym (cond-true (same_member m m) _ _ (same_member-self m) ∙ cond-true (same_key k k) _ _ (same_key-self k)))
    (In-last a.turns (record { call = call; chain = chain }))

pub overlap_chain : (depth : List ℕ → ℕ) (marks : List TraceMark) → IsOneChain depth marks → (before middle after : List TraceMark) (m n : Member) (k : ActorKey) (a b : ℕ) (x y : Option (List ℕ)) →
    marks ≡ before ++ record { member = m; what = TurnBegan k a x } ∷ (middle ++ record { member = n; what = TurnBegan k b y } ∷ after) →
    (In (record { member = m; what = TurnEnded k a }) middle → ⊥) → (m ≡ n) × (x ≡ y) × IsSome x × (0 < depth k.kind)
overlap_chain depth marks one before middle after m n k a b x y e off =
    let w : TraceMark = record { member = m; what = TurnBegan k a x } in
    let t : Turn = record { call = a; chain = x } in
    let here : In t (history (before ++ w ∷ middle) m k no_activity).turns =
    subst (λ (z : Activity). In t z.turns) (sym (history-append before (w ∷ middle) m k no_activity))
    (stays_open middle m k (after_trace w m k (history before m k no_activity)) t (began_open m k a x (history before m k no_activity)) off) in
    let h = one (before ++ w ∷ middle) after m n k b y (split_second marks before middle after w _ e) t here in
    let l = h.2 in
    (h.0, h.1, subst (λ (z : Option (List ℕ)). IsSome z) (sym (h.1 ∙ h.3.1)) refl, omega arith)

-- ---- how many are open

-- the mark begins a turn of the actor on the member
abbrev Begins : TraceMark → Member → ActorKey → Type 0
Begins x m k = (m ≡ x.member) × ((call : ℕ) × (chain : Option (List ℕ)) × (x.what ≡ TurnBegan k call chain))

turn_before : (x : TraceMark) (m : Member) (k : ActorKey) (a : Activity) (t : Turn) → In t (after_trace x m k a).turns → In t a.turns ⊎ Begins x m k
turn_before x m k a t = not_nil x m k a (λ z. In t z.turns → In t a.turns ⊎ Begins x m k) (λ i. inl i) (λ s e. go s x.what refl e)
  where
    go : same_member m x.member ≡ true → (w : PartMark) → x.what ≡ w → is_mark_of w k ≡ true → In t (after_mark w a).turns → In t a.turns ⊎ Begins x m k
    go s (TurnBegan key call chain) q e i = inr (same_member-true m x.member s, (call, chain, q ∙ ap (λ (z : ActorKey). TurnBegan z call chain) (sym (same_key-true k key e))))
    go s (TurnEnded key call) q e i = inl (In-without_turn call a.turns t i)
    go s (BecameActive key v) q e i = inl i
    go s (BecameInactive key) q e i = inl i
    go s (PartOpened j v) q e i = inl i

fewer : (call : ℕ) (ts : List Turn) → length (without_turn call ts) ≤ length ts
fewer call [] = omega arith
fewer call (t ∷ ts) = let more = fewer call ts in cond_both (call == t.call) _ _ (λ (r : List Turn). length r ≤ length (t ∷ ts)) (λ _. omega arith) (λ _. omega arith)

turns_more : (x : TraceMark) (m : Member) (k : ActorKey) (a : Activity) → (length (after_trace x m k a).turns ≤ length a.turns) ⊎ (Begins x m k × (length (after_trace x m k a).turns ≤ length a.turns + 1))
turns_more x m k a =
    not_nil x m k a (λ z. (length z.turns ≤ length a.turns) ⊎ (Begins x m k × (length z.turns ≤ length a.turns + 1))) (inl (omega arith)) (λ s e. go s x.what refl e)
  where
    go : same_member m x.member ≡ true → (w : PartMark) → x.what ≡ w → is_mark_of w k ≡ true → (length (after_mark w a).turns ≤ length a.turns) ⊎ (Begins x m k × (length (after_mark w a).turns ≤ length a.turns + 1))
    go s (TurnBegan key call chain) q e =
        inr (
          (same_member-true m x.member s, (call, chain, q ∙ ap (λ (z : ActorKey). TurnBegan z call chain) (sym (same_key-true k key e)))),
          (let l = length-append a.turns (record { call = call; chain = chain } ∷ []) in omega arith),
        )
    go s (TurnEnded key call) q e = inl (fewer call a.turns)
    go s _ q e = inl (omega arith)

some_turn : (ts : List Turn) → (ts ≡ []) ⊎ ((t : Turn) × In t ts)
some_turn [] = inl refl
some_turn (t ∷ ts) = inr (t, inl refl)

module _ (depth : List ℕ → ℕ) (marks : List TraceMark) (one : IsOneChain depth marks) where
  pub record AreFew (done : List TraceMark) : Type 0 where
    pub within : (m : Member) (k : ActorKey) → length (history done m k no_activity).turns ≤ most_turns (depth k.kind)
    pub one_member : (m n : Member) (k : ActorKey) (t u : Turn) → In t (history done m k no_activity).turns → In u (history done n k no_activity).turns → m ≡ n

  begun_at : (done after : List TraceMark) (x : TraceMark) → marks ≡ done ++ x ∷ after → (m n : Member) (k : ActorKey) (t : Turn) → In t (history done m k no_activity).turns → Begins x n k → (m ≡ n) × (length (history done n k no_activity).turns < depth k.kind)
  begun_at done after x e m n k t i b =
      let same : x ≡ record { member = n; what = TurnBegan k b.1.0 b.1.1 } = (let p = b.0 in let q = b.1.2 in λ j. record { member = sym p j; what = q j }) in
      let h = one done after m n k b.1.0 b.1.1 (e ∙ ap (λ (z : TraceMark). done ++ z ∷ after) same) t i in
      (h.0, h.2)

  few_more : (done after : List TraceMark) (x : TraceMark) → marks ≡ done ++ x ∷ after → AreFew done → AreFew (done ++ x ∷ [])
  few_more done after x e f =
      record {
        within = λ m k. subst (λ (z : Activity). length z.turns ≤ most_turns (depth k.kind)) (sym (history-append done (x ∷ []) m k no_activity))
            (elim (turns_more x m k (history done m k no_activity)) [
              | inl l ↦ (let h = f.within m k in omega arith)
              | inr h ↦ (
                  let l = h.1 in
                  elim (some_turn (history done m k no_activity).turns) [
                    | inl none ↦ (let z = ap (λ (ts : List Turn). length ts) none in omega arith)
                    | inr t ↦ (let b = (begun_at done after x e m m k t.0 t.1 h.0).1 in omega arith)
                  ])
            ]);
        one_member = λ m n k t u i j.
            let a = turn_before x m k (history done m k no_activity) t (subst (λ (z : Activity). In t z.turns) (history-append done (x ∷ []) m k no_activity) i) in
            let b = turn_before x n k (history done n k no_activity) u (subst (λ (z : Activity). In u z.turns) (history-append done (x ∷ []) n k no_activity) j) in
            elim a [
              | inl old ↦ elim b [ inl older ↦ f.one_member m n k t u old older | inr new ↦ (begun_at done after x e m n k t old new).0 ]
              | inr new ↦ elim b [ inl old ↦ sym (begun_at done after x e n m k u old new).0 | inr newer ↦ new.0 ∙ sym newer.0 ]
            ];
      }

  append_nil : (xs : List TraceMark) → xs ++ [] ≡ xs
  append_nil [] = refl
  append_nil (x ∷ xs) = ap (λ (ys : List TraceMark). x ∷ ys) (append_nil xs)

  few_all : (done xs after : List TraceMark) → marks ≡ done ++ (xs ++ after) → AreFew done → AreFew (done ++ xs)
  few_all done [] after e f = subst AreFew (sym (append_nil done)) f
  few_all done (x ∷ xs) after e f =
      subst AreFew (append_assoc done (x ∷ []) xs)
      (few_all (done ++ x ∷ []) xs after (e ∙ sym (append_assoc done (x ∷ []) (xs ++ after))) (few_more done (xs ++ after) x e f))

  pub few_before : (before after : List TraceMark) → marks ≡ before ++ after → AreFew before
  few_before before after e = few_all [] before after e (record { within = λ m k. omega arith; one_member = λ m n k t u i. absurd i })
