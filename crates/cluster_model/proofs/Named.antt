-- What the events of a cluster name: members, parts and messages.
use Rattle.std.proofs.Common.{◌≡◌, ℕ, Bool, true, cond, not, ◌||◌, List, [], ◌∷◌, Option, None, Some, refl, sym, ap, ◌∙◌, subst, inl, inr}
use Rattle.std.specs.Prelude.{zero, suc, ◌==◌, slice_get}
use Rattle.std.proofs.lemmas.Bool.{and_parts, and_from, or_cases, eqb-true, eq-eqb, cases_Bool, both_ways, cond_both, false≢true, true≢false, not-true}
use Rattle.actor_names.specs.declared.member.Member.{Member}
use Rattle.actor_names.specs.declared.actor_key.ActorKey.{ActorKey}
use Rattle.place_table.specs.declared.host.HostInfo.{HostInfo}
use Rattle.place_table.specs.Hosts.{PlacementTable}
use Rattle.turn_core.specs.CellSound.{In}
use Rattle.part_model.specs.declared.event.PartEvent.{PartEvent}
use Rattle.part_model.specs.declared.stage.Stage.{Stage}
use Rattle.part_model.specs.declared.stage.Stage.TheVariants.{Stopped}
use Rattle.part_model.specs.Activity.{IsAsked}
use Rattle.actor_names.specs.Same.{same_member}
use Rattle.part_model.specs.Part.{PartState, is_stopped, receipt_of}
use Rattle.cluster_model.specs.Messages.{Answer, LockAt, UpdateTo, UnlockAt, Says, Message, Tells, told_event}
use Rattle.cluster_model.specs.World as world
use Rattle.cluster_model.specs.World.{ClusterState, is_part, place_of_part, was_booted, all_stopped, running_among, message_at, ask_of, receipts_of}
use Rattle.cluster_model.specs.Invariant.{IsHeard, AllStopped}
use Rattle.cluster_model.proofs.Basics.{same_member-true, same_member-self, In-slice_get}

pub booted_part : (ps : List PartState) (m : Member) → was_booted ps m ≡ true → (p : PartState) × In p ps × (p.member ≡ m)
booted_part [] m e = absurd (false≢true e)
booted_part (p ∷ ps) m e =
    let more = booted_part ps m in
    elim (or_cases (same_member m p.member) (was_booted ps m) e) [
      | inl s ↦ (p, inl refl, sym (same_member-true m p.member s))
      | inr j ↦ (let k = more j in (k.0, inr k.1, k.2))
    ]

is_stopped-true : (t : Stage) → is_stopped t ≡ true → t ≡ Stopped
is_stopped-true Stopped q = refl
is_stopped-true t q = absurd (false≢true q)

pub all_stopped_all : (ps : List PartState) (m : Member) → all_stopped ps m ≡ true → AllStopped ps m
all_stopped_all [] m e p i q = absurd i
all_stopped_all (x ∷ ps) m e p i q =
    let h = and_parts (not (same_member m x.member) || is_stopped x.stage) (all_stopped ps m) e in
    let more = all_stopped_all ps m h.1 p in
    elim i [
      | inl s ↦ elim (or_cases (not (same_member m x.member)) (is_stopped x.stage) h.0) [
        | inl f ↦ absurd (true≢false (sym (subst (λ (z : Member). same_member m z ≡ true) (sym q ∙ ap (λ (y : PartState). y.member) s) (same_member-self m)) ∙ not-true _ f))
        | inr f ↦ ap (λ (y : PartState). y.stage) s ∙ is_stopped-true x.stage f
      ]
      | inr j ↦ more j q
    ]

pub none_running : (ps : List PartState) (xs : List Member) → running_among ps xs ≡ None → (m : Member) → In m xs → AllStopped ps m
none_running ps [] e m i = absurd i
none_running ps (x ∷ xs) e m i =
    let more = none_running ps xs in
    cond_both (all_stopped ps x) _ _ (λ (r : Option Member). r ≡ None → AllStopped ps m)
    (λ t f. elim i [ inl s ↦ subst (AllStopped ps) (sym s) (all_stopped_all ps x t) | inr j ↦ more f m j ])
    (λ t f. absurd (cc)) e

-- a part of the list has a place
pub place-In : (ps : List PartState) (p : PartState) → In p ps → (k : ℕ) × (slice_get ps k ≡ Some p)
place-In [] p i = absurd i
place-In (x ∷ ps) p (inl e) = (0, ap Some (sym e))
place-In (x ∷ ps) p (inr i) = (let h = place-In ps p i in (suc h.0, h.1))

-- and its member's part of its number is found
pub place_found : (ps : List PartState) (p : PartState) → In p ps → (n : ℕ) × (q : PartState) × (place_of_part ps p.member p.number ≡ Some n) × (slice_get ps n ≡ Some q)
place_found [] p i = absurd i
place_found (x ∷ ps) p i =
    let more = place_found ps p in
    elim (cases_Bool (is_part p.member p.number x)) [
      | inl t ↦ (0, x, ap (λ (b : Bool). cond b (Some 0) (world.up (place_of_part ps p.member p.number))) t, refl)
      | inr f ↦ elim i [
        | inl e ↦ absurd (both_ways _ f (and_from _ _ (subst (λ (z : Member). same_member p.member z ≡ true) (ap (λ (z : PartState). z.member) e) (same_member-self p.member)) (eq-eqb _ _ (ap (λ (z : PartState). z.number) e))))
        | inr j ↦ (let h = more j in (suc h.0, h.1, ap (λ (b : Bool). cond b (Some 0) (world.up (place_of_part ps p.member p.number))) f ∙ ap world.up h.2, h.3))
      ]
    ]

-- the part at the place of a member's part is that part
pub same_place : (ps : List PartState) (m : Member) (i n : ℕ) (p : PartState) → place_of_part ps m i ≡ Some n → slice_get ps n ≡ Some p → (p.member ≡ m) × (p.number ≡ i)
same_place [] m i n p e f = absurd (cc)
same_place (q ∷ ps) m i n p e f =
    let more = same_place ps m i in
    cond_both (is_part m i q) _ _ (λ (r : Option ℕ). r ≡ Some n → (p.member ≡ m) × (p.number ≡ i))
    (λ t g.
    let z : 0 ≡ n = zero_some n g in
    let h = and_parts (same_member m q.member) (i == q.number) t in
    let same : q ≡ p = some_part (subst (λ (k : ℕ). slice_get (q ∷ ps) k ≡ Some p) (sym z) f) in
    (sym (same_member-true m q.member h.0 ∙ ap (λ (x : PartState). x.member) same), sym (eqb-true i q.number h.1 ∙ ap (λ (x : PartState). x.number) same)))
    (λ t g. up (place_of_part ps m i) more n g f) e
  where
    zero_some : (n : ℕ) → ◌≡◌ {A = Option ℕ} (Some 0) (Some n) → 0 ≡ n
    zero_some n g = cc

    some_part : Some q ≡ Some p → q ≡ p
    some_part g = cc

    up : (o : Option ℕ) → ((k : ℕ) (p : PartState) → o ≡ Some k → slice_get ps k ≡ Some p → (p.member ≡ m) × (p.number ≡ i)) → (n : ℕ) → world.up o ≡ Some n → slice_get (q ∷ ps) n ≡ Some p → (p.member ≡ m) × (p.number ≡ i)
    up None more n g f = absurd (cc)
    up (Some k) more n g f =
        let z : suc k ≡ n = suc_some k n g in
        more k p refl (subst (λ (j : ℕ). slice_get (q ∷ ps) j ≡ Some p) (sym z) f)
      where
        suc_some : (k n : ℕ) → Some (suc k) ≡ Some n → suc k ≡ n
        suc_some k n g = cc

some_event : (a b : PartEvent) → Some a ≡ Some b → a ≡ b
some_event a b e = cc

-- what an answer makes a part do comes with the answer's message
pub told_heard : (ms : List Message) (m : Member) (r : Answer) (now : ℕ) (x : PartEvent) → In (Tells m r) ms → told_event r now ≡ Some x → IsHeard ms m x
told_heard ms m (LockAt v) now x i e = subst (IsHeard ms m) (some_event _ x e) i
told_heard ms m (UpdateTo t) now x i e = subst (IsHeard ms m) (some_event _ x e) i
told_heard ms m (UnlockAt v) now x i e = subst (IsHeard ms m) (some_event _ x e) i
told_heard ms m (Says reply) now x i e = absurd (cc)

-- and calls no actor
pub told_asks_not : (r : Answer) (now : ℕ) (x : PartEvent) → told_event r now ≡ Some x → (k : ActorKey) → IsAsked x k → ⊥
told_asks_not (LockAt v) now x e k a = subst (λ (z : PartEvent). IsAsked z k) (sym (some_event _ x e)) a
told_asks_not (UpdateTo t) now x e k a = subst (λ (z : PartEvent). IsAsked z k) (sym (some_event _ x e)) a
told_asks_not (UnlockAt v) now x e k a = subst (λ (z : PartEvent). IsAsked z k) (sym (some_event _ x e)) a
told_asks_not (Says reply) now x e k a = absurd (cc)

-- a call comes by no message, and calls its actor
pub ask_heard : (ms : List Message) (m : Member) (key : ActorKey) (least : ℕ) (chain : Option (List ℕ)) (now : ℕ) → IsHeard ms m (ask_of key least chain now)
ask_heard ms m key zero chain now = tt
ask_heard ms m key (suc least) chain now = tt

pub ask_asks : (key : ActorKey) (least : ℕ) (chain : Option (List ℕ)) (now : ℕ) (k : ActorKey) → IsAsked (ask_of key least chain now) k → key ≡ k
ask_asks key zero chain now k a = a
ask_asks key (suc least) chain now k a = a

pub In-message_at : (w : ClusterState) (k : ℕ) (x : Message) → message_at w k ≡ Some x → In x w.messages
In-message_at w zero x e = absurd (cc)
In-message_at w (suc k) x e = In-slice_get w.messages k x e

module _ (owner : PlacementTable → ActorKey → Option HostInfo) (part_of : ActorKey → ℕ → ℕ) where
  pub In-receipts_of : (ps : List PartState) (m : Member) (p : PartState) → In p ps → p.member ≡ m → In (receipt_of owner p) (receipts_of owner part_of ps m)
  In-receipts_of [] m p i e = absurd i
  In-receipts_of (q ∷ ps) m p i e =
      let more = In-receipts_of ps m p in
      cond_both (same_member m q.member) _ _ (λ rs. In (receipt_of owner p) rs)
      (λ t. elim i [ inl s ↦ inl (ap (λ (z : PartState). receipt_of owner z) s) | inr j ↦ inr (more j e) ])
      (λ f. elim i [
        | inl s ↦ absurd (true≢false (sym (subst (λ (x : Member). same_member m x ≡ true) (sym e ∙ ap (λ (x : PartState). x.member) s) (same_member-self m)) ∙ f))
        | inr j ↦ more j e
      ])
