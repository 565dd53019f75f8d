-- A message that is added keeps the cluster safe.
use Rattle.std.proofs.Common.{◌≡◌, ◌⊎◌, ℕ, true, ◌<◌, ◌≤◌, List, [], ◌∷◌, ◌++◌, Option, Some, refl, sym, ap, ◌∙◌, subst, inl, inr, arith}
use Rattle.actor_names.specs.declared.member.Member.{Member}
use Rattle.actor_names.specs.declared.actor_key.ActorKey.{ActorKey}
use Rattle.place_table.specs.declared.host.HostInfo.{HostInfo}
use Rattle.place_table.specs.declared.ack_stage.AckStage.{AckStage}
use Rattle.place_table.specs.declared.ack_stage.AckStage.TheVariants as stages
use Rattle.place_table.specs.Hosts.{PlacementTable}
use Rattle.turn_core.specs.CellSound.{In}
use Rattle.turn_core.proofs.Elements.{In-push, In-left}
use Rattle.part_model.specs.declared.actor_cell.ActorCell.{ActorCell}
use Rattle.part_model.specs.declared.stage.Stage.{Stage}
use Rattle.part_model.specs.declared.stage.Stage.TheVariants.{Stopped}
use Rattle.part_model.specs.Part.{PartState}
use Rattle.part_model.specs.Sound.{HasNoCellAt}
use Rattle.part_model.proofs.PartLaws.{tied_updated}
use Rattle.round_core.specs.declared.phase.RoundPhase.{RoundPhase}
use Rattle.round_core.specs.declared.phase.RoundPhase.TheVariants.{Quiet, Running}
use Rattle.round_core.specs.Runs.{HasMember}
use Rattle.member_roster.specs.declared.book.Known.{Known}
use Rattle.member_roster.specs.Members.{Joined, hosts_of, greatest_boot}
use Rattle.part_model.specs.Progress.{PartReached, MemberReached}
use Rattle.cluster_model.specs.Messages.{Register, Ack, Leave, Answer, LockAt, UpdateTo, UnlockAt, Message, Asks, Tells, table_of}
use Rattle.cluster_model.specs.Invariant.{version_of, WasTold, AllStopped, Gives, IsPartBacked, StageFacts, CarryTable, IsRoundSound, RoundFacts, AreMessagesSound, AreBooted, AreMembersSound, IsUnlockSound, IsSafeAt}
use Rattle.cluster_model.proofs.Joins.{entry_of, has_entry}
use Rattle.cluster_model.proofs.PartKeeps.{backed_open, told_unlock}

-- the message of a stage of a round
abbrev pub stage_answer : List ℕ → ℕ → List HostInfo → AckStage → Answer
stage_answer space last fixed stages.Lock = LockAt last
stage_answer space last fixed stages.Update = UpdateTo (table_of space last fixed)
stage_answer space last fixed stages.Unlock = UnlockAt last

module _ (owner : PlacementTable → ActorKey → Option HostInfo) where
  no_cells : (s : Stage) (p : PartState) → p.stage ≡ s → HasNoCellAt owner s p → p.stage ≡ Stopped → p.cells ≡ []
  no_cells Stopped p e h q = h
  no_cells s p e h q = absurd (let z = sym e ∙ q in cc)

  -- what a part keeps as messages are added
  pub part_told : (ms ns : List Message) (boots : ℕ) (p : PartState) → IsPartBacked owner ms boots p → IsPartBacked owner (ms ++ ns) boots p
  part_told ms ns boots p s =
      record {
        sound = s.sound;
        tied = s.tied;
        booted = s.booted;
        open_above = s.open_above;
        lock_came = λ h. In-left ms ns _ (s.lock_came h);
        update_came = λ h. In-left ms ns _ (s.update_came h);
        unlock_came = λ h. In-left ms ns _ (s.unlock_came h);
        owned = λ c i a. let o = s.owned c i a in (o.0, (o.1.0, In-left ms ns _ o.1.1, o.1.2, o.1.3));
      }

  -- ---- a message that speaks of no version

  pub record IsPlain (ps : List PartState) (boots : ℕ) (x : Message) : Type 0 where
    pub silent : (m : Member) (r : Answer) (v : ℕ) → Tells m r ≡ x → version_of r ≡ Some v → ⊥
    pub acks : (m : Member) (s : AckStage) (v : ℕ) → Asks (Ack m s v) ≡ x → MemberReached owner ps m s v × (m.boot ≤ boots)
    pub leaves : (m : Member) → Asks (Leave m) ≡ x → AllStopped ps m × (m.boot ≤ boots)
    pub registers : (h : HostInfo) → Asks (Register h) ≡ x → h.member.boot ≤ boots

  module _ (ps : List PartState) (boots : ℕ) (ms : List Message) (x : Message) (plain : IsPlain ps boots x) where
    tell_before : (m : Member) (r : Answer) (v : ℕ) → version_of r ≡ Some v → In (Tells m r) (ms ++ x ∷ []) → In (Tells m r) ms
    tell_before m r v e i = elim (In-push ms x (Tells m r) i) [ inl j ↦ j | inr q ↦ absurd (plain.silent m r v q e) ]

    told_before : (m : Member) (v : ℕ) → WasTold (ms ++ x ∷ []) m v → WasTold ms m v
    told_before m v w = (w.0, tell_before m w.0 v w.2 w.1, w.2)

    plain_facts : (last : ℕ) (js : List Joined) (fixed : List HostInfo) (s : AckStage) → StageFacts owner last js fixed ms ps s → StageFacts owner last js fixed (ms ++ x ∷ []) ps s
    plain_facts last js fixed stages.Lock f = (λ m t i. f.0 m t (tell_before m _ t.version refl i), λ m v i. f.1 m v (tell_before m _ v refl i))
    plain_facts last js fixed stages.Update f = (λ m v i. f.0 m v (tell_before m _ v refl i), λ m t i. f.1 m t (tell_before m _ t.version refl i), f.2)
    plain_facts last js fixed stages.Unlock f = (λ m t i. f.0 m t (tell_before m _ t.version refl i), f.1)

    plain_round : (last : ℕ) (js : List Joined) (fixed : List HostInfo) (phase : RoundPhase) → RoundFacts owner last js fixed ms ps phase → RoundFacts owner last js fixed (ms ++ x ∷ []) ps phase
    plain_round last js fixed Quiet r = r
    plain_round last js fixed (Running s) r =
        record {
          used = r.used;
          pending_target = r.pending_target;
          told_target = λ j v i w. r.told_target j v i (told_before j.host.member v w);
          not_pending = r.not_pending;
          facts = plain_facts last js fixed s r.facts;
        }

    pub push_plain : (last : ℕ) (js : List Joined) (ks : List Known) (fixed : List HostInfo) (phase : RoundPhase) → IsSafeAt owner last js ks fixed phase ps ms boots → IsSafeAt owner last js ks fixed phase ps (ms ++ x ∷ []) boots
    push_plain last js ks fixed phase s =
        record {
          parts = λ p i. part_told ms (x ∷ []) boots p (s.parts p i);
          messages = record {
            told_below = λ m v w. s.messages.told_below m v (told_before m v w);
            told_above = λ m v w. s.messages.told_above m v (told_before m v w);
            one_table = λ m n t u i j. s.messages.one_table m n t u (tell_before m _ t.version refl i) (tell_before n _ u.version refl j);
            told_boot = λ m v w. s.messages.told_boot m v (told_before m v w);
            member_boot = s.messages.member_boot;
          };
          booted = record {
            joined = s.booted.joined;
            told = λ m v w. s.booted.told m v (told_before m v w);
            acks = λ m st v i. elim (In-push ms x _ i) [ inl j ↦ s.booted.acks m st v j | inr q ↦ (plain.acks m st v q).1 ];
            leaves = λ m i. elim (In-push ms x _ i) [ inl j ↦ s.booted.leaves m j | inr q ↦ (plain.leaves m q).1 ];
            registers = λ h i. elim (In-push ms x _ i) [ inl j ↦ s.booted.registers h j | inr q ↦ plain.registers h q ];
          };
          members = record {
            told = λ m v w. s.members.told m v (told_before m v w);
            leaves = λ m i. elim (In-push ms x _ i) [ inl j ↦ s.members.leaves m j | inr q ↦ (plain.leaves m q).0 ];
            acks = λ m st v i. elim (In-push ms x _ i) [ inl j ↦ s.members.acks m st v j | inr q ↦ (plain.acks m st v q).0 ];
          };
          round = plain_round last js fixed phase s.round;
          unlocks = record {
            seen = λ v w p u i t h. s.unlocks.seen v w p (u.0, tell_before u.0 _ w refl u.1) i (told_before p.member v t) h;
            owned = λ w p c u i j a h m t k e. s.unlocks.owned w p c (u.0, tell_before u.0 _ w refl u.1) i j a h m t (tell_before m _ t.version refl k) e;
          };
        }

  -- ---- the message of a round that runs, to one that is pending in it

  version-stage_answer : (space : List ℕ) (last : ℕ) (fixed : List HostInfo) (s : AckStage) → version_of (stage_answer space last fixed s) ≡ Some last
  version-stage_answer space last fixed stages.Lock = refl
  version-stage_answer space last fixed stages.Update = refl
  version-stage_answer space last fixed stages.Unlock = refl

  some_injective : (a b : ℕ) → Some a ≡ Some b → a ≡ b
  some_injective a b e = cc

  tells_injective : (m n : Member) (r q : Answer) → Tells m r ≡ Tells n q → (m ≡ n) × (r ≡ q)
  tells_injective m n r q e = (cc, cc)

  update_of_answer : (space : List ℕ) (last : ℕ) (fixed : List HostInfo) (t : PlacementTable) (s : AckStage) → UpdateTo t ≡ stage_answer space last fixed s → (s ≡ stages.Update) × (t ≡ table_of space last fixed)
  update_of_answer space last fixed t stages.Lock e = absurd (cc)
  update_of_answer space last fixed t stages.Update e = (refl, cc)
  update_of_answer space last fixed t stages.Unlock e = absurd (cc)

  unlock_of_answer : (space : List ℕ) (last : ℕ) (fixed : List HostInfo) (v : ℕ) (s : AckStage) → UnlockAt v ≡ stage_answer space last fixed s → (s ≡ stages.Unlock) × (v ≡ last)
  unlock_of_answer space last fixed v stages.Lock e = absurd (cc)
  unlock_of_answer space last fixed v stages.Update e = absurd (cc)
  unlock_of_answer space last fixed v stages.Unlock e = (refl, cc)

  -- an Unlock of the round's version is there only at its last stage
  at_last_stage : (last : ℕ) (js : List Joined) (fixed : List HostInfo) (ms : List Message) (ps : List PartState) (s : AckStage) →
      StageFacts owner last js fixed ms ps s → (m : Member) → In (Tells m (UnlockAt last)) ms → s ≡ stages.Unlock
  at_last_stage last js fixed ms ps stages.Lock f m i = let h = f.1 m last i in absurd (omega arith)
  at_last_stage last js fixed ms ps stages.Update f m i = let h = f.0 m last i in absurd (omega arith)
  at_last_stage last js fixed ms ps stages.Unlock f m i = refl

  -- if the round is at its last stage, each part of a member that was ever told a version is past the round's table
  module _ (last : ℕ) (js : List Joined) (ks : List Known) (fixed : List HostInfo) (ps : List PartState) (ms : List Message) (boots : ℕ)
      (parts : (q : PartState) → In q ps → IsPartBacked owner ms boots q) (messages : AreMessagesSound last (hosts_of js) ks ms) (members : AreMembersSound owner (hosts_of js) ms ps)
      (round : IsRoundSound owner last js fixed ms ps stages.Unlock) where
    reached_last : (p : PartState) → In p ps → (v : ℕ) → WasTold ms p.member v → (p.stage ≡ Stopped) ⊎ PartReached owner stages.Update last p
    reached_last p i v w = elim (members.told p.member v w) [
      | inl j ↦ (
          let h = entry_of js p.member j in
          round.facts.1 h.0 h.1 (round.told_target h.0 v h.1 (subst (λ (m : Member). WasTold ms m v) h.2 w)) p i h.2)
      | inr h ↦ inl (h p i refl)
    ]

    pub seen_last : (p : PartState) → In p ps → (v : ℕ) → WasTold ms p.member v → (p.stage ≡ Stopped) ⊎ (last ≤ p.seen)
    seen_last p i v w = elim (reached_last p i v w) [
      | inl s ↦ inl s
      | inr r ↦ inr (elim r [ inl h ↦ omega arith | inr h ↦ (let e = h.0 in omega arith) ])
    ]

    pub owned_last : (p : PartState) (c : ActorCell) → In p ps → In c p.cells → c.active ≡ true → p.opened < last → (m : Member) (t : PlacementTable) → In (Tells m (UpdateTo t)) ms → t.version ≡ last → Gives owner t c.key p.member
    owned_last p c i j a below m t k e =
        let s = parts p i in
        let o = s.owned c j a in
        elim (reached_last p i p.opened (told_unlock ms p.member p.opened (s.unlock_came o.0))) [
          | inl stopped ↦ absurd (subst (In c) (no_cells p.stage p refl s.sound.stopped_empty stopped) j)
          | inr r ↦ elim r [
            | inl h ↦ (let l = messages.told_below p.member p.seen (LockAt p.seen, s.lock_came (omega arith), refl) in absurd (omega arith))
            | inr h ↦ elim h.1 [
              | inl d ↦ (
                  let v = tied_updated p.stage p d.0 s.tied.stage in
                  let u : 0 < p.table.version = (let b = s.tied.opened_seen in let z = h.0 in omega arith) in
                  let same = messages.one_table m p.member t p.table k (s.update_came u) (e ∙ sym h.0 ∙ sym v) in
                  rw same (d.1 c j a))
              | inr d ↦ (let z = (backed_open owner ms boots p s d).1 in let y = h.0 in absurd (omega arith))
            ]
          ]
        ]

  pushed_facts : (space : List ℕ) (last : ℕ) (js : List Joined) (fixed : List HostInfo) (ms ns : List Message) (ps : List PartState) (stage : AckStage) →
      ((x : Member) (t : PlacementTable) → In (Tells x (UpdateTo t)) ns → In (Tells x (UpdateTo t)) ms ⊎ ((stage ≡ stages.Update) × (t ≡ table_of space last fixed))) →
      ((x : Member) (v : ℕ) → In (Tells x (UnlockAt v)) ns → In (Tells x (UnlockAt v)) ms ⊎ ((stage ≡ stages.Unlock) × (v ≡ last))) →
      StageFacts owner last js fixed ms ps stage → StageFacts owner last js fixed ns ps stage
  pushed_facts space last js fixed ms ns ps stages.Lock upd unl f =
      (λ x t i. elim (upd x t i) [ inl j ↦ f.0 x t j | inr q ↦ (let e = q.0 in absurd (cc)) ], λ x v i. elim (unl x v i) [ inl j ↦ f.1 x v j | inr q ↦ (let e = q.0 in absurd (cc)) ])
  pushed_facts space last js fixed ms ns ps stages.Update upd unl f =
      (λ x v i. elim (unl x v i) [ inl j ↦ f.0 x v j | inr q ↦ (let e = q.0 in absurd (cc)) ], λ x t i e. elim (upd x t i) [ inl j ↦ f.1 x t j e | inr q ↦ ap (λ (z : PlacementTable). z.hosts) q.1 ], f.2)
  pushed_facts space last js fixed ms ns ps stages.Unlock upd unl f =
      (λ x t i e. elim (upd x t i) [ inl j ↦ f.0 x t j e | inr q ↦ ap (λ (z : PlacementTable). z.hosts) q.1 ], f.1)

  -- the round's table is the one of its version
  fixed_at : (space : List ℕ) (last : ℕ) (fixed : List HostInfo) (ms : List Message) → CarryTable owner last fixed ms → ((x : Member) (t : PlacementTable) → In (Tells x (UpdateTo t)) ms → t.space ≡ space) →
      (m : Member) (t : PlacementTable) → In (Tells m (UpdateTo t)) ms → t.version ≡ last → t ≡ table_of space last fixed
  fixed_at space last fixed ms f ours m t i e = let h = f m t i e in let o = ours m t i in λ k. record { space = o k; version = e k; hosts = h k }

  module _ (space : List ℕ) (last : ℕ) (js : List Joined) (ks : List Known) (fixed : List HostInfo) (ps : List PartState) (ms : List Message) (boots : ℕ) (stage : AckStage)
      (ours : (x : Member) (t : PlacementTable) → In (Tells x (UpdateTo t)) ms → t.space ≡ space) (s : IsSafeAt owner last js ks fixed (Running stage) ps ms boots) (j : Joined) (here : In j js) (pending : j.pending ≡ true)
      (one : (k : Joined) → In k js → k.host.member ≡ j.host.member → k ≡ j) where
    abbrev new : List Message
    new = ms ++ Tells j.host.member (stage_answer space last fixed stage) ∷ []

    told_new : (x : Member) (v : ℕ) → WasTold new x v → WasTold ms x v ⊎ ((x ≡ j.host.member) × (v ≡ last))
    told_new x v w = elim (In-push ms _ (Tells x w.0) w.1) [
      | inl i ↦ inl (w.0, i, w.2)
      | inr q ↦ inr (let h = tells_injective x j.host.member w.0 (stage_answer space last fixed stage) q in (h.0, some_injective v last (sym w.2 ∙ ap version_of h.1 ∙ version-stage_answer space last fixed stage)))
    ]

    update_new : (x : Member) (t : PlacementTable) → In (Tells x (UpdateTo t)) new → In (Tells x (UpdateTo t)) ms ⊎ ((stage ≡ stages.Update) × (t ≡ table_of space last fixed))
    update_new x t i = elim (In-push ms _ _ i) [
      | inl k ↦ inl k
      | inr q ↦ inr (update_of_answer space last fixed t stage (tells_injective x j.host.member (UpdateTo t) (stage_answer space last fixed stage) q).1)
    ]

    unlock_new : (x : Member) (v : ℕ) → In (Tells x (UnlockAt v)) new → In (Tells x (UnlockAt v)) ms ⊎ ((stage ≡ stages.Unlock) × (v ≡ last))
    unlock_new x v i = elim (In-push ms _ _ i) [
      | inl k ↦ inl k
      | inr q ↦ inr (unlock_of_answer space last fixed v stage (tells_injective x j.host.member (UnlockAt v) (stage_answer space last fixed stage) q).1)
    ]

    round_new : IsRoundSound owner last js fixed new ps stage
    round_new =
        record {
          used = s.round.used;
          pending_target = s.round.pending_target;
          told_target = λ y v i w. elim (told_new y.host.member v w) [
            | inl o ↦ s.round.told_target y v i o
            | inr q ↦ ap (λ (z : Joined). z.target) (one y i q.0) ∙ s.round.pending_target j here pending
          ];
          not_pending = s.round.not_pending;
          facts = pushed_facts space last js fixed ms new ps stage update_new unlock_new s.round.facts;
        }

    carried : stage ≡ stages.Update → CarryTable owner last fixed ms
    carried e = (subst (StageFacts owner last js fixed ms ps) e s.round.facts).1

    messages_new : AreMessagesSound last (hosts_of js) ks new
    messages_new =
        record {
          told_below = λ x v w. elim (told_new x v w) [ inl o ↦ s.messages.told_below x v o | inr q ↦ (let e = q.1 in omega arith) ];
          told_above = λ x v w. elim (told_new x v w) [ inl o ↦ s.messages.told_above x v o | inr q ↦ (let e = q.1 in let u = s.round.used in omega arith) ];
          one_table = λ x y t u i k e. elim (update_new x t i) [
            | inl o ↦ elim (update_new y u k) [
              | inl l ↦ s.messages.one_table x y t u o l e
              | inr l ↦ fixed_at space last fixed ms (carried l.0) ours x t o (e ∙ ap (λ (z : PlacementTable). z.version) l.1) ∙ sym l.1
            ]
            | inr o ↦ elim (update_new y u k) [
              | inl l ↦ o.1 ∙ sym (fixed_at space last fixed ms (carried o.0) ours y u l (sym e ∙ ap (λ (z : PlacementTable). z.version) o.1))
              | inr l ↦ o.1 ∙ sym l.1
            ]
          ];
          told_boot = λ x v w. elim (told_new x v w) [ inl o ↦ s.messages.told_boot x v o | inr q ↦ subst (λ (y : Member). y.boot ≤ greatest_boot ks y.node) (sym q.0) (s.messages.member_boot j.host.member (has_entry js j here)) ];
          member_boot = s.messages.member_boot;
        }

    members_new : AreMembersSound owner (hosts_of js) new ps
    members_new =
        record {
          told = λ x v w. elim (told_new x v w) [ inl o ↦ s.members.told x v o | inr q ↦ inl (subst (HasMember (hosts_of js)) (sym q.0) (has_entry js j here)) ];
          leaves = λ x i. elim (In-push ms _ _ i) [ inl k ↦ s.members.leaves x k | inr q ↦ absurd (cc) ];
          acks = λ x st v i. elim (In-push ms _ _ i) [ inl k ↦ s.members.acks x st v k | inr q ↦ absurd (cc) ];
        }

    booted_new : AreBooted (hosts_of js) new boots
    booted_new =
        record {
          joined = s.booted.joined;
          told = λ x v w. elim (told_new x v w) [ inl o ↦ s.booted.told x v o | inr q ↦ subst (λ (y : Member). y.boot ≤ boots) (sym q.0) (s.booted.joined j.host.member (has_entry js j here)) ];
          acks = λ x st v i. elim (In-push ms _ _ i) [ inl k ↦ s.booted.acks x st v k | inr q ↦ absurd (cc) ];
          leaves = λ x i. elim (In-push ms _ _ i) [ inl k ↦ s.booted.leaves x k | inr q ↦ absurd (cc) ];
          registers = λ h i. elim (In-push ms _ _ i) [ inl k ↦ s.booted.registers h k | inr q ↦ absurd (cc) ];
        }

    parts_new : (q : PartState) → In q ps → IsPartBacked owner new boots q
    parts_new q i = part_told ms _ boots q (s.parts q i)

    round_at : stage ≡ stages.Unlock → IsRoundSound owner last js fixed new ps stages.Unlock
    round_at e = subst (λ (st : AckStage). IsRoundSound owner last js fixed new ps st) e round_new

    unlocks_new : IsUnlockSound owner new ps
    unlocks_new =
        record {
          seen = λ v w p u i t h. elim (unlock_new u.0 w u.1) [
            | inr q ↦ subst (λ (n : ℕ). (p.stage ≡ Stopped) ⊎ (n ≤ p.seen)) (sym q.1) (seen_last last js ks fixed ps new boots parts_new messages_new members_new (round_at q.0) p i v t)
            | inl o ↦ elim (told_new p.member v t) [
              | inl old ↦ s.unlocks.seen v w p (u.0, o) i old h
              | inr q ↦ (
                  let below = s.messages.told_below u.0 w (told_unlock ms u.0 w o) in
                  let e : w ≡ last = (let z = q.1 in omega arith) in
                  let st = at_last_stage last js fixed ms ps stage s.round.facts u.0 (subst (λ (n : ℕ). In (Tells u.0 (UnlockAt n)) ms) e o) in
                  subst (λ (n : ℕ). (p.stage ≡ Stopped) ⊎ (n ≤ p.seen)) (sym e) (seen_last last js ks fixed ps new boots parts_new messages_new members_new (round_at st) p i v t))
            ]
          ];
          owned = λ w p c u i k a h x t l e. elim (unlock_new u.0 w u.1) [
            | inr q ↦ owned_last last js ks fixed ps new boots parts_new messages_new members_new (round_at q.0) p c i k a (subst (λ (n : ℕ). p.opened < n) q.1 h) x t l (e ∙ q.1)
            | inl o ↦ elim (update_new x t l) [
              | inl old ↦ s.unlocks.owned w p c (u.0, o) i k a h x t old e
              | inr q ↦ (
                  let v : w ≡ last = sym e ∙ ap (λ (z : PlacementTable). z.version) q.1 in
                  let st = at_last_stage last js fixed ms ps stage s.round.facts u.0 (subst (λ (n : ℕ). In (Tells u.0 (UnlockAt n)) ms) v o) in
                  let clash : stages.Update ≡ stages.Unlock = sym q.0 ∙ st in absurd (cc))
            ]
          ];
        }

    pub push_told : IsSafeAt owner last js ks fixed (Running stage) ps new boots
    push_told = record { parts = parts_new; messages = messages_new; booted = booted_new; members = members_new; round = round_new; unlocks = unlocks_new }
