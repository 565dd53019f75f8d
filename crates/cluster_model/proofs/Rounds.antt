-- Each small change of the placement keeps the cluster safe.
use Rattle.std.proofs.Common.{◌≡◌, ◌⊎◌, ℕ, true, false, ◌<◌, ◌≤◌, List, map, Option, refl, sym, ap, ◌∙◌, subst, inl, inr, arith}
use Rattle.std.proofs.lemmas.Bool.{true≢false}
use Rattle.actor_names.specs.declared.member.Member.{Member}
use Rattle.actor_names.specs.declared.actor_key.ActorKey.{ActorKey}
use Rattle.place_table.specs.declared.host.HostInfo.{HostInfo}
use Rattle.place_table.specs.declared.ack_stage.AckStage.{AckStage}
use Rattle.place_table.specs.declared.ack_stage.AckStage.TheVariants as stages
use Rattle.place_table.specs.Hosts.{PlacementTable}
use Rattle.turn_core.specs.CellSound.{In}
use Rattle.part_model.specs.Part.{PartState}
use Rattle.round_core.specs.declared.phase.RoundPhase.{RoundPhase}
use Rattle.round_core.specs.declared.phase.RoundPhase.TheVariants.{Quiet, Running}
use Rattle.round_core.specs.Runs.{HasMember}
use Rattle.member_roster.specs.declared.book.Known.{Known}
use Rattle.member_roster.specs.Members.{Joined, hosts_of, entered, targeted, target_hosts, greatest_boot}
use Rattle.part_model.specs.Progress.{MemberReached}
use Rattle.cluster_model.specs.Messages.{Message}
use Rattle.cluster_model.specs.Invariant.{WasTold, AllStopped, StageFacts, IsRoundSound, RoundFacts, AreMessagesSound, AreBooted, AreMembersSound, IsSafeAt}
use Rattle.cluster_model.proofs.Joins.{In-map}
use Rattle.cluster_model.proofs.PartKeeps.{told_unlock, told_update}

module _ (owner : PlacementTable → ActorKey → Option HostInfo) where
  -- ---- entries that change while a round runs

  -- the entry is as before, except for the moment when it was heard from and, if it acknowledged, for being pending
  pub record Follows (last : ℕ) (ps : List PartState) (stage : AckStage) (j y : Joined) : Type 0 where
    pub host : y.host ≡ j.host
    pub target : y.target ≡ j.target
    pub pending : (y.pending ≡ j.pending) ⊎ ((y.pending ≡ false) × MemberReached owner ps j.host.member stage last)

  -- the entry is new: in no round, and never told anything
  pub record IsFresh (ms : List Message) (y : Joined) : Type 0 where
    pub target : y.target ≡ false
    pub pending : y.pending ≡ false
    pub untold : (v : ℕ) → WasTold ms y.host.member v → ⊥

  -- each entry follows one that was there, or is new
  abbrev pub AreFollowed : ℕ → List PartState → List Message → AckStage → List Joined → List Joined → Type 0
  AreFollowed last ps ms stage js ls = (y : Joined) → In y ls → ((j : Joined) × In j js × Follows last ps stage j y) ⊎ IsFresh ms y

  module _ (last : ℕ) (js ls : List Joined) (fixed : List HostInfo) (ms : List Message) (ps : List PartState) where
    followed_targets : (stage now : AckStage) → AreFollowed last ps ms now js ls → ((j : Joined) → In j js → j.target ≡ true → MemberReached owner ps j.host.member stage last) →
        (y : Joined) → In y ls → y.target ≡ true → MemberReached owner ps y.host.member stage last
    followed_targets stage now from h y i t = elim (from y i) [
      | inl f ↦ subst (λ (x : HostInfo). MemberReached owner ps x.member stage last) (sym f.2.host) (h f.0 f.1 (sym f.2.target ∙ t))
      | inr f ↦ absurd (true≢false (sym t ∙ f.target))
    ]

    followed_facts : (stage : AckStage) → AreFollowed last ps ms stage js ls → StageFacts owner last js fixed ms ps stage → StageFacts owner last ls fixed ms ps stage
    followed_facts stages.Lock from f = f
    followed_facts stages.Update from f = (f.0, f.1, followed_targets stages.Lock stages.Update from f.2)
    followed_facts stages.Unlock from f = (f.0, followed_targets stages.Update stages.Unlock from f.1)

    pub followed_round : (stage : AckStage) → AreFollowed last ps ms stage js ls → IsRoundSound owner last js fixed ms ps stage → IsRoundSound owner last ls fixed ms ps stage
    followed_round stage from r =
        record {
          used = r.used;
          pending_target = λ y i l. elim (from y i) [
            | inl f ↦ elim f.2.pending [
              | inl e ↦ f.2.target ∙ r.pending_target f.0 f.1 (sym e ∙ l)
              | inr e ↦ absurd (true≢false (sym l ∙ e.0))
            ]
            | inr f ↦ absurd (true≢false (sym l ∙ f.pending))
          ];
          told_target = λ y v i w. elim (from y i) [
            | inl f ↦ f.2.target ∙ r.told_target f.0 v f.1 (subst (λ (x : HostInfo). WasTold ms x.member v) f.2.host w)
            | inr f ↦ absurd (f.untold v w)
          ];
          not_pending = λ y i t off. elim (from y i) [
            | inl f ↦ subst (λ (x : HostInfo). MemberReached owner ps x.member stage last) (sym f.2.host) (elim f.2.pending [
              | inl e ↦ r.not_pending f.0 f.1 (sym f.2.target ∙ t) (sym e ∙ off)
              | inr e ↦ e.1
            ])
            | inr f ↦ absurd (true≢false (sym t ∙ f.target))
          ];
          facts = followed_facts stage from r.facts;
        }

    pub followed : (phase : RoundPhase) → ((stage : AckStage) → phase ≡ Running stage → AreFollowed last ps ms stage js ls) → RoundFacts owner last js fixed ms ps phase → RoundFacts owner last ls fixed ms ps phase
    followed Quiet from r = r
    followed (Running stage) from r = followed_round stage (from stage refl) r

  pub follows_self : (last : ℕ) (ps : List PartState) (stage : AckStage) (j : Joined) → Follows last ps stage j j
  follows_self last ps stage j = record { host = refl; target = refl; pending = inl refl }

  -- ---- the same hosts, in another round

  pub regrouped : (last : ℕ) (js ls : List Joined) (ks : List Known) (fixed other : List HostInfo) (phase next : RoundPhase) (ps : List PartState) (ms : List Message) (boots : ℕ) →
      hosts_of ls ≡ hosts_of js → RoundFacts owner last ls other ms ps next → IsSafeAt owner last js ks fixed phase ps ms boots → IsSafeAt owner last ls ks other next ps ms boots
  regrouped last js ls ks fixed other phase next ps ms boots same r s =
      record {
        parts = s.parts;
        messages = subst (λ (hs : List HostInfo). AreMessagesSound last hs ks ms) (sym same) s.messages;
        booted = subst (λ (hs : List HostInfo). AreBooted hs ms boots) (sym same) s.booted;
        members = subst (λ (hs : List HostInfo). AreMembersSound owner hs ms ps) (sym same) s.members;
        round = r;
        unlocks = s.unlocks;
      }

  -- ---- a round goes on, and starts

  entered_pending : (js : List Joined) (y : Joined) → In y (map entered js) → y.pending ≡ y.target
  entered_pending js y i = let m = In-map entered js y i in ap (λ (z : Joined). z.pending) m.2 ∙ ap (λ (z : Joined). z.target) (sym m.2)

  module _ (last : ℕ) (js : List Joined) (fixed : List HostInfo) (ms : List Message) (ps : List PartState) (none : (j : Joined) → In j js → j.pending ≡ false) where
    entered_from : (stage : AckStage) → IsRoundSound owner last js fixed ms ps stage → (y : Joined) → In y (map entered js) → y.target ≡ true → MemberReached owner ps y.host.member stage last
    entered_from stage r y i t =
        let m = In-map entered js y i in
        subst (λ (x : HostInfo). MemberReached owner ps x.member stage last) (ap (λ (z : Joined). z.host) (sym m.2))
        (r.not_pending m.0 m.1 (ap (λ (z : Joined). z.target) (sym m.2) ∙ t) (none m.0 m.1))

    entered_round : (stage next : AckStage) (other : List HostInfo) → StageFacts owner last (map entered js) other ms ps next → IsRoundSound owner last js fixed ms ps stage → IsRoundSound owner last (map entered js) other ms ps next
    entered_round stage next other facts r =
        record {
          used = r.used;
          pending_target = λ y i l. sym (entered_pending js y i) ∙ l;
          told_target = λ y v i w.
              let m = In-map entered js y i in
              ap (λ (z : Joined). z.target) m.2 ∙ r.told_target m.0 v m.1 (subst (λ (z : Joined). WasTold ms z.host.member v) m.2 w);
          not_pending = λ y i t off. absurd (true≢false (sym t ∙ sym (entered_pending js y i) ∙ off));
          facts = facts;
        }

    pub update_round : IsRoundSound owner last js fixed ms ps stages.Lock → IsRoundSound owner last (map entered js) (target_hosts js) ms ps stages.Update
    update_round r =
        entered_round stages.Lock stages.Update (target_hosts js)
        (r.facts.1, λ m t i e. (let h = r.facts.0 m t i in absurd (omega arith)), entered_from stages.Lock r) r

    pub unlock_round : IsRoundSound owner last js fixed ms ps stages.Update → IsRoundSound owner last (map entered js) fixed ms ps stages.Unlock
    unlock_round r = entered_round stages.Update stages.Unlock fixed (r.facts.1, entered_from stages.Update r) r

  pub started_round : (last next : ℕ) (js : List Joined) (hosts fixed : List HostInfo) (ks : List Known) (ms : List Message) (ps : List PartState) → last < next → AreMessagesSound last hosts ks ms → IsRoundSound owner next (map targeted js) fixed ms ps stages.Lock
  started_round last next js hosts fixed ks ms ps more s =
      record {
        used = omega arith;
        pending_target = λ y i l. (let m = In-map targeted js y i in ap (λ (z : Joined). z.target) m.2);
        told_target = λ y v i w. (let m = In-map targeted js y i in ap (λ (z : Joined). z.target) m.2);
        not_pending = λ y i t off. (let m = In-map targeted js y i in absurd (true≢false (sym (ap (λ (z : Joined). z.pending) m.2) ∙ off)));
        facts = (λ m t i. (let h = s.told_below m t.version (told_update ms m t i) in omega arith), λ m v i. (let h = s.told_below m v (told_unlock ms m v i) in omega arith));
      }

  -- ---- members whose parts have all stopped are removed

  pub removed_safe : (last : ℕ) (js ls : List Joined) (ks : List Known) (fixed : List HostInfo) (phase : RoundPhase) (ps : List PartState) (ms : List Message) (boots : ℕ) →
      ((y : Joined) → In y ls → In y js) → ((m : Member) → HasMember (hosts_of ls) m → HasMember (hosts_of js) m) → ((m : Member) → HasMember (hosts_of js) m → HasMember (hosts_of ls) m ⊎ AllStopped ps m) →
      IsSafeAt owner last js ks fixed phase ps ms boots → IsSafeAt owner last ls ks fixed phase ps ms boots
  removed_safe last js ls ks fixed phase ps ms boots entries less kept s =
      record {
        parts = s.parts;
        messages = record { told_below = s.messages.told_below; told_above = s.messages.told_above; one_table = s.messages.one_table; told_boot = s.messages.told_boot; member_boot = λ m i. s.messages.member_boot m (less m i) };
        booted = record { joined = λ m i. s.booted.joined m (less m i); told = s.booted.told; acks = s.booted.acks; leaves = s.booted.leaves; registers = s.booted.registers };
        members = record {
          told = λ m v w. elim (s.members.told m v w) [ inl i ↦ kept m i | inr h ↦ inr h ];
          leaves = s.members.leaves;
          acks = s.members.acks;
        };
        round = followed last js ls fixed ms ps phase (λ stage e y i. inl (y, entries y i, follows_self last ps stage y)) s.round;
        unlocks = s.unlocks;
      }

  -- ---- a member joins with a boot above its node's greatest

  pub joined_safe : (last : ℕ) (js ls : List Joined) (ks zs : List Known) (fixed : List HostInfo) (phase : RoundPhase) (ps : List PartState) (ms : List Message) (boots : ℕ) (x : Joined) →
      greatest_boot ks x.host.member.node < x.host.member.boot → x.host.member.boot ≤ boots → x.target ≡ false → x.pending ≡ false →
      ((node : List ℕ) → greatest_boot ks node ≤ greatest_boot zs node) → greatest_boot zs x.host.member.node ≡ x.host.member.boot →
      ((y : Joined) → In y ls → (y ≡ x) ⊎ In y js) → ((m : Member) → HasMember (hosts_of ls) m → HasMember (hosts_of js) m ⊎ (m ≡ x.host.member)) → ((m : Member) → HasMember (hosts_of js) m → HasMember (hosts_of ls) m) →
      IsSafeAt owner last js ks fixed phase ps ms boots → IsSafeAt owner last ls zs fixed phase ps ms boots
  joined_safe last js ls ks zs fixed phase ps ms boots x higher booted target pending rise top entries from kept s =
      record {
        parts = s.parts;
        messages = record {
          told_below = s.messages.told_below;
          told_above = s.messages.told_above;
          one_table = s.messages.one_table;
          told_boot = λ m v w. (let h = s.messages.told_boot m v w in let k = rise m.node in omega arith);
          member_boot = λ m i. elim (from m i) [
            | inl j ↦ (let h = s.messages.member_boot m j in let k = rise m.node in omega arith)
            | inr e ↦ subst (λ (y : Member). y.boot ≤ greatest_boot zs y.node) (sym e) (rw top (omega arith))
          ];
        };
        booted = record {
          joined = λ m i. elim (from m i) [ inl j ↦ s.booted.joined m j | inr e ↦ subst (λ (y : Member). y.boot ≤ boots) (sym e) booted ];
          told = s.booted.told;
          acks = s.booted.acks;
          leaves = s.booted.leaves;
          registers = s.booted.registers;
        };
        members = record { told = λ m v w. elim (s.members.told m v w) [ inl i ↦ inl (kept m i) | inr h ↦ inr h ]; leaves = s.members.leaves; acks = s.members.acks };
        round = followed last js ls fixed ms ps phase (λ stage e y i. elim (entries y i) [
          | inl q ↦ inr (record {
            target = ap (λ (z : Joined). z.target) q ∙ target;
            pending = ap (λ (z : Joined). z.pending) q ∙ pending;
            untold = λ v w. (let h = s.messages.told_boot x.host.member v (subst (λ (z : Joined). WasTold ms z.host.member v) q w) in absurd (omega arith));
          })
          | inr j ↦ inl (y, j, follows_self last ps stage y)
        ]) s.round;
        unlocks = s.unlocks;
      }
