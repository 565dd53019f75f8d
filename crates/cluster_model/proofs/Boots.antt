-- A boot keeps the cluster safe: its parts are new, and no message names its member.
use Rattle.std.proofs.Common.{◌≡◌, ℕ, ◌+◌, ◌<◌, ◌≤◌, List, [], ◌++◌, Option, refl, sym, ap, ◌∙◌, subst, inl, inr, arith}
use Rattle.std.specs.Prelude.{zero, suc}
use Rattle.actor_names.specs.declared.member.Member.{Member}
use Rattle.actor_names.specs.declared.actor_key.ActorKey.{ActorKey}
use Rattle.place_table.specs.declared.host.HostInfo.{HostInfo}
use Rattle.place_table.specs.declared.ack_stage.AckStage.{AckStage}
use Rattle.place_table.specs.declared.ack_stage.AckStage.TheVariants as stages
use Rattle.place_table.specs.Hosts.{PlacementTable}
use Rattle.turn_core.specs.CellSound.{In}
use Rattle.part_model.specs.declared.settings.TypeSettings.{TypeSettings}
use Rattle.part_model.specs.declared.stage.Stage.TheVariants.{Locked, Open}
use Rattle.part_model.specs.Part.{PartState, new_part}
use Rattle.part_model.proofs.PartLaws.{new_part_tied}
use Rattle.part_model.proofs.PartTables.{new_part_sound}
use Rattle.round_core.specs.declared.phase.RoundPhase.{RoundPhase}
use Rattle.round_core.specs.declared.phase.RoundPhase.TheVariants.{Quiet, Running}
use Rattle.member_roster.specs.declared.book.Known.{Known}
use Rattle.member_roster.specs.Members.{Joined}
use Rattle.part_model.specs.Progress.{MemberReached}
use Rattle.cluster_model.specs.Messages.{Message}
use Rattle.cluster_model.specs.World.{new_parts}
use Rattle.cluster_model.specs.Invariant.{AllStopped, IsPartBacked, StageFacts, RoundFacts, IsSafeAt}
use Rattle.cluster_model.proofs.Basics.{In-append}
use Rattle.cluster_model.proofs.Joins.{has_entry}

pub In-new_parts : (m : Member) (kinds : List TypeSettings) (i n : ℕ) (x : PartState) → In x (new_parts m kinds i n) → (j : ℕ) × (x ≡ new_part m j kinds)
In-new_parts m kinds i zero x h = absurd h
In-new_parts m kinds i (suc n) x (inl e) = (i, e)
In-new_parts m kinds i (suc n) x (inr h) = In-new_parts m kinds (suc i) n x h

pub number-new_parts : (m : Member) (kinds : List TypeSettings) (i n : ℕ) (x : PartState) → In x (new_parts m kinds i n) → x.number < i + n
number-new_parts m kinds i zero x h = absurd h
number-new_parts m kinds i (suc n) x (inl e) = let a : x.number ≡ i = ap (λ (y : PartState). y.number) e in omega arith
number-new_parts m kinds i (suc n) x (inr h) = let a = number-new_parts m kinds (suc i) n x h in omega arith

module _ (owner : PlacementTable → ActorKey → Option HostInfo) where
  pub new_part_backed : (ms : List Message) (boots : ℕ) (m : Member) (i : ℕ) (kinds : List TypeSettings) → m.boot ≤ boots → IsPartBacked owner ms boots (new_part m i kinds)
  new_part_backed ms boots m i kinds h =
      record {
        sound = new_part_sound owner m i kinds;
        tied = new_part_tied owner m i kinds;
        booted = h;
        open_above = λ e. absurd (locked_open e);
        lock_came = λ l. absurd (omega arith);
        update_came = λ l. absurd (omega arith);
        unlock_came = λ l. absurd (omega arith);
        owned = λ c j a. absurd j;
      }
    where
      locked_open : Locked ≡ Open → ⊥
      locked_open e = cc

  part_of_more : (ms : List Message) (b c : ℕ) (p : PartState) → b ≤ c → IsPartBacked owner ms b p → IsPartBacked owner ms c p
  part_of_more ms b c p h s =
      record {
        sound = s.sound;
        tied = s.tied;
        booted = (let k = s.booted in omega arith);
        open_above = s.open_above;
        lock_came = s.lock_came;
        update_came = s.update_came;
        unlock_came = s.unlock_came;
        owned = s.owned;
      }

  module _ (last : ℕ) (js : List Joined) (ks : List Known) (fixed : List HostInfo) (phase : RoundPhase) (ps : List PartState) (ms : List Message) (boots : ℕ)
      (s : IsSafeAt owner last js ks fixed phase ps ms boots) (m : Member) (fresh : m.boot ≡ suc boots) (kinds : List TypeSettings) (n : ℕ) where
    abbrev more : List PartState
    more = ps ++ new_parts m kinds 0 n

    part_of_new : (x : PartState) → In x (new_parts m kinds 0 n) → (x.member ≡ m) × (x.cells ≡ [])
    part_of_new x i = let h = In-new_parts m kinds 0 n x i in (ap (λ (y : PartState). y.member) h.1, ap (λ (y : PartState). y.cells) h.1)

    not_new : (x : PartState) → In x (new_parts m kinds 0 n) → (y : Member) → x.member ≡ y → y.boot ≤ boots → ⊥
    not_new x i y e h =
        let k = (part_of_new x i).0 in
        let b : y.boot ≡ suc boots = ap (λ (z : Member). z.boot) (sym e ∙ k) ∙ fresh in
        absurd (omega arith)

    stopped_more : (y : Member) → y.boot ≤ boots → AllStopped ps y → AllStopped more y
    stopped_more y b h x i e = elim (In-append ps (new_parts m kinds 0 n) x i) [ inl j ↦ h x j e | inr j ↦ absurd (not_new x j y e b) ]

    reached_more : (y : Member) (stage : AckStage) (v : ℕ) → y.boot ≤ boots → MemberReached owner ps y stage v → MemberReached owner more y stage v
    reached_more y stage v b h x i e = elim (In-append ps (new_parts m kinds 0 n) x i) [ inl j ↦ h x j e | inr j ↦ absurd (not_new x j y e b) ]

    booted_entry : (j : Joined) → In j js → j.host.member.boot ≤ boots
    booted_entry j i = s.booted.joined j.host.member (has_entry js j i)

    facts_more : (stage : AckStage) → StageFacts owner last js fixed ms ps stage → StageFacts owner last js fixed ms more stage
    facts_more stages.Lock f = f
    facts_more stages.Update f = (f.0, f.1, λ j i t. reached_more j.host.member stages.Lock last (booted_entry j i) (f.2 j i t))
    facts_more stages.Unlock f = (f.0, λ j i t. reached_more j.host.member stages.Update last (booted_entry j i) (f.1 j i t))

    round_more : (f : RoundPhase) → RoundFacts owner last js fixed ms ps f → RoundFacts owner last js fixed ms more f
    round_more Quiet r = r
    round_more (Running stage) r =
        record {
          used = r.used;
          pending_target = r.pending_target;
          told_target = r.told_target;
          not_pending = λ j i t off. reached_more j.host.member stage last (booted_entry j i) (r.not_pending j i t off);
          facts = facts_more stage r.facts;
        }

    pub boot_safe : IsSafeAt owner last js ks fixed phase more ms (suc boots)
    boot_safe =
        record {
          parts = λ x i. elim (In-append ps (new_parts m kinds 0 n) x i) [
            | inl j ↦ part_of_more ms boots (suc boots) x (omega arith) (s.parts x j)
            | inr j ↦ (let h = In-new_parts m kinds 0 n x j in subst (IsPartBacked owner ms (suc boots)) (sym h.1) (new_part_backed ms (suc boots) m h.0 kinds (omega arith)))
          ];
          messages = s.messages;
          booted = record {
            joined = λ y i. (let k = s.booted.joined y i in omega arith);
            told = λ y v w. (let k = s.booted.told y v w in omega arith);
            acks = λ y st v i. (let k = s.booted.acks y st v i in omega arith);
            leaves = λ y i. (let k = s.booted.leaves y i in omega arith);
            registers = λ h i. (let k = s.booted.registers h i in omega arith);
          };
          members = record {
            told = λ y v w. elim (s.members.told y v w) [ inl i ↦ inl i | inr h ↦ inr (stopped_more y (s.booted.told y v w) h) ];
            leaves = λ y i. stopped_more y (s.booted.leaves y i) (s.members.leaves y i);
            acks = λ y st v i. reached_more y st v (s.booted.acks y st v i) (s.members.acks y st v i);
          };
          round = round_more phase s.round;
          unlocks = record {
            seen = λ v w x u i t h. elim (In-append ps (new_parts m kinds 0 n) x i) [
              | inl j ↦ s.unlocks.seen v w x u j t h
              | inr j ↦ absurd (not_new x j x.member refl (s.booted.told x.member v t))
            ];
            owned = λ w x c u i j a h y t k e. elim (In-append ps (new_parts m kinds 0 n) x i) [
              | inl l ↦ s.unlocks.owned w x c u l j a h y t k e
              | inr l ↦ absurd (subst (In c) (part_of_new x l).1 j)
            ];
          };
        }
