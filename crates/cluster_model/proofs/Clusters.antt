-- The cluster invariant, sentence by sentence, over every list of events.
use Rattle.std.proofs.Common.{◌≡◌, ℕ, ◌<◌, ◌≤◌, List, Option, refl, sym, ap, ◌∙◌, subst, inl, inr, arith}
use Rattle.std.proofs.lemmas.Bool.{cases_order}
use Rattle.actor_names.specs.declared.member.Member.{Member}
use Rattle.actor_names.specs.declared.actor_key.ActorKey.{ActorKey}
use Rattle.place_table.specs.declared.host.HostInfo.{HostInfo}
use Rattle.place_table.specs.declared.ack_stage.AckStage.{AckStage}
use Rattle.place_table.specs.declared.ack_stage.AckStage.TheVariants as stages
use Rattle.place_table.specs.Hosts.{PlacementTable}
use Rattle.turn_core.specs.CellSound.{In}
use Rattle.part_model.specs.Activity.{activity_of}
use Rattle.part_model.specs.Part.{PartState}
use Rattle.part_model.proofs.Changes.{at-In}
use Rattle.round_core.specs.declared.phase.RoundPhase.TheVariants.{Running}
use Rattle.member_roster.specs.Members.{Joined, joined_node}
use Rattle.placement_core.specs.Placement.{room_of}
use Rattle.world_events.specs.declared.event.WorldEvent.{WorldEvent}
use Rattle.world_events.specs.declared.settings.WorldSettings.{WorldSettings}
use Rattle.cluster_model.specs.Messages.{Ack, LockAt, UpdateTo, Asks, Tells, table_of}
use Rattle.cluster_model.specs.Spaces.{SpaceState, seen_in, KeepsToSpace}
use Rattle.cluster_model.proofs.SpaceParts.{backed, from_messages, space_is}
use Rattle.cluster_model.specs.World as world
use Rattle.cluster_model.specs.World.{ClusterState}
use Rattle.cluster_model.specs.Invariant.{WasTold, IsRoundSound, RoundFacts}
use Rattle.cluster_model.specs.Cluster.{last_of, VersionsBelowNext, OneTablePerVersion, MembersOrStopped, InformedAreTargets, AcksAreReached, ActiveMeansOwned, NobodyBehindUnlock, TurnsUnderOneChain, MarksTellCells, ClusterInvariant}
use Rattle.cluster_model.proofs.Basics.{In-slice_get}
use Rattle.cluster_model.proofs.Joins.{entry_of, one_entry}
use Rattle.cluster_model.proofs.Named.{place-In}
use Rattle.cluster_model.proofs.PartKeeps.{told_update}
use Rattle.cluster_model.specs.Invariant.{IsSafeSpace, IsSafeWorld}
use Rattle.cluster_model.proofs.Runs.{IsToldWorld, run_told}
use Rattle.cluster_model.proofs.Isolation.{single_activation, overlap_chain, few_before}

table_from : (t : PlacementTable) (space : List ℕ) (v : ℕ) (hosts : List HostInfo) → t.space ≡ space → t.version ≡ v → t.hosts ≡ hosts → t ≡ table_of space v hosts
table_from t space v hosts o a b = λ i. record { space = o i; version = a i; hosts = b i }

-- ---- what a space sees

module _ (owner : PlacementTable → ActorKey → Option HostInfo) (part_of : ActorKey → ℕ → ℕ) (w : ClusterState) (safe : IsSafeWorld owner w) (space : List ℕ) where
  abbrev s : SpaceState
  s = seen_in w space

  abbrev t : IsSafeSpace owner s
  t = safe.spaces space

  used : 1 ≤ s.room.next_version
  used = t.reached.kept.used

  below : (v : ℕ) → v ≤ last_of s → v < s.room.next_version
  below v h = let u = used in omega arith

  round_at : (stage : AckStage) → s.room.phase ≡ Running stage → IsRoundSound owner (last_of s) s.room.members s.room.table s.messages s.parts stage
  round_at stage e = subst (RoundFacts owner (last_of s) s.room.members s.room.table s.messages s.parts) e t.safe.round

  seen_low : (p : PartState) → In p s.parts → p.seen ≤ last_of s
  seen_low p i = elim (cases_order 0 p.seen) [
    | inl z ↦ omega arith
    | inr h ↦ elim h [
      | inl l ↦ t.safe.messages.told_below p.member p.seen (LockAt p.seen, (t.safe.parts p i).lock_came l, refl)
      | inr l ↦ absurd (omega arith)
    ]
  ]

  pub versions_below : VersionsBelowNext s
  versions_below =
      record {
        messages = λ m v k. below v (t.safe.messages.told_below m v k);
        acks = λ m stage v k.
            let h = from_messages w.messages (Asks (Ack m stage v)) space k in
            subst (λ (z : List ℕ). v < (room_of w.placement z).next_version) (sym (space_is space m h.1)) (safe.acks m stage v h.0);
        seen = λ p i. below p.seen (seen_low p i);
        opened = λ p i. below p.opened (let l = seen_low p i in let h = (t.safe.parts p i).tied.opened_seen in omega arith);
        installed = λ p i. below p.table.version (let l = seen_low p i in let h = (t.safe.parts p i).tied.table_seen in omega arith);
        round = λ stage e. (round_at stage e).used;
        pending = λ stage j e i l. (round_at stage e).pending_target j i l;
        told = λ stage j e i k. (round_at stage e).told_target j (last_of s) i k;
        sent = λ stage m e k. elim (t.safe.members.told m (last_of s) k) [
          | inl i ↦ (
              let a = entry_of s.room.members m i in
              inl (a.0, a.1, a.2, (round_at stage e).told_target a.0 (last_of s) a.1 (subst (λ (z : Member). WasTold s.messages z (last_of s)) a.2 k)))
          | inr stopped ↦ inr stopped
        ];
        lock_came = λ p i. (t.safe.parts p i).lock_came;
        update_came = λ p i. (t.safe.parts p i).update_came;
        unlock_came = λ p i. (t.safe.parts p i).unlock_came;
      }

  ours : (m : Member) (u : PlacementTable) → In (Tells m (UpdateTo u)) s.messages → u.space ≡ space
  ours m u k = let h = from_messages w.messages (Tells m (UpdateTo u)) space k in safe.tables m u h.0 ∙ sym (space_is space m h.1)

  pub one_table : OneTablePerVersion s
  one_table =
      record {
        messages = t.safe.messages.one_table;
        installed = λ p m u i k e.
            let l = t.safe.messages.told_above m u.version (told_update s.messages m u k) in
            t.safe.messages.one_table m p.member u p.table k ((t.safe.parts p i).update_came (omega arith)) e;
        locking_update = λ e m u k v. (let l = (round_at stages.Lock e).facts.0 m u k in absurd (omega arith));
        locking_unlock = λ e m k. (let l = (round_at stages.Lock e).facts.1 m (last_of s) k in absurd (omega arith));
        updating = λ e m k. (let l = (round_at stages.Update e).facts.0 m (last_of s) k in absurd (omega arith));
        updating_table = λ e m u k v. table_from u space (last_of s) s.room.table (ours m u k) v ((round_at stages.Update e).facts.1 m u k v);
        unlocking_table = λ e m u k v. table_from u space (last_of s) s.room.table (ours m u k) v ((round_at stages.Unlock e).facts.0 m u k v);
      }

  pub members_or_stopped : MembersOrStopped s
  members_or_stopped =
      record {
        told = t.safe.members.told;
        leaves = t.safe.members.leaves;
        member_boot = t.safe.messages.member_boot;
        told_boot = t.safe.messages.told_boot;
        nodes = λ m n i j e.
            let a = entry_of s.room.members m i in
            let b = entry_of s.room.members n j in
            let same : joined_node a.0 ≡ joined_node b.0 = ap (λ (z : Member). z.node) (sym a.2) ∙ e ∙ ap (λ (z : Member). z.node) b.2 in
            a.2 ∙ ap (λ (z : Joined). z.host.member) (one_entry s.room.members a.0 b.0 t.reached.distinct a.1 b.1 same) ∙ sym b.2;
        distinct = t.reached.distinct;
        opening = t.reached.kept.unused;
        member_booted = t.safe.booted.joined;
        told_booted = t.safe.booted.told;
        ack_booted = t.safe.booted.acks;
        leave_booted = t.safe.booted.leaves;
        host_booted = t.safe.booted.registers;
        part_booted = λ p i. (t.safe.parts p i).booted;
      }

  pub acks_reached : AcksAreReached owner part_of s
  acks_reached =
      record {
        acks = t.safe.members.acks;
        updating = λ e j i g. (round_at stages.Update e).facts.2 j i g;
        unlocking = λ e j i g. (round_at stages.Unlock e).facts.1 j i g;
        not_pending = λ stage j e i g off. (round_at stage e).not_pending j i g off;
      }

  pub informed_targets : InformedAreTargets s
  informed_targets = record { targets = λ stage j v e i k. (round_at stage e).told_target j v i k }

  pub nobody_behind : NobodyBehindUnlock owner part_of s
  nobody_behind =
      record {
        told = t.safe.unlocks.seen;
        seen = λ u p k i l. elim (cases_order u p.seen) [
          | inl e ↦ inr (omega arith)
          | inr h ↦ elim h [
            | inl m ↦ inr (omega arith)
            | inr m ↦ t.safe.unlocks.seen p.seen u p k i (LockAt p.seen, (t.safe.parts p i).lock_came l, refl) (omega arith)
          ]
        ];
        owned = t.safe.unlocks.owned;
      }

-- ---- all of them together

module _ (owner : PlacementTable → ActorKey → Option HostInfo) (part_of : ActorKey → ℕ → ℕ) (w : ClusterState) (t : IsToldWorld owner part_of w) where
  pub active_owned : ActiveMeansOwned owner part_of w
  active_owned = record { owned = λ p c i. (backed owner w t.safe p i).owned c; given = t.told.given; rise = t.told.rise }

  pub one_chain : TurnsUnderOneChain owner part_of w
  one_chain =
      record {
        active = λ p c x i j. ((backed owner w t.safe p i).sound.each_sound c j).open_active x;
        one_chain = λ p c x y i j. ((backed owner w t.safe p i).sound.each_sound c j).sound.one_chain x y;
        within = λ p c i j. (let h = ((backed owner w t.safe p i).sound.each_sound c j).sound.within in let d = (t.told.deep p i).1 c j in omega arith);
        no_idle_waiter = λ p i. (backed owner w t.safe p i).sound.no_idle_waiter;
      }

  pub marks_tell : MarksTellCells owner part_of w
  marks_tell =
      record {
        here = λ p k i e. (let a = place-In w.parts p i in t.told.fits.here a.0 p a.1 k e);
        cells = λ p c i j.
            let a = place-In w.parts p i in
            let at = t.told.fits.placed a.0 p a.1 c j in
            (at, t.told.fits.here a.0 p a.1 c.key at ∙ ap activity_of (at-In p.cells c (backed owner w t.safe p i).sound.in_order j));
        nowhere = λ m k away. t.told.fits.nowhere m k (λ i p g. away p (In-slice_get w.parts i p g));
      }

  pub cluster_invariant : ClusterInvariant owner part_of w
  cluster_invariant =
      record {
        versions = λ space. versions_below owner part_of w t.safe space;
        tables = λ space. one_table owner part_of w t.safe space;
        members = λ space. members_or_stopped owner part_of w t.safe space;
        acks = λ space. acks_reached owner part_of w t.safe space;
        informed = λ space. informed_targets owner part_of w t.safe space;
        owned = active_owned;
        unlocked = λ space. nobody_behind owner part_of w t.safe space;
        turns = one_chain;
        told = marks_tell;
        single = single_activation w.marks t.told.never;
        isolated = record {
          one_chain = overlap_chain (world.depth_in w.settings) w.marks t.told.chain;
          within = λ before after m k e. (few_before (world.depth_in w.settings) w.marks t.told.chain before after e).within m k;
          one_member = λ before after m n k x y e. (few_before (world.depth_in w.settings) w.marks t.told.chain before after e).one_member m n k x y;
        };
      }

pub run_invariant : (owner : PlacementTable → ActorKey → Option HostInfo) (part_of : ActorKey → ℕ → ℕ) → KeepsToSpace owner → (settings : WorldSettings) (es : List WorldEvent) →
    ClusterInvariant owner part_of (world.cluster_run owner part_of (world.opening_cluster settings) es)
run_invariant owner part_of keeps settings es = cluster_invariant owner part_of _ (run_told owner part_of keeps settings es)
