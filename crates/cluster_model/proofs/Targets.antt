-- Each message of a version went to a target of its round, over every list of events.
use Rattle.std.proofs.Common.{◌≡◌, ◌⊎◌, ℕ, true, false, ◌+◌, ◌-◌, ◌<◌, ◌≤◌, List, [], ◌∷◌, ◌++◌, Option, refl, sym, ap, ◌∙◌, subst, inl, inr, arith}
use Rattle.std.specs.Prelude.{nat_lt, nat_le}
use Rattle.std.proofs.lemmas.Bool.{and_parts, and_from, cond_both, leb-true, ltb-true, le-leb, lt-ltb, true≢false}
use Rattle.actor_names.specs.declared.actor_key.ActorKey.{ActorKey}
use Rattle.actor_names.specs.declared.member.Member.{Member}
use Rattle.place_table.specs.declared.ack_stage.AckStage.{AckStage}
use Rattle.place_table.specs.declared.host.HostInfo.{HostInfo}
use Rattle.place_table.specs.Hosts.{PlacementTable}
use Rattle.turn_core.specs.CellSound.{In}
use Rattle.member_roster.specs.Members.{Joined, greatest_boot, hosts_of, members_of}
use Rattle.round_core.specs.declared.phase.RoundPhase.TheVariants.{Quiet, Running}
use Rattle.round_core.specs.Room.{RoomState, last_version}
use Rattle.round_core.specs.Runs.{HasMember}
use Rattle.placement_core.specs.Placement.{room_of}
use Rattle.world_events.specs.declared.event.WorldEvent.{WorldEvent}
use Rattle.world_events.specs.declared.settings.WorldSettings.{WorldSettings}
use Rattle.cluster_model.specs.World as world
use Rattle.cluster_model.specs.World.{ClusterState}
use Rattle.cluster_model.specs.Spaces.{SpaceState, seen_in}
use Rattle.cluster_model.specs.Invariant.{WasTold, IsSafeWorld}
use Rattle.cluster_model.specs.Cluster.{VersionsBelowNext}
use Rattle.cluster_model.proofs.Clusters.{versions_below}
use Rattle.cluster_model.proofs.Lines.{step_kept}
use Rattle.cluster_model.proofs.Memories.{world_forgets}
use Rattle.cluster_model.proofs.Worlds.{safe_kept, opening_room, new_world_safe, run_safe}
use Rattle.cluster_model.specs.Targets.{targets_of, has_begun, next_targets, targets_after, round_targets, HasTargets, BeginsNone, BeginsOne}
use Rattle.cluster_model.proofs.RoundSteps.{GoesOn, Begins}
use Rattle.cluster_model.proofs.Sendings.{Moves, step_moves}

-- ---- lists of targets

in_targets : (js : List Joined) (j : Joined) → In j js → j.target ≡ true → In j.host.member (targets_of js)
in_targets [] j i e = absurd i
in_targets (k ∷ js) j (inl s) e =
    cond_both k.target _ _ (λ (ms : List Member). In j.host.member ms)
    (λ _. inl (ap (λ (z : Joined). z.host.member) s))
    (λ f. absurd (true≢false (sym e ∙ ap (λ (z : Joined). z.target) s ∙ f)))
in_targets (k ∷ js) j (inr i) e =
    let more = in_targets js j i e in
    cond_both k.target _ _ (λ (ms : List Member). In j.host.member ms) (λ _. inr more) (λ _. more)

from_targets : (js : List Joined) (m : Member) → In m (targets_of js) → HasMember (hosts_of js) m
from_targets [] m i = absurd i
from_targets (k ∷ js) m i =
    let more = from_targets js m in
    cond_both k.target _ _ (λ (ms : List Member). In m ms → HasMember (hosts_of (k ∷ js)) m)
    (λ _. elim [ inl e ↦ inl e | inr j ↦ inr (more j) ])
    (λ _ j. inr (more j)) i

all_targets : (js : List Joined) → ((y : Joined) → In y js → y.target ≡ true) → targets_of js ≡ members_of js
all_targets [] all = refl
all_targets (k ∷ js) all =
    let more = all_targets js (λ y i. all y (inr i)) in
    cond_both k.target _ _ (λ (ms : List Member). ms ≡ members_of (k ∷ js))
    (λ _. ap (λ (ms : List Member). k.host.member ∷ ms) more)
    (λ f. absurd (true≢false (sym (all k (inl refl)) ∙ f)))

-- ---- whether a round began

begun_between : (v : ℕ) (old new : RoomState) → has_begun v old new ≡ true → (old.next_version ≤ v) × (v < new.next_version)
begun_between v old new e =
    let h = and_parts (nat_le old.next_version v) (nat_lt v new.next_version) e in (leb-true _ _ h.0, ltb-true _ _ h.1)

not_between : (v : ℕ) (old new : RoomState) → has_begun v old new ≡ false → old.next_version ≤ v → v < new.next_version → ⊥
not_between v old new e a b = true≢false (sym (and_from _ _ (le-leb _ _ a) (lt-ltb _ _ b)) ∙ e)

-- ---- one event

-- What holds of the targets of a version's round that are known: the version's messages went to them. While the round
-- runs, the members among them are the room's targets. Their boots are known.
record AreKnown (s : SpaceState) (v : ℕ) (known : List Member) : Type 0 where
  pub sent : (m : Member) → WasTold s.messages m v → In m known
  pub marked : (stage : AckStage) (j : Joined) → s.room.phase ≡ Running stage → v ≡ last_version s.room → In j s.room.members → j.target ≡ true → In j.host.member known
  pub listed : (stage : AckStage) (j : Joined) → s.room.phase ≡ Running stage → v ≡ last_version s.room → In j s.room.members → In j.host.member known → j.target ≡ true
  pub boots : (m : Member) → In m known → m.boot ≤ greatest_boot s.room.boots m.node

module _ (s t : SpaceState) (v : ℕ) (below : VersionsBelowNext s) (after : VersionsBelowNext t) (moves : Moves s t) where
  -- the round begins: no message of its version is old
  begins_known : (s.room.next_version ≤ v) × (v < t.room.next_version) → ((m : Member) → HasMember (hosts_of t.room.members) m → m.boot ≤ greatest_boot t.room.boots m.node) → AreKnown t v (targets_of t.room.members)
  begins_known between boots =
      let low : s.room.next_version ≤ v = between.0 in
      let high : v < t.room.next_version = between.1 in
      record {
        sent = λ m k. elim (moves.told m v k) [
          | inl old ↦ absurd (let h : v < s.room.next_version = below.messages m v old in omega arith)
          | inr n ↦ subst (λ (x : Member). In x (targets_of t.room.members)) (sym n.member) (in_targets t.room.members n.entry n.here (after.pending n.stage n.entry n.phase n.here n.pending))
        ];
        marked = λ stage j e q i l. in_targets t.room.members j i l;
        listed = λ stage j e q i l. elim moves.changes [
          | inl g ↦ absurd (let h = g.version in omega arith)
          | inr b ↦ b.all j i
        ];
        boots = λ m i. boots m (from_targets t.room.members m i);
      }

  module _ (not : s.room.next_version ≤ v → v < t.room.next_version → ⊥) (rise : (node : List ℕ) → greatest_boot s.room.boots node ≤ greatest_boot t.room.boots node) (known : List Member) (a : AreKnown s v known) where
    -- another round began
    other : Begins s.room t.room → v ≡ last_version t.room → ⊥
    other b q =
        let h : t.room.next_version ≡ s.room.next_version + 1 = b.version in
        let l : v ≡ t.room.next_version - 1 = q in
        not (omega arith) (omega arith)

    same : GoesOn s.room t.room → v ≡ last_version t.room → v ≡ last_version s.room
    same g q = q ∙ ap (λ (n : ℕ). n - 1) g.version

    on_marked : (stage : AckStage) (j : Joined) → t.room.phase ≡ Running stage → v ≡ last_version t.room → In j t.room.members → j.target ≡ true → In j.host.member known
    on_marked stage j e q i l = elim moves.changes [
      | inl g ↦ elim (g.entries stage e j i) [
        | inl f ↦ (
            let old = g.runs stage e in
            subst (λ (x : Member). In x known) (sym f.member) (a.marked old.0 f.entry old.1 (same g q) f.here (sym f.mark ∙ l)))
        | inr n ↦ absurd (true≢false (sym l ∙ n.unmarked))
      ]
      | inr b ↦ absurd (other b q)
    ]

    on_listed : (stage : AckStage) (j : Joined) → t.room.phase ≡ Running stage → v ≡ last_version t.room → In j t.room.members → In j.host.member known → j.target ≡ true
    on_listed stage j e q i l = elim moves.changes [
      | inl g ↦ elim (g.entries stage e j i) [
        | inl f ↦ (
            let old = g.runs stage e in
            f.mark ∙ a.listed old.0 f.entry old.1 (same g q) f.here (subst (λ (x : Member). In x known) f.member l))
        | inr n ↦ absurd (let h = a.boots j.host.member l in let k = n.fresh in omega arith)
      ]
      | inr b ↦ absurd (other b q)
    ]

    on_known : AreKnown t v known
    on_known =
        record {
          sent = λ m k. elim (moves.told m v k) [
            | inl old ↦ a.sent m old
            | inr n ↦ subst (λ (x : Member). In x known) (sym n.member) (on_marked n.stage n.entry n.phase n.version n.here (after.pending n.stage n.entry n.phase n.here n.pending))
          ];
          marked = on_marked;
          listed = on_listed;
          boots = λ m i. (let h = a.boots m i in let r = rise m.node in omega arith);
        }

-- ---- every list of events

module _ (owner : PlacementTable → ActorKey → Option HostInfo) (part_of : ActorKey → ℕ → ℕ) (space : List ℕ) (v : ℕ) where
  step_safe : (w : ClusterState) (e : WorldEvent) → IsSafeWorld owner w → IsSafeWorld owner (world.cluster_step owner part_of w e).world
  step_safe w e safe = step_kept owner part_of (IsSafeWorld owner) (safe_kept owner part_of) w e safe

  step_known : (w : ClusterState) (e : WorldEvent) (known : List Member) → IsSafeWorld owner w → AreKnown (seen_in w space) v known →
      AreKnown (seen_in (world.cluster_step owner part_of w e).world space) v
      (next_targets v (room_of w.placement space) (room_of (world.cluster_step owner part_of w e).world.placement space) known)
  step_known w e known safe a =
      let u = (world.cluster_step owner part_of w e).world in
      let s = seen_in w space in
      let t = seen_in u space in
      let next = step_safe w e safe in
      let below = versions_below owner part_of w safe space in
      let after = versions_below owner part_of u next space in
      let moves = step_moves owner part_of w space e safe in
      cond_both (has_begun v s.room t.room) _ _ (λ (ms : List Member). AreKnown t v ms)
      (λ b. begins_known s t v below after moves (begun_between v s.room t.room b) (next.spaces space).safe.messages.member_boot)
      (λ b. on_known s t v below after moves (not_between v s.room t.room b) (world_forgets owner part_of w e safe space).greatest known a)

  run_known : (w : ClusterState) (es : List WorldEvent) (known : List Member) → IsSafeWorld owner w → AreKnown (seen_in w space) v known →
      AreKnown (seen_in (world.cluster_run owner part_of w es) space) v (targets_after owner part_of w es space v known)
  run_known w [] known safe a = a
  run_known w (e ∷ es) known safe a = run_known (world.cluster_step owner part_of w e).world es _ (step_safe w e safe) (step_known w e known safe a)

  quiet_runs : (stage : AckStage) → Quiet ≡ Running stage → ⊥
  quiet_runs stage e = cc

  opening_known : (settings : WorldSettings) → AreKnown (seen_in (world.opening_cluster settings) space) v []
  opening_known settings =
      record {
        sent = λ m k. absurd k.1;
        marked = λ stage j e q i l. absurd (quiet_runs stage (ap (λ (r : RoomState). r.phase) (sym (opening_room owner part_of space)) ∙ e));
        listed = λ stage j e q i l. absurd l;
        boots = λ m i. absurd i;
      }

  targets_known : (settings : WorldSettings) (es : List WorldEvent) →
      AreKnown (seen_in (world.cluster_run owner part_of (world.opening_cluster settings) es) space) v (round_targets owner part_of settings es space v)
  targets_known settings es = run_known (world.opening_cluster settings) es [] (new_world_safe owner part_of settings) (opening_known settings)

  pub run_sent : (settings : WorldSettings) (es : List WorldEvent) (m : Member) →
      WasTold (seen_in (world.cluster_run owner part_of (world.opening_cluster settings) es) space).messages m v → In m (round_targets owner part_of settings es space v)
  run_sent settings es m k = (targets_known settings es).sent m k

  -- one event more
  targets_push : (w : ClusterState) (es : List WorldEvent) (e : WorldEvent) (known : List Member) → targets_after owner part_of w (es ++ e ∷ []) space v known
      ≡ next_targets v (room_of (world.cluster_run owner part_of w es).placement space)
      (room_of (world.cluster_step owner part_of (world.cluster_run owner part_of w es) e).world.placement space) (targets_after owner part_of w es space v known)
  targets_push w [] e known = refl
  targets_push w (x ∷ es) e known = targets_push (world.cluster_step owner part_of w x).world es e _

pub run_targets : (owner : PlacementTable → ActorKey → Option HostInfo) (part_of : ActorKey → ℕ → ℕ) (settings : WorldSettings) (es : List WorldEvent) (space : List ℕ) →
    HasTargets (room_of (world.cluster_run owner part_of (world.opening_cluster settings) es).placement space)
    (round_targets owner part_of settings es space (last_version (room_of (world.cluster_run owner part_of (world.opening_cluster settings) es).placement space)))
run_targets owner part_of settings es space stage j e i =
    let room = room_of (world.cluster_run owner part_of (world.opening_cluster settings) es).placement space in
    let a = targets_known owner part_of space (last_version room) settings es in
    (λ l. a.marked stage j e refl i l, λ l. a.listed stage j e refl i l)

-- an event begins no round, or one whose targets are all members
pub run_begun : (owner : PlacementTable → ActorKey → Option HostInfo) (part_of : ActorKey → ℕ → ℕ) (settings : WorldSettings) (es : List WorldEvent) (e : WorldEvent) (space : List ℕ) →
    let old = room_of (world.cluster_run owner part_of (world.opening_cluster settings) es).placement space in
    let new = room_of (world.cluster_step owner part_of (world.cluster_run owner part_of (world.opening_cluster settings) es) e).world.placement space in
    BeginsNone old new ⊎ BeginsOne old new (round_targets owner part_of settings (es ++ e ∷ []) space (last_version new))
run_begun owner part_of settings es e space =
    let w = world.cluster_run owner part_of (world.opening_cluster settings) es in
    let old = room_of w.placement space in
    let new = room_of (world.cluster_step owner part_of w e).world.placement space in
    elim (step_moves owner part_of w space e (run_safe owner part_of settings es)).changes [
      | inl g ↦ inl (g.version, g.runs)
      | inr b ↦ inr (
        b.version,
        targets_push owner part_of space (last_version new) (world.opening_cluster settings) es e []
            ∙ cond_both (has_begun (last_version new) old new) _ _ (λ (ms : List Member). ms ≡ members_of new.members)
            (λ _. all_targets new.members b.all)
            (λ f. absurd (let h = b.version in not_between (last_version new) old new f (omega arith) (omega arith))),
      )
    ]
