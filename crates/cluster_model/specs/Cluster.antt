-- The cluster invariant, sentence by sentence, of a world. Own.
use Rattle.std.specs.Prelude.{◌≡◌, ◌⊎◌, ℕ, ◌<◌, ◌≤◌, true, false, List, ◌∷◌, ◌++◌, length, Option, IsSome}
use Rattle.actor_names.specs.declared.member.Member.{Member}
use Rattle.actor_names.specs.declared.actor_key.ActorKey.{ActorKey}
use Rattle.place_table.specs.declared.host.HostInfo.{HostInfo}
use Rattle.place_table.specs.declared.ack_stage.AckStage.{AckStage}
use Rattle.place_table.specs.declared.ack_stage.AckStage.TheVariants as stages
use Rattle.place_table.specs.Hosts.{PlacementTable}
use Rattle.turn_core.specs.declared.cell.Turn.{Turn}
use Rattle.turn_core.specs.CellMarks.{most_turns}
use Rattle.turn_core.specs.CellSound.{In}
use Rattle.part_model.specs.declared.actor_cell.ActorCell.{ActorCell}
use Rattle.part_model.specs.Activity.{no_activity, activity_in, activity_of}
use Rattle.part_model.specs.Cells.{cell_at}
use Rattle.part_model.specs.Marks.{TurnBegan, TurnEnded, BecameActive, BecameInactive}
use Rattle.part_model.specs.declared.stage.Stage.TheVariants.{Stopped}
use Rattle.part_model.specs.Part.{PartState}
use Rattle.part_model.specs.Sound.{NoIdleWaiter}
use Rattle.round_core.specs.declared.phase.RoundPhase.TheVariants.{Running}
use Rattle.round_core.specs.Room.{new_room, last_version}
use Rattle.round_core.specs.Reached.{Distinct}
use Rattle.round_core.specs.Runs.{HasMember, ForgetsNothing}
use Rattle.placement_core.specs.Placement.{PlacementState, room_of}
use Rattle.member_roster.specs.Members.{Joined, greatest_boot, hosts_of}
use Rattle.part_model.specs.Progress.{MemberReached}
use Rattle.cluster_model.specs.Messages.{Register, Ack, Leave, LockAt, UpdateTo, UnlockAt, Message, Asks, Tells, table_of, named_in}
use Rattle.cluster_model.specs.World.{ClusterState, TraceMark, depth_in}
use Rattle.cluster_model.specs.Spaces.{SpaceState, seen_in}
use Rattle.cluster_model.specs.Invariant.{IsBooted, WasTold, IsUnlocked, AllStopped, Gives, IsOwnedAtOpening}
use Rattle.cluster_model.specs.History.{history, AreGiven, DoVersionsRise}

-- ---- what one space sees of the cluster: its room, the parts of its members, and the messages that name them

abbrev pub IsMember : SpaceState → Member → Type 0
IsMember s m = HasMember (hosts_of s.room.members) m

-- the version of the running round, or the last one used
abbrev pub last_of : SpaceState → ℕ
last_of s = last_version s.room

-- Every version is below the next one, also that of an acknowledgement, and each version that a part has now came by a
-- message. The running round's version is the next one less one, and not 0. Pending members are targets, and so is each member that was told the
-- round's version. So each message of that version went to one of its targets, except for members that have gone since,
-- whose parts have all stopped.
pub record VersionsBelowNext (s : SpaceState) : Type 0 where
  pub messages : (m : Member) (v : ℕ) → WasTold s.messages m v → v < s.room.next_version
  pub acks : (m : Member) (stage : AckStage) (v : ℕ) → In (Asks (Ack m stage v)) s.messages → v < s.room.next_version
  pub seen : (p : PartState) → In p s.parts → p.seen < s.room.next_version
  pub opened : (p : PartState) → In p s.parts → p.opened < s.room.next_version
  pub installed : (p : PartState) → In p s.parts → p.table.version < s.room.next_version
  pub round : (stage : AckStage) → s.room.phase ≡ Running stage → 0 < last_of s
  pub pending : (stage : AckStage) (j : Joined) → s.room.phase ≡ Running stage → In j s.room.members → j.pending ≡ true → j.target ≡ true
  pub told : (stage : AckStage) (j : Joined) → s.room.phase ≡ Running stage → In j s.room.members → WasTold s.messages j.host.member (last_of s) → j.target ≡ true
  pub sent : (stage : AckStage) (m : Member) → s.room.phase ≡ Running stage → WasTold s.messages m (last_of s) →
      ((j : Joined) × In j s.room.members × (m ≡ j.host.member) × (j.target ≡ true)) ⊎ AllStopped s.parts m
  pub lock_came : (p : PartState) → In p s.parts → 0 < p.seen → In (Tells p.member (LockAt p.seen)) s.messages
  pub update_came : (p : PartState) → In p s.parts → 0 < p.table.version → In (Tells p.member (UpdateTo p.table)) s.messages
  pub unlock_came : (p : PartState) → In p s.parts → 0 < p.opened → In (Tells p.member (UnlockAt p.opened)) s.messages

-- The Update messages of a version carry one table, which is that of each part that installed the version, and of the
-- round from its second stage on. Before that stage there is no Update of the round's version, nor before the third an
-- Unlock.
pub record OneTablePerVersion (s : SpaceState) : Type 0 where
  pub messages : (m n : Member) (t u : PlacementTable) → In (Tells m (UpdateTo t)) s.messages → In (Tells n (UpdateTo u)) s.messages → t.version ≡ u.version → t ≡ u
  pub installed : (p : PartState) (m : Member) (t : PlacementTable) → In p s.parts → In (Tells m (UpdateTo t)) s.messages → t.version ≡ p.table.version → t ≡ p.table
  pub locking_update : s.room.phase ≡ Running stages.Lock → (m : Member) (t : PlacementTable) → In (Tells m (UpdateTo t)) s.messages → t.version ≡ last_of s → ⊥
  pub locking_unlock : s.room.phase ≡ Running stages.Lock → (m : Member) → In (Tells m (UnlockAt (last_of s))) s.messages → ⊥
  pub updating : s.room.phase ≡ Running stages.Update → (m : Member) → In (Tells m (UnlockAt (last_of s))) s.messages → ⊥
  pub updating_table : s.room.phase ≡ Running stages.Update → (m : Member) (t : PlacementTable) → In (Tells m (UpdateTo t)) s.messages → t.version ≡ last_of s → t ≡ table_of s.space (last_of s) s.room.table
  pub unlocking_table : s.room.phase ≡ Running stages.Unlock → (m : Member) (t : PlacementTable) → In (Tells m (UpdateTo t)) s.messages → t.version ≡ last_of s → t ≡ table_of s.space (last_of s) s.room.table

-- A member that was told a version is still a member, or its parts have all stopped; those of one that asks to leave
-- have all stopped. Boots are known and drawn, a node has one member, which stands once in its room, and before the
-- first round the placement is the opening one.
pub record MembersOrStopped (s : SpaceState) : Type 0 where
  pub told : (m : Member) (v : ℕ) → WasTold s.messages m v → IsMember s m ⊎ AllStopped s.parts m
  pub leaves : (m : Member) → In (Asks (Leave m)) s.messages → AllStopped s.parts m
  pub member_boot : (m : Member) → IsMember s m → m.boot ≤ greatest_boot s.room.boots m.node
  pub told_boot : (m : Member) (v : ℕ) → WasTold s.messages m v → m.boot ≤ greatest_boot s.room.boots m.node
  pub nodes : (m n : Member) → IsMember s m → IsMember s n → m.node ≡ n.node → m ≡ n
  pub distinct : Distinct (hosts_of s.room.members)
  pub opening : s.room.next_version ≡ 1 → s.room ≡ new_room
  pub member_booted : (m : Member) → IsMember s m → m.boot ≤ s.boots
  pub told_booted : (m : Member) (v : ℕ) → WasTold s.messages m v → m.boot ≤ s.boots
  pub ack_booted : (m : Member) (stage : AckStage) (v : ℕ) → In (Asks (Ack m stage v)) s.messages → m.boot ≤ s.boots
  pub leave_booted : (m : Member) → In (Asks (Leave m)) s.messages → m.boot ≤ s.boots
  pub host_booted : (h : HostInfo) → In (Asks (Register h)) s.messages → h.member.boot ≤ s.boots
  pub part_booted : (p : PartState) → In p s.parts → p.member.boot ≤ s.boots

-- while a round runs, each member that was ever told a version is a target of it
pub record InformedAreTargets (s : SpaceState) : Type 0 where
  pub targets : (stage : AckStage) (j : Joined) (v : ℕ) → s.room.phase ≡ Running stage → In j s.room.members → WasTold s.messages j.host.member v → j.target ≡ true

-- the version that a part has seen, the table that it has and the version at which it opened came by messages
pub record HasCome (ms : List Message) (p : PartState) : Type 0 where
  pub lock : 0 < p.seen → In (Tells p.member (LockAt p.seen)) ms
  pub update : 0 < p.table.version → In (Tells p.member (UpdateTo p.table)) ms
  pub unlock : 0 < p.opened → In (Tells p.member (UnlockAt p.opened)) ms

-- no room forgets anything
abbrev pub RoomsForgetNothing : PlacementState → PlacementState → Type 0
RoomsForgetNothing s t = (space : List ℕ) → ForgetsNothing (room_of s space) (room_of t space)

-- each member that a message names, and each member of the placement, was booted
pub record NamedWereBooted (w : ClusterState) : Type 0 where
  pub messages : (x : Message) → In x w.messages → IsBooted w.parts (named_in x)
  pub members : (space : List ℕ) (m : Member) → IsMember (seen_in w space) m → IsBooted w.parts m

-- ---- the history

-- Between an Active mark of an actor on a member and the next Inactive mark of both, no other member has an Active mark
-- of the actor.
abbrev pub SingleActivation : ClusterState → Type 0
SingleActivation w =
    (before middle after : List TraceMark) (m n : Member) (k : ActorKey) (u v : ℕ) →
    w.marks ≡ before ++ record { member = m; what = BecameActive k u } ∷ (middle ++ record { member = n; what = BecameActive k v } ∷ after) →
    (In (record { member = m; what = BecameInactive k }) middle → ⊥) → m ≡ n

-- Two turns of one actor that overlap (the first hasn't ended before the second begins) are on one member, under one
-- identifier, and the type has reentrancy on. At any moment, at most as many turns of an actor are open on a member as
-- the depth, one with reentrancy off; and turns of it are open on at most one member.
pub record TurnsIsolated (w : ClusterState) : Type 0 where
  pub one_chain : (before middle after : List TraceMark) (m n : Member) (k : ActorKey) (a b : ℕ) (x y : Option (List ℕ)) →
      w.marks ≡ before ++ record { member = m; what = TurnBegan k a x } ∷ (middle ++ record { member = n; what = TurnBegan k b y } ∷ after) →
      (In (record { member = m; what = TurnEnded k a }) middle → ⊥) → (m ≡ n) × (x ≡ y) × IsSome x × (0 < depth_in w.settings k.kind)
  pub within : (before after : List TraceMark) (m : Member) (k : ActorKey) → w.marks ≡ before ++ after → length (history before m k no_activity).turns ≤ most_turns (depth_in w.settings k.kind)
  pub one_member : (before after : List TraceMark) (m n : Member) (k : ActorKey) (t u : Turn) → w.marks ≡ before ++ after →
      In t (history before m k no_activity).turns → In u (history before n k no_activity).turns → m ≡ n

module _ (owner : PlacementTable → ActorKey → Option HostInfo) (part_of : ActorKey → ℕ → ℕ) where
  -- A member that acknowledged a stage has reached it; from the second stage on the targets have reached the stage
  -- before, and a target that isn't pending has reached the stage itself.
  pub record AcksAreReached (s : SpaceState) : Type 0 where
    pub acks : (m : Member) (stage : AckStage) (v : ℕ) → In (Asks (Ack m stage v)) s.messages → MemberReached owner s.parts m stage v
    pub updating : s.room.phase ≡ Running stages.Update → (j : Joined) → In j s.room.members → j.target ≡ true → MemberReached owner s.parts j.host.member stages.Lock (last_of s)
    pub unlocking : s.room.phase ≡ Running stages.Unlock → (j : Joined) → In j s.room.members → j.target ≡ true → MemberReached owner s.parts j.host.member stages.Update (last_of s)
    pub not_pending : (stage : AckStage) (j : Joined) → s.room.phase ≡ Running stage → In j s.room.members → j.target ≡ true → j.pending ≡ false → MemberReached owner s.parts j.host.member stage (last_of s)

  -- An active cell is owned in the table at which its part opened last. If at any place of the marks a member had an
  -- actor active while its part had opened last at a version, an Update and an Unlock of that version went to the
  -- member and the Update's table gives it the actor; a later Active elsewhere has a greater version.
  pub record ActiveMeansOwned (w : ClusterState) : Type 0 where
    pub owned : (p : PartState) (c : ActorCell) → In p w.parts → In c p.cells → c.active ≡ true → IsOwnedAtOpening owner w.messages p c
    pub given : AreGiven owner part_of w.settings.parts w.messages w.marks
    pub rise : DoVersionsRise owner part_of w.settings.parts w.marks

  -- Once an Unlock of a version exists, that version or a later one was seen by each running part of a member that was
  -- told the version or an earlier one, and by each running part that has seen any; an active cell of a part that
  -- opened before the version is owned in the version's table.
  pub record NobodyBehindUnlock (s : SpaceState) : Type 0 where
    pub told : (v u : ℕ) (p : PartState) → IsUnlocked s.messages u → In p s.parts → WasTold s.messages p.member v → v ≤ u → (p.stage ≡ Stopped) ⊎ (u ≤ p.seen)
    pub seen : (u : ℕ) (p : PartState) → IsUnlocked s.messages u → In p s.parts → 0 < p.seen → (p.stage ≡ Stopped) ⊎ (u ≤ p.seen)
    pub owned : (u : ℕ) (p : PartState) (c : ActorCell) → IsUnlocked s.messages u → In p s.parts → In c p.cells → c.active ≡ true → p.opened < u →
        (m : Member) (t : PlacementTable) → In (Tells m (UpdateTo t)) s.messages → t.version ≡ u → Gives owner t c.key p.member

  -- A cell with an open turn is active; its turns carry one chain and are within the depth; an open part leaves no call
  -- waiting that could run.
  pub record TurnsUnderOneChain (w : ClusterState) : Type 0 where
    pub active : (p : PartState) (c : ActorCell) (t : Turn) → In p w.parts → In c p.cells → In t c.inner.turns → c.active ≡ true
    pub one_chain : (p : PartState) (c : ActorCell) (t u : Turn) → In p w.parts → In c p.cells → In t c.inner.turns → In u c.inner.turns → t.chain ≡ u.chain
    pub within : (p : PartState) (c : ActorCell) → In p w.parts → In c p.cells → length c.inner.turns ≤ most_turns (depth_in w.settings c.key.kind)
    pub no_idle_waiter : (p : PartState) → In p w.parts → NoIdleWaiter owner p

  -- The marks tell the cells: what a member's marks say of an actor, whether it is active and which turns are open, is
  -- what the actor's cell in the member's part of it shows; they say nothing if there is no such cell or part.
  pub record MarksTellCells (w : ClusterState) : Type 0 where
    pub here : (p : PartState) (k : ActorKey) → In p w.parts → part_of k w.settings.parts ≡ p.number → history w.marks p.member k no_activity ≡ activity_of (cell_at p.cells k)
    pub cells : (p : PartState) (c : ActorCell) → In p w.parts → In c p.cells → (part_of c.key w.settings.parts ≡ p.number) × (history w.marks p.member c.key no_activity ≡ activity_in c)
    pub nowhere : (m : Member) (k : ActorKey) → ((p : PartState) → In p w.parts → p.member ≡ m → part_of k w.settings.parts ≡ p.number → ⊥) → history w.marks m k no_activity ≡ no_activity

  -- the cluster invariant, with the first part of the headline: what holds in each space, and over all of them together
  pub record ClusterInvariant (w : ClusterState) : Type 0 where
    pub versions : (space : List ℕ) → VersionsBelowNext (seen_in w space)
    pub tables : (space : List ℕ) → OneTablePerVersion (seen_in w space)
    pub members : (space : List ℕ) → MembersOrStopped (seen_in w space)
    pub acks : (space : List ℕ) → AcksAreReached (seen_in w space)
    pub informed : (space : List ℕ) → InformedAreTargets (seen_in w space)
    pub owned : ActiveMeansOwned w
    pub unlocked : (space : List ℕ) → NobodyBehindUnlock (seen_in w space)
    pub turns : TurnsUnderOneChain w
    pub told : MarksTellCells w
    pub single : SingleActivation w
    pub isolated : TurnsIsolated w
