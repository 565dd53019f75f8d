-- What is true of a cluster after every list of events. Each group reads only the fields that it is given, so that a
-- change of another field doesn't affect it. Own.
use Rattle.std.specs.Prelude.{◌≡◌, ◌⊎◌, ℕ, ◌<◌, ◌≤◌, true, false, List, Option, None, Some}
use Rattle.actor_names.specs.declared.member.Member.{Member}
use Rattle.actor_names.specs.declared.actor_key.ActorKey.{ActorKey}
use Rattle.place_table.specs.declared.host.HostInfo.{HostInfo}
use Rattle.place_table.specs.declared.ack_stage.AckStage.{AckStage}
use Rattle.place_table.specs.declared.ack_stage.AckStage.TheVariants as stages
use Rattle.place_table.specs.Hosts.{PlacementTable}
use Rattle.turn_core.specs.CellSound.{In}
use Rattle.part_model.specs.declared.actor_cell.ActorCell.{ActorCell}
use Rattle.part_model.specs.declared.event.PartEvent.{PartEvent}
use Rattle.part_model.specs.declared.event.PartEvent.TheVariants as events
use Rattle.part_model.specs.declared.stage.Stage.TheVariants.{Open, Stopped}
use Rattle.part_model.specs.Part.{PartState, is_owned_by}
use Rattle.part_model.specs.PartRuns.{AreVersionsTied}
use Rattle.part_model.specs.Sound.{IsPartSound}
use Rattle.round_core.specs.declared.phase.RoundPhase.{RoundPhase}
use Rattle.round_core.specs.declared.phase.RoundPhase.TheVariants.{Quiet, Running}
use Rattle.round_core.specs.Room.{RoomState, last_version}
use Rattle.round_core.specs.Reached.{IsReached}
use Rattle.round_core.specs.Runs.{HasMember}
use Rattle.placement_core.specs.Placement.{room_of}
use Rattle.member_roster.specs.declared.book.Known.{Known}
use Rattle.member_roster.specs.Members.{Joined, greatest_boot, hosts_of}
use Rattle.part_model.specs.Progress.{MemberReached}
use Rattle.cluster_model.specs.Messages.{Register, Ack, Leave, Answer, LockAt, UpdateTo, UnlockAt, Says, Message, Asks, Tells}
use Rattle.cluster_model.specs.World.{ClusterState}
use Rattle.cluster_model.specs.Spaces.{SpaceState, seen_in}

-- ---- messages

abbrev pub version_of : Answer → Option ℕ
version_of (LockAt v) = Some v
version_of (UpdateTo t) = Some t.version
version_of (UnlockAt v) = Some v
version_of (Says reply) = None

-- a Lock, Update or Unlock message of a version went to a member
abbrev pub WasTold : List Message → Member → ℕ → Type 0
WasTold ms m v = (r : Answer) × In (Tells m r) ms × (version_of r ≡ Some v)

abbrev pub IsUnlocked : List Message → ℕ → Type 0
IsUnlocked ms v = (m : Member) × In (Tells m (UnlockAt v)) ms

-- an event that a message brings has its message
abbrev pub IsHeard : List Message → Member → PartEvent → Type 0
IsHeard ms m (events.Lock v) = In (Tells m (LockAt v)) ms
IsHeard ms m (events.Update t now) = In (Tells m (UpdateTo t)) ms
IsHeard ms m (events.Unlock v) = In (Tells m (UnlockAt v)) ms
IsHeard ms m e = Unit {0}

abbrev pub AllStopped : List PartState → Member → Type 0
AllStopped ps m = (p : PartState) → In p ps → p.member ≡ m → p.stage ≡ Stopped

-- the member has a part, so it was booted
abbrev pub IsBooted : List PartState → Member → Type 0
IsBooted ps m = (p : PartState) × In p ps × (p.member ≡ m)

-- ---- messages and members

-- Versions in messages were used, a version has one table, and boots are known.
pub record AreMessagesSound (last : ℕ) (hosts : List HostInfo) (known : List Known) (ms : List Message) : Type 0 where
  pub told_below : (m : Member) (v : ℕ) → WasTold ms m v → v ≤ last
  pub told_above : (m : Member) (v : ℕ) → WasTold ms m v → 0 < v
  pub one_table : (m n : Member) (t u : PlacementTable) → In (Tells m (UpdateTo t)) ms → In (Tells n (UpdateTo u)) ms → t.version ≡ u.version → t ≡ u
  pub told_boot : (m : Member) (v : ℕ) → WasTold ms m v → m.boot ≤ greatest_boot known m.node
  pub member_boot : (m : Member) → HasMember hosts m → m.boot ≤ greatest_boot known m.node

-- every member that is named was booted
pub record AreBooted (hosts : List HostInfo) (ms : List Message) (boots : ℕ) : Type 0 where
  pub joined : (m : Member) → HasMember hosts m → m.boot ≤ boots
  pub told : (m : Member) (v : ℕ) → WasTold ms m v → m.boot ≤ boots
  pub acks : (m : Member) (s : AckStage) (v : ℕ) → In (Asks (Ack m s v)) ms → m.boot ≤ boots
  pub leaves : (m : Member) → In (Asks (Leave m)) ms → m.boot ≤ boots
  pub registers : (h : HostInfo) → In (Asks (Register h)) ms → h.member.boot ≤ boots

module _ (owner : PlacementTable → ActorKey → Option HostInfo) where
  -- ---- one part

  -- a table gives an actor to a member
  abbrev pub Gives : PlacementTable → ActorKey → Member → Type 0
  Gives t k m = is_owned_by m (owner t k) ≡ true

  -- an active cell is owned in the table at which its part opened last
  abbrev pub IsOwnedAtOpening : List Message → PartState → ActorCell → Type 0
  IsOwnedAtOpening ms p c = (0 < p.opened) × ((t : PlacementTable) × In (Tells p.member (UpdateTo t)) ms × (t.version ≡ p.opened) × Gives t c.key p.member)

  -- a part among the messages so far
  pub record IsPartBacked (ms : List Message) (boots : ℕ) (p : PartState) : Type 0 where
    pub sound : IsPartSound owner p
    pub tied : AreVersionsTied p
    pub booted : p.member.boot ≤ boots
    pub open_above : p.stage ≡ Open → 0 < p.seen
    pub lock_came : 0 < p.seen → In (Tells p.member (LockAt p.seen)) ms
    pub update_came : 0 < p.table.version → In (Tells p.member (UpdateTo p.table)) ms
    pub unlock_came : 0 < p.opened → In (Tells p.member (UnlockAt p.opened)) ms
    pub owned : (c : ActorCell) → In c p.cells → c.active ≡ true → IsOwnedAtOpening ms p c

  -- ---- a round that runs

  -- each target has reached the stage
  abbrev pub TargetsReached : ℕ → List Joined → List PartState → AckStage → Type 0
  TargetsReached last js ps stage = (j : Joined) → In j js → j.target ≡ true → MemberReached owner ps j.host.member stage last

  -- the Update messages of the version carry the table of these hosts
  abbrev pub CarryTable : ℕ → List HostInfo → List Message → Type 0
  CarryTable last fixed ms = (m : Member) (t : PlacementTable) → In (Tells m (UpdateTo t)) ms → t.version ≡ last → t.hosts ≡ fixed

  abbrev pub NoUnlockYet : ℕ → List Message → Type 0
  NoUnlockYet last ms = (m : Member) (v : ℕ) → In (Tells m (UnlockAt v)) ms → v < last

  -- what the stage adds: which messages of the round's version there are yet, its table, and who has got how far
  abbrev pub StageFacts : (last : ℕ) → (js : List Joined) → (fixed : List HostInfo) → List Message → List PartState → AckStage → Type 0
  StageFacts last js fixed ms ps stages.Lock = ((m : Member) (t : PlacementTable) → In (Tells m (UpdateTo t)) ms → t.version < last) × NoUnlockYet last ms
  StageFacts last js fixed ms ps stages.Update = NoUnlockYet last ms × CarryTable last fixed ms × TargetsReached last js ps stages.Lock
  StageFacts last js fixed ms ps stages.Unlock = CarryTable last fixed ms × TargetsReached last js ps stages.Update

  pub record IsRoundSound (last : ℕ) (js : List Joined) (fixed : List HostInfo) (ms : List Message) (ps : List PartState) (stage : AckStage) : Type 0 where
    pub used : 0 < last
    pub pending_target : (j : Joined) → In j js → j.pending ≡ true → j.target ≡ true
    pub told_target : (j : Joined) (v : ℕ) → In j js → WasTold ms j.host.member v → j.target ≡ true
    pub not_pending : (j : Joined) → In j js → j.target ≡ true → j.pending ≡ false → MemberReached owner ps j.host.member stage last
    pub facts : StageFacts last js fixed ms ps stage

  abbrev pub RoundFacts : ℕ → List Joined → List HostInfo → List Message → List PartState → RoundPhase → Type 0
  RoundFacts last js fixed ms ps Quiet = Unit {0}
  RoundFacts last js fixed ms ps (Running stage) = IsRoundSound last js fixed ms ps stage

  -- ---- members

  pub record AreMembersSound (hosts : List HostInfo) (ms : List Message) (ps : List PartState) : Type 0 where
    pub told : (m : Member) (v : ℕ) → WasTold ms m v → HasMember hosts m ⊎ AllStopped ps m
    pub leaves : (m : Member) → In (Asks (Leave m)) ms → AllStopped ps m
    pub acks : (m : Member) (s : AckStage) (v : ℕ) → In (Asks (Ack m s v)) ms → MemberReached owner ps m s v

  -- once an Unlock of a version exists
  pub record IsUnlockSound (ms : List Message) (ps : List PartState) : Type 0 where
    pub seen : (v w : ℕ) (p : PartState) → IsUnlocked ms w → In p ps → WasTold ms p.member v → v ≤ w → (p.stage ≡ Stopped) ⊎ (w ≤ p.seen)
    pub owned : (w : ℕ) (p : PartState) (c : ActorCell) → IsUnlocked ms w → In p ps → In c p.cells → c.active ≡ true → p.opened < w →
        (m : Member) (t : PlacementTable) → In (Tells m (UpdateTo t)) ms → t.version ≡ w → Gives t c.key p.member

  pub record IsSafeAt (last : ℕ) (js : List Joined) (known : List Known) (fixed : List HostInfo) (phase : RoundPhase) (ps : List PartState) (ms : List Message) (boots : ℕ) : Type 0 where
    pub parts : (q : PartState) → In q ps → IsPartBacked ms boots q
    pub messages : AreMessagesSound last (hosts_of js) known ms
    pub booted : AreBooted (hosts_of js) ms boots
    pub members : AreMembersSound (hosts_of js) ms ps
    pub round : RoundFacts last js fixed ms ps phase
    pub unlocks : IsUnlockSound ms ps

  abbrev pub IsSafe : RoomState → List PartState → List Message → ℕ → Type 0
  IsSafe s ps ms boots = IsSafeAt (last_version s) s.members s.boots s.table s.phase ps ms boots

  -- what a space sees of a cluster is safe: a run reaches its room, and its parts and messages are safe
  pub record IsSafeSpace (v : SpaceState) : Type 0 where
    pub reached : IsReached v.room
    pub safe : IsSafe v.room v.parts v.messages v.boots

  -- A cluster is safe: each space is, a table goes only to members of its space, and a version that was acknowledged is
  -- one that the room of the member's space has used.
  pub record IsSafeWorld (w : ClusterState) : Type 0 where
    pub spaces : (space : List ℕ) → IsSafeSpace (seen_in w space)
    pub tables : (m : Member) (t : PlacementTable) → In (Tells m (UpdateTo t)) w.messages → t.space ≡ m.space
    pub acks : (m : Member) (stage : AckStage) (v : ℕ) → In (Asks (Ack m stage v)) w.messages → v < (room_of w.placement m.space).next_version

-- no actor is active on two members
abbrev pub IsActiveOnce : List PartState → Type 0
IsActiveOnce ps =
    (p q : PartState) (c d : ActorCell) → In p ps → In q ps → In c p.cells → In d q.cells → c.active ≡ true → d.active ≡ true → c.key ≡ d.key → p.member ≡ q.member
