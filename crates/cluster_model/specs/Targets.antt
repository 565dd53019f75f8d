-- The targets with which a round began. A room keeps no mark of those that have left, so they are told beside a run,
-- event by event. Own.
use Rattle.std.specs.Prelude.{◌≡◌, ◌↔◌, ℕ, ◌+◌, Bool, true, ◌&&◌, nat_lt, nat_le, if◌then◌else◌, List, [], ◌∷◌, Option}
use Rattle.actor_names.specs.declared.actor_key.ActorKey.{ActorKey}
use Rattle.actor_names.specs.declared.member.Member.{Member}
use Rattle.place_table.specs.declared.ack_stage.AckStage.{AckStage}
use Rattle.place_table.specs.declared.host.HostInfo.{HostInfo}
use Rattle.place_table.specs.Hosts.{PlacementTable}
use Rattle.turn_core.specs.CellSound.{In}
use Rattle.member_roster.specs.Members.{Joined, members_of}
use Rattle.round_core.specs.declared.phase.RoundPhase.TheVariants.{Running}
use Rattle.round_core.specs.Room.{RoomState}
use Rattle.placement_core.specs.Placement.{room_of}
use Rattle.world_events.specs.declared.event.WorldEvent.{WorldEvent}
use Rattle.world_events.specs.declared.settings.WorldSettings.{WorldSettings}
use Rattle.cluster_model.specs.World.{ClusterState, opening_cluster, cluster_step}

-- the members that are marked as targets of the room's round
abbrev pub targets_of : List Joined → List Member
targets_of [] = []
targets_of (j ∷ js) = if j.target then j.host.member ∷ targets_of js else targets_of js

-- whether the round of a version began when a room changed: the version was still to be used before, and is used now
abbrev pub has_begun : ℕ → RoomState → RoomState → Bool
has_begun version old new = nat_le old.next_version version && nat_lt version new.next_version

-- The targets with which the round of a version began, after a change of a room: those of the room as it is now if the
-- round began, otherwise those known before. At an event at most one round begins in a room (`settle_round`), so no
-- other round comes between its begin and what the room is after the event.
abbrev pub next_targets : ℕ → RoomState → RoomState → List Member → List Member
next_targets version old new known = if has_begun version old new then targets_of new.members else known

-- While a round runs, the room's targets are those of its members that are on this list. Who else is on it is no member.
abbrev pub HasTargets : RoomState → List Member → Type 0
HasTargets room listed = (stage : AckStage) (j : Joined) → room.phase ≡ Running stage → In j room.members → (j.target ≡ true) ↔ In j.host.member listed

-- no round begins in a room: the next version stays, and if a round runs, one ran before
abbrev pub BeginsNone : RoomState → RoomState → Type 0
BeginsNone old new = (new.next_version ≡ old.next_version) × ((stage : AckStage) → new.phase ≡ Running stage → (before : AckStage) × (old.phase ≡ Running before))

-- one round begins in a room, with these targets: all members that the room has then
abbrev pub BeginsOne : RoomState → RoomState → List Member → Type 0
BeginsOne old new targets = (new.next_version ≡ old.next_version + 1) × (targets ≡ members_of new.members)

module _ (owner : PlacementTable → ActorKey → Option HostInfo) (part_of : ActorKey → ℕ → ℕ) where
  -- those known after these events, if these are known before them
  abbrev pub targets_after : ClusterState → List WorldEvent → List ℕ → ℕ → List Member → List Member
  targets_after w [] space version known = known
  targets_after w (e ∷ es) space version known =
      let next = (cluster_step owner part_of w e).world in
      targets_after next es space version (next_targets version (room_of w.placement space) (room_of next.placement space) known)

  -- The targets with which the round of a version began in a space, in a run of these events; none if it hasn't begun.
  abbrev pub round_targets : WorldSettings → List WorldEvent → List ℕ → ℕ → List Member
  round_targets settings events space version = targets_after (opening_cluster settings) events space version []
