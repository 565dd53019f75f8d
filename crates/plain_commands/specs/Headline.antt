-- What holds of the script that a replay ran: single activation, turns that never mix, no call that waits although it
-- could run, and that the turns that it prints as begun are those. Own: docs/cluster.md, docs/turns.md.
use Rattle.std.specs.Prelude.{◌≡◌, ◌⊎◌, ◌<◌, ◌≤◌, ℕ, suc, List, take, slice_get, Some, Result}
use Rattle.actor_names.specs.Names.{before_slash}
use Rattle.actor_names.specs.declared.member.Member.{Member}
use Rattle.part_model.specs.Part.{PartState, ring_owner}
use Rattle.turn_core.specs.CellMarks.{TurnsIsolated}
use Rattle.turn_core.specs.CellSound.{In}
use Rattle.round_core.specs.Room.{RoomState, last_version}
use Rattle.placement_core.specs.Placement.{room_of}
use Rattle.world_events.specs.Solo.{SoloEvent}
use Rattle.world_events.specs.declared.event.WorldEvent.{WorldEvent}
use Rattle.world_events.specs.declared.outcome.Outcome.{Outcome}
use Rattle.world_events.specs.declared.error.WorldError.{WorldError}
use Rattle.world_events.specs.declared.settings.WorldSettings.{WorldSettings}
use Rattle.solo_run.specs.World.{TypeDepth, depth_of}
use Rattle.solo_run.specs.Runs.{solo_run, solo_log}
use Rattle.solo_run.specs.TurnsTold.{NoIdleWaiter, turns_at}
use Rattle.cluster_model.specs.World.{ClusterState, opening_cluster, key_part, cluster_run, outcomes}
use Rattle.cluster_model.specs.Asked.{AskedCall, asked_calls, TurnsAreAsked, OverlapsAreNamedAlike, EndedHadBegun, PartsHaveSettings}
use Rattle.cluster_model.specs.Cluster.{ClusterInvariant, HasCome, NamedWereBooted, RoomsForgetNothing}
use Rattle.cluster_model.specs.Counts.{TurnsAreCounted}
use Rattle.cluster_model.specs.Invariant.{IsActiveOnce, WasTold}
use Rattle.cluster_model.specs.Spaces.{seen_in}
use Rattle.cluster_model.specs.Targets.{round_targets, HasTargets, BeginsNone, BeginsOne}
use Rattle.plain_commands.specs.Begins.{BeginsAreTold}
use Rattle.plain_commands.specs.Scripts.{ScriptLog, Unread, SoloLog, ClusterLog, settings_of}

-- Turns of one actor never mix: those that overlap carry one chain, as named by the lines that made their calls, the
-- actor's type has reentrancy on, and no more of them are open than its depth; with reentrancy off one is. And after
-- any number of the events no actor without an open turn has a waiting call.
pub record SoloHolds (depths : List TypeDepth) (events : List SoloEvent) : Type 0 where
  pub never_mix : (key : List ℕ) → TurnsIsolated (depth_of (before_slash key) depths) (turns_at depths key (solo_log depths events))
  pub none_idle : (n : ℕ) → NoIdleWaiter (solo_run depths (take n events))

-- the cluster after the first `n` events
abbrev pub cluster_at : WorldSettings → List WorldEvent → ℕ → ClusterState
cluster_at settings events n = cluster_run ring_owner key_part (opening_cluster settings) (take n events)

-- the calls that the first `n` events make, as their lines name them
abbrev pub asked_at : WorldSettings → List WorldEvent → ℕ → List AskedCall
asked_at settings events n = asked_calls (take n events) (outcomes ring_owner key_part (opening_cluster settings) (take n events))

-- the lines that the events print, as outcomes
abbrev pub printed_by : WorldSettings → List WorldEvent → List (Result Outcome WorldError)
printed_by settings events = outcomes ring_owner key_part (opening_cluster settings) events

-- the room of a space after the first `n` events
abbrev pub room_in : WorldSettings → List WorldEvent → ℕ → List ℕ → RoomState
room_in settings events n space = room_of (cluster_at settings events n).placement space

-- the targets with which the round of a version began in a space, among the first `n` events
abbrev pub targets_in : WorldSettings → List WorldEvent → ℕ → List ℕ → ℕ → List Member
targets_in settings events n space version = round_targets ring_owner key_part settings (take n events) space version

-- After any number of the events all of the cluster's law holds: the cluster invariant, with single activation and
-- isolated turns, and no actor is active on two members. Each turn that began, each that is open and each call that
-- waits has the actor, the member and the chain of the line that made its call, so turns that overlap come from lines
-- that name one chain. Each turn that ended had begun, and as many are open as began and haven't ended. Each part has
-- the settings of its member's boot line.
-- What a part had seen, installed and opened at came by messages, which are there at all later moments. Each member that
-- a message or the placement names was booted. From a moment to a later one no room forgets a greatest boot or a version,
-- and a new member has a boot above the greatest one of its node.
-- Each Lock, Update or Unlock message of a version went to one of the targets with which its round began. While it runs,
-- those of them that are still members are the room's targets. An event begins no round in a space, or one whose targets
-- are all members that the room has then.
-- The turns that an event begins are those that its line prints, by the numbers that the script gave their calls, or for
-- a part that opens how many they are; a poll prints `begin` for a turn that is open.
pub record ClusterHolds (settings : WorldSettings) (events : List WorldEvent) : Type 0 where
  pub invariant : (n : ℕ) → ClusterInvariant ring_owner key_part (cluster_at settings events n)
  pub once : (n : ℕ) → IsActiveOnce (cluster_at settings events n).parts
  pub asked : (n : ℕ) → TurnsAreAsked key_part (cluster_at settings events n) (asked_at settings events n)
  pub named : (n : ℕ) → OverlapsAreNamedAlike key_part (cluster_at settings events n) (asked_at settings events n)
  pub ended : (n : ℕ) → EndedHadBegun (cluster_at settings events n).marks
  pub counted : (n : ℕ) → TurnsAreCounted (cluster_at settings events n)
  pub parts : (n : ℕ) → PartsHaveSettings (cluster_at settings events n)
  pub came : (n later : ℕ) (p : PartState) → n ≤ later → In p (cluster_at settings events n).parts → HasCome (cluster_at settings events later).messages p
  pub booted : (n : ℕ) → NamedWereBooted (cluster_at settings events n)
  pub memory : (n later : ℕ) → n ≤ later → RoomsForgetNothing (cluster_at settings events n).placement (cluster_at settings events later).placement
  pub sent : (n : ℕ) (space : List ℕ) (version : ℕ) (m : Member) → WasTold (seen_in (cluster_at settings events n) space).messages m version → In m (targets_in settings events n space version)
  pub targets : (n : ℕ) (space : List ℕ) → HasTargets (room_in settings events n space) (targets_in settings events n space (last_version (room_in settings events n space)))
  pub begun : (n : ℕ) (space : List ℕ) → BeginsNone (room_in settings events n space) (room_in settings events (suc n) space)
      ⊎ BeginsOne (room_in settings events n space) (room_in settings events (suc n) space) (targets_in settings events (suc n) space (last_version (room_in settings events (suc n) space)))
  pub begins : (n : ℕ) (event : WorldEvent) (printed : Result Outcome WorldError) → slice_get events n ≡ Some event → slice_get (printed_by settings events) n ≡ Some printed
      → BeginsAreTold key_part (cluster_at settings events n) (cluster_at settings events (suc n)) (asked_at settings events (suc n)) event printed

abbrev pub HeadlineHolds : ScriptLog → Type 0
HeadlineHolds Unread = Unit {0}
HeadlineHolds (SoloLog depths events) = SoloHolds depths events
HeadlineHolds (ClusterLog s events) = ClusterHolds (settings_of s) events
