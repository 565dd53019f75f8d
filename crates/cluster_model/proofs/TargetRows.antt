-- A worked run, as a test of the definitions: it closes by computing. Member `a/1` is the one target of round 1. While it
-- is to lock, `b/2` joins; then `a/1` stops and leaves, so round 1 ends, and round 2 begins with `b/2` alone. Message 2,
-- the Lock of version 1, went to `a/1`, which is no member any more.
use Rattle.std.specs.Prelude.{◌≡◌, ℕ, List, [], ◌∷◌, Option, None, slice_get, Some}
use Rattle.std.proofs.Common.{refl}
use Rattle.actor_names.specs.Names.{default_space}
use Rattle.actor_names.specs.declared.actor_key.ActorKey.{ActorKey}
use Rattle.actor_names.specs.declared.member.Member.{Member}
use Rattle.place_table.specs.declared.host.HostInfo.{HostInfo}
use Rattle.place_table.specs.Hosts.{PlacementTable}
use Rattle.member_roster.specs.Members.{members_of}
use Rattle.placement_core.specs.Placement.{room_of}
use Rattle.world_events.specs.declared.event.WorldEvent.{WorldEvent}
use Rattle.world_events.specs.declared.event.WorldEvent.TheVariants.{Boot, Leave, Stop, To}
use Rattle.world_events.specs.declared.settings.WorldSettings.{WorldSettings}
use Rattle.cluster_model.specs.Messages.{LockAt, Tells}
use Rattle.cluster_model.specs.World.{ClusterState, opening_cluster, cluster_run}
use Rattle.cluster_model.specs.Targets.{round_targets}

abbrev a/1 : Member
a/1 = record { space = default_space; node = 97 ∷ []; boot = 1 }

abbrev b/2 : Member
b/2 = record { space = default_space; node = 98 ∷ []; boot = 2 }

abbrev kinds : List (List ℕ)
kinds = (99 ∷ []) ∷ []

abbrev owner : PlacementTable → ActorKey → Option HostInfo
owner t k = None

abbrev part_of : ActorKey → ℕ → ℕ
part_of k n = 0

abbrev settings : WorldSettings
settings = record { parts = 1; kinds = []; idle_ms = 3600000; drain_ms = 60000 }

abbrev script : List WorldEvent
script = Boot default_space (97 ∷ []) kinds ∷ To 1 ∷ Boot default_space (98 ∷ []) kinds ∷ To 3 ∷ Stop a/1 0 ∷ Leave a/1 ∷ To 5 ∷ []

abbrev end : ClusterState
end = cluster_run owner part_of (opening_cluster settings) script

targets_that_left_stay_listed : round_targets owner part_of settings script default_space 1 ≡ a/1 ∷ []
targets_that_left_stay_listed = refl

later_round_has_targets_of_its_own : round_targets owner part_of settings script default_space 2 ≡ b/2 ∷ []
later_round_has_targets_of_its_own = refl

unbegun_round_has_no_targets : round_targets owner part_of settings script default_space 3 ≡ []
unbegun_round_has_no_targets = refl

members_at_end : members_of (room_of end.placement default_space).members ≡ b/2 ∷ []
members_at_end = refl

second_message : slice_get end.messages 1 ≡ Some (Tells a/1 (LockAt 1))
second_message = refl
