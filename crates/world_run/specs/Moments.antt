-- An event at a moment of its own, in place of the present one. Own.
use Rattle.std.specs.Prelude.{ℕ, Option}
use Rattle.actor_names.specs.declared.actor_key.ActorKey.{ActorKey}
use Rattle.place_table.specs.declared.host.HostInfo.{HostInfo}
use Rattle.place_table.specs.Hosts.{PlacementTable}
use Rattle.world_events.specs.declared.event.WorldEvent.{WorldEvent}
use Rattle.world_events.specs.declared.event.WorldEvent.TheVariants as lines
use Rattle.cluster_model.specs.World.{ClusterState, WorldStep, cluster_step}

-- every event but `at`
abbrev pub IsNotAt : WorldEvent → Type 0
IsNotAt (lines.At moment) = ⊥
IsNotAt e = Unit {0}

-- the step of an event at this moment, and then the present moment again
abbrev pub event_at : (PlacementTable → ActorKey → Option HostInfo) → (ActorKey → ℕ → ℕ) → ClusterState → WorldEvent → ℕ → WorldStep
event_at owner part_of w e now = let s = cluster_step owner part_of (record w { now = now }) e in record { world = record (s.world) { now = w.now }; outcome = s.outcome }
