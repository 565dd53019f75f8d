-- No event of a cluster makes its placement forget anything.
use Rattle.std.proofs.Common.{ℕ, List, Option}
use Rattle.actor_names.specs.declared.actor_key.ActorKey.{ActorKey}
use Rattle.place_table.specs.declared.host.HostInfo.{HostInfo}
use Rattle.place_table.specs.Hosts.{PlacementTable}
use Rattle.placement_core.specs.Placement.{PlacementState, room_of}
use Rattle.round_core.proofs.Memory.{forgets_self}
use Rattle.world_events.specs.declared.event.WorldEvent.{WorldEvent}
use Rattle.cluster_model.specs.Cluster.{RoomsForgetNothing}
use Rattle.cluster_model.specs.Messages.{change_of}
use Rattle.cluster_model.specs.World as world
use Rattle.cluster_model.specs.World.{ClusterState}
use Rattle.cluster_model.specs.Invariant.{IsSafeWorld}
use Rattle.cluster_model.proofs.Forgets.{rooms_over, placement_forgets, restart_forgets}
use Rattle.cluster_model.proofs.Lines.{AreKept, step_kept, run_kept}
use Rattle.cluster_model.proofs.Worlds.{safe_kept}

module _ (owner : PlacementTable → ActorKey → Option HostInfo) (part_of : ActorKey → ℕ → ℕ) (s : PlacementState) where
  pub record Remembers (w : ClusterState) : Type 0 where
    pub safe : IsSafeWorld owner w
    pub kept : RoomsForgetNothing s w.placement

  remembers_kept : AreKept owner part_of Remembers
  remembers_kept =
      record {
        safe = λ w t. t.safe;
        other = λ w now calls events t. record { safe = (safe_kept owner part_of).other w now calls events t.safe; kept = t.kept };
        step = λ w n p e t at heard asked. record { safe = (safe_kept owner part_of).step w n p e t.safe at heard asked; kept = t.kept };
        ask = λ w r t may booted. record { safe = (safe_kept owner part_of).ask w r t.safe may booted; kept = t.kept };
        answer = λ w r t i. record { safe = (safe_kept owner part_of).answer w r t.safe i; kept = rooms_over s w.placement _ t.kept (placement_forgets w.placement (change_of r) w.now) };
        change = λ w e t h. record { safe = (safe_kept owner part_of).change w e t.safe h; kept = rooms_over s w.placement _ t.kept (placement_forgets w.placement e w.now) };
        restart = λ w t. record { safe = (safe_kept owner part_of).restart w t.safe; kept = rooms_over s w.placement _ t.kept (restart_forgets w.placement w.now (λ space. (t.safe.spaces space).reached)) };
        boot = λ w m kinds fresh t. record { safe = (safe_kept owner part_of).boot w m kinds fresh t.safe; kept = t.kept };
      }

pub world_forgets : (owner : PlacementTable → ActorKey → Option HostInfo) (part_of : ActorKey → ℕ → ℕ) (w : ClusterState) (e : WorldEvent) → IsSafeWorld owner w →
    RoomsForgetNothing w.placement (world.cluster_step owner part_of w e).world.placement
world_forgets owner part_of w e s =
    let t = step_kept owner part_of (Remembers owner part_of w.placement) (remembers_kept owner part_of w.placement) w e (record { safe = s; kept = λ space. forgets_self (room_of w.placement space) }) in t.kept

-- and no list of events
pub run_forgets : (owner : PlacementTable → ActorKey → Option HostInfo) (part_of : ActorKey → ℕ → ℕ) (w : ClusterState) (es : List WorldEvent) → IsSafeWorld owner w →
    RoomsForgetNothing w.placement (world.cluster_run owner part_of w es).placement
run_forgets owner part_of w es s =
    let t = run_kept owner part_of (Remembers owner part_of w.placement) (remembers_kept owner part_of w.placement) w es (record { safe = s; kept = λ space. forgets_self (room_of w.placement space) }) in t.kept
