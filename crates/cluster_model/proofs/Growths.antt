-- Messages are only added, so what came to a part at any moment is among the messages of every later one.
use Rattle.std.proofs.Common.{ℕ, List, Option}
use Rattle.actor_names.specs.declared.actor_key.ActorKey.{ActorKey}
use Rattle.place_table.specs.declared.host.HostInfo.{HostInfo}
use Rattle.place_table.specs.Hosts.{PlacementTable}
use Rattle.turn_core.specs.CellSound.{In}
use Rattle.turn_core.proofs.Elements.{In-left}
use Rattle.part_model.specs.Part.{PartState}
use Rattle.world_events.specs.declared.event.WorldEvent.{WorldEvent}
use Rattle.world_events.specs.declared.settings.WorldSettings.{WorldSettings}
use Rattle.cluster_model.proofs.SpaceParts.{backed}
use Rattle.cluster_model.specs.Messages.{Message}
use Rattle.cluster_model.specs.World as world
use Rattle.cluster_model.specs.World.{ClusterState}
use Rattle.cluster_model.specs.Cluster.{HasCome}
use Rattle.cluster_model.specs.Invariant.{IsSafeWorld}
use Rattle.cluster_model.proofs.Lines.{AreKept, run_kept}
use Rattle.cluster_model.proofs.Worlds.{safe_kept, run_safe}

module _ (owner : PlacementTable → ActorKey → Option HostInfo) (part_of : ActorKey → ℕ → ℕ) (ms : List Message) where
  pub record HasGrown (w : ClusterState) : Type 0 where
    pub safe : IsSafeWorld owner w
    pub kept : (x : Message) → In x ms → In x w.messages

  grown_kept : AreKept owner part_of HasGrown
  grown_kept =
      record {
        safe = λ w t. t.safe;
        other = λ w now calls events t. record { safe = (safe_kept owner part_of).other w now calls events t.safe; kept = t.kept };
        step = λ w n p e t at heard asked. record { safe = (safe_kept owner part_of).step w n p e t.safe at heard asked; kept = t.kept };
        ask = λ w r t may booted. record { safe = (safe_kept owner part_of).ask w r t.safe may booted; kept = λ x i. In-left w.messages _ x (t.kept x i) };
        answer = λ w r t i. record { safe = (safe_kept owner part_of).answer w r t.safe i; kept = λ x j. In-left w.messages _ x (t.kept x j) };
        change = λ w e t h. record { safe = (safe_kept owner part_of).change w e t.safe h; kept = t.kept };
        restart = λ w t. record { safe = (safe_kept owner part_of).restart w t.safe; kept = t.kept };
        boot = λ w m kinds fresh t. record { safe = (safe_kept owner part_of).boot w m kinds fresh t.safe; kept = λ x i. In-left w.messages _ x (t.kept x i) };
      }

pub run_came : (owner : PlacementTable → ActorKey → Option HostInfo) (part_of : ActorKey → ℕ → ℕ) (settings : WorldSettings) (earlier later : List WorldEvent) (p : PartState) →
    In p (world.cluster_run owner part_of (world.opening_cluster settings) earlier).parts → HasCome (world.cluster_run owner part_of (world.cluster_run owner part_of (world.opening_cluster settings) earlier) later).messages p
run_came owner part_of settings earlier later p i =
    let w : ClusterState = world.cluster_run owner part_of (world.opening_cluster settings) earlier in
    let s = run_safe owner part_of settings earlier in
    let b = backed owner w s p i in
    let g = run_kept owner part_of (HasGrown owner part_of w.messages) (grown_kept owner part_of w.messages) w later (record { safe = s; kept = λ x j. j }) in
    record { lock = λ l. g.kept _ (b.lock_came l); update = λ l. g.kept _ (b.update_came l); unlock = λ l. g.kept _ (b.unlock_came l) }
