use Rattle.std.proofs.Common.{◌≡◌, List}
use Rattle.std.specs.Prelude.{Result}
use Rattle.std.specs.Vec.Iter.{into_iter_items}
use Rattle.world_events.specs.declared.outcome.Outcome.{Outcome}
use Rattle.world_events.specs.declared.error.WorldError.{WorldError}
use Rattle.cluster_model.specs.World.{ClusterState}
use Rattle.world_run.specs.Worlds.{WorldView, Runs, view_of}
use Rattle.world_run.proofs.world.World.run.Given as goal

abbrev pub invariant-loop-event : goal.invariant-loop-event
invariant-loop-event l =
    ((w : ClusterState) → view_of w ≡ l.fn.self →
    (u : ClusterState) × (view_of u ≡ l.self) × ((r : Result (Unit {0}) WorldError) (outs : List Outcome) (v : WorldView) → Runs u (into_iter_items l.event-iterator) l.outcomes.items r outs v → Runs w l.fn.events.items l.fn.outcomes.items r outs v))
    × (goal.iterator-loop-event).can_next l.event-iterator
    × (goal.iterator-loop-event).is_finite l.event-iterator
