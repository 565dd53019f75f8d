-- What a step of a drill does, as the program picks it. Own.
use Rattle.std.specs.Prelude.{◌≡◌, List, [], ◌∷◌, Option, None, Some, Result, Ok, Err}
use Rattle.part_model.specs.Part.{ring_owner}
use Rattle.world_events.specs.declared.event.WorldEvent.{WorldEvent}
use Rattle.world_events.specs.declared.outcome.Outcome.{Outcome}
use Rattle.world_events.specs.declared.error.WorldError.{WorldError}
use Rattle.cluster_model.specs.World.{ClusterState, key_part, cluster_run}
use Rattle.world_run.specs.Worlds.{WorldView, view_of}
use Rattle.world_drill.specs.declared.choice.Choice.{Choice}
use Rattle.world_drill.specs.declared.choice.Choice.TheVariants.{Nothing, One, Loss, Ending}
use Rattle.world_drill.specs.Drill.{loss_of, closing_of}

-- its events in this cluster
abbrev pub chosen : ClusterState → Choice → List WorldEvent
chosen w Nothing = []
chosen w (One event) = event ∷ []
chosen w (Loss m) = loss_of m
chosen w (Ending m part) = closing_of w part m

-- these events lead from the one view to the other, whatever the marks are
abbrev pub Plays : (ClusterState → List WorldEvent) → WorldView → WorldView → Type 0
Plays events old new = (w : ClusterState) → view_of w ≡ old → view_of (cluster_run ring_owner key_part w (events w)) ≡ new

-- the outcome, if the event wasn't refused
abbrev pub accepted : Result Outcome WorldError → Option Outcome
accepted (Ok outcome) = Some outcome
accepted (Err error) = None
