-- The parts of a sidecar's node, once all of them were given StopPart. Own.
use Rattle.std.specs.Prelude.{ℕ, List, length}
use Rattle.place_table.specs.declared.host.HostInfo.{HostInfo}
use Rattle.part_model.specs.declared.settings.TypeSettings.{TypeSettings}
use Rattle.sidecar_node.specs.declared.node.SidecarNode.{SidecarNode}
use Rattle.sidecar_node.specs.declared.node.Seats.{Seats}
use Rattle.sidecar_node.specs.Turns.{Said}
use Rattle.sidecar_node.specs.Nodes.{part_gates, IsSeatsOf, IsNewNode, StartFrom, StopsAll}

-- Seats of the node whose only entries are one StopPart on each part; a part without one has a gate that takes no more.
-- They began with what the first seats had seen. What each has seen is one legal history of its gate.
pub record StopsParts (node : SidecarNode) (first last : Seats) : Type 0 where
  pub seats : IsSeatsOf node last
  pub own : Seats
  pub from : StartFrom first own
  pub saids : List Said
  pub stops : StopsAll (length (part_gates node)) saids own last

-- A node of this host was made, with so many new parts for these types, and at the end each of its parts was given StopPart.
-- So each part's history leads by the part's steps from a new part to one that is stopped.
pub record NodeStopped (host : HostInfo) (kinds : List TypeSettings) (parts : ℕ) : Type 0 where
  pub node : SidecarNode
  pub first : Seats
  pub last : Seats
  pub new : IsNewNode host kinds parts node first
  pub stops : StopsParts node first last
