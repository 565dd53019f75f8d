-- What a thread of a sidecar has to have. Own.
use Rattle.std.specs.Prelude.{Option}
use Rattle.frame_wire.specs.declared.frame.Frame.TheVariants as frames
use Rattle.frame_wire.specs.Frames.{payload}
use Rattle.sidecar_node.specs.declared.node.SidecarNode.{SidecarNode}
use Rattle.sidecar_node.specs.declared.node.Seats.{Seats}
use Rattle.sidecar_node.specs.Nodes.{IsSeatsOf, host_of}
use Rattle.step_gate.specs.declared.gate.Gate.{Gate}
use Rattle.step_gate.specs.Gates.{SeatOf, IsSeatOf}
use Rattle.sidecar_server.specs.declared.watch.StopCause.{StopCause}
use Rattle.sidecar_server.specs.declared.watch.WatchEvent.{WatchEvent}
use Rattle.sidecar_server.specs.Watch.{WatchState, WatchMoves}

-- seats at all gates of the node, and at that of the watch; and the node's host is one that a Register frame can carry
pub record Admits (node : SidecarNode) (gate : Gate WatchState WatchEvent (Option StopCause)) (own : Seats) (seat : SeatOf WatchState WatchEvent (Option StopCause)) : Type 0 where
  pub seats : IsSeatsOf node own
  pub watch : IsSeatOf WatchMoves gate seat
  pub host : payload.Fits (frames.Register (host_of node))
