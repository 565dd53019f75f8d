use denote.Struct.Declared.{shape}
use denote.Param.Send.{struct_sync_at}
use Rattle.place_table.proofs.host.HostInfo.TheSendSync as host
use Rattle.sidecar_node.specs.contracts.node.SidecarNode as node
use Rattle.sidecar_server.proofs.crossing.node_crosses.Goals as goal

-- each part of a node's value may be shared; of the gate of a book only a value that keeps its invariant is known to be
pub returns : goal.returns
returns c =
    let T = node.the_type in
    record {
      shared = λ d. let a = T.to d in struct_sync_at (shape T) a (
        host.the_field_sync.shared a.0,
        (c.shared.ensures.shared a.1.0, (c.shared-2.ensures.shared a.1.1.0, (c.shared-3.ensures.shared a.1.1.1.0, (c.shared-4.ensures.shared d.calls, tt)))),
      );
    }
