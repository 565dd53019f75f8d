use denote.Struct.Declared.{fields, shape}
use denote.Param.Send.{IsSend, AllSend, view_send, recorded_send, struct_send, sendable}
use Rattle.store_core.specs.contracts.store.Store as store
use Rattle.fence_rows.specs.contracts.fenced.Fenced.TheInside as inside
use Rattle.store_server.specs.contracts.crossing.fenced_crosses.{D-row}
use Rattle.store_server.proofs.crossing.fenced_crosses.Goals as goal

pub returns : goal.returns
returns g c =
    let D = D-row g.row.D in
    let a : IsSend (store.the_row D g.D.Disk) = record { owned = c.store_crosses.ensures.owned; leaving = λ k d w. tt } in
    let T = inside.the_type D g.D.Disk in
    let parts : AllSend (fields T) = (a, (search sendable depth 20, tt)) in
    view_send _ _ _ _ _ (recorded_send _ _ T.to T.to_one (struct_send (shape T) parts))
