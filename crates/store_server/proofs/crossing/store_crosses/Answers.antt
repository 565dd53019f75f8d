use denote.Struct.Declared.{fields, shape}
use denote.Param.Send.{IsSend, AllSend, view_send, recorded_send, struct_send, sendable}
use Rattle.std.proofs.Crossing.{crosses}
use Rattle.store_core.specs.contracts.store.Store.TheInside as inside
use Rattle.tx_journal.proofs.batch.Batch.TheSendSync as batch
use Rattle.tx_journal.specs.contracts.journal.Journal as journal
use Rattle.store_server.specs.contracts.crossing.store_crosses.{D-row}
use Rattle.store_server.proofs.crossing.store_crosses.Goals as goal

pub returns : goal.returns
returns g c =
    let D = D-row g.row.D in
    let a : IsSend (journal.the_row D g.D.Disk) = record { owned = c.sent.ensures.owned; leaving = λ k d w. tt } in
    let T = inside.the_type D g.D.Disk in
    let parts : AllSend (fields T) = (a, (c.tables_cross.ensures, (search sendable depth 20, (search (batch.the_send, sendable, crosses) depth 20, tt)))) in
    view_send _ _ _ _ _ (recorded_send _ _ T.to T.to_one (struct_send (shape T) parts))
