use denote.Struct.Declared.{fields, shape}
use denote.Param.Send.{IsSend, AllSend, view_send, recorded_send, struct_send, sendable}
use Rattle.reminder_rows.specs.contracts.rows.ReminderRows as reminders
use Rattle.stamp_lanes.specs.contracts.lanes.StampLanes as lanes
use Rattle.state_rows.specs.contracts.rows.StateRows as state
use Rattle.store_tables.specs.contracts.tables.StoreTables.TheInside as inside
use Rattle.store_server.proofs.crossing.tables_cross.Goals as goal

pub returns : goal.returns
returns c =
    let a : IsSend lanes.the_row = record { owned = c.sent.ensures.owned; leaving = λ k d w. tt } in
    let b : IsSend state.the_row = record { owned = c.sent-2.ensures.owned; leaving = λ k d w. tt } in
    let d : IsSend reminders.the_row = record { owned = c.sent-3.ensures.owned; leaving = λ k d w. tt } in
    let T = inside.the_type in
    let parts : AllSend (fields T) = (a, (b, (d, (search sendable depth 20, tt)))) in
    view_send _ _ _ _ _ (recorded_send _ _ T.to T.to_one (struct_send (shape T) parts))
