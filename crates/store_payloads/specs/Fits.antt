-- What fits its fields: what a payload says, and tables by the rows of their entries. Own.
use Rattle.std.specs.Prelude.{◌<◌}
use Rattle.std.specs.List.{AllByRecursion as Each}
use Rattle.stamp_lanes.specs.declared.lane.Lane.{Lane}
use Rattle.stamp_lanes.specs.declared.node.NodeLanes.{NodeLanes}
use Rattle.stamp_lanes.specs.Restores.{member_of}
use Rattle.reminder_rows.specs.declared.row.ReminderRow.{ReminderRow}
use Rattle.frame_wire.specs.Store.{command}
use Rattle.store_tables.specs.Tables.{Tables}
use Rattle.store_payloads.specs.declared.payload.PayloadBody.{PayloadBody}
use Rattle.store_payloads.specs.declared.payload.PayloadBody.TheVariants.{Command, Row}
use Rattle.store_payloads.specs.declared.payload.StorePayload.{StorePayload}
use Rattle.store_payloads.specs.Fields.{boot_fields, lane_fields, state_fields, reminder_fields, table_row}
use Rattle.store_payloads.specs.Payloads.{end_of_moments}

-- ---- payloads

-- a command or a row that may be written
abbrev pub BodyFits : PayloadBody → Type 0
BodyFits (Command c) = command.Fits c
BodyFits (Row r) = table_row.Fits r

-- what a payload says may be written, at a moment before 9999
pub record PayloadFits (p : StorePayload) : Type 0 where
  pub now : p.now < end_of_moments
  pub body : BodyFits p.body

-- ---- tables

abbrev pub BootFits : NodeLanes → Type 0
BootFits e = boot_fields.Fits ((e.space, e.node), e.boot)

abbrev pub LaneFits : NodeLanes → Lane → Type 0
LaneFits e l = lane_fields.Fits (member_of e, (l.part, (l.floor, l.kept)))

abbrev pub LanesFit : NodeLanes → Type 0
LanesFit e = Each (LaneFits e) e.lanes

abbrev pub ReminderFits : ReminderRow → Type 0
ReminderFits e = reminder_fields.Fits (e.key.actor, (e.key.name, e.reminder))

-- each entry fits the fields of its row
pub record TablesFit (t : Tables) : Type 0 where
  pub boots : Each BootFits t.nodes
  pub lanes : Each LanesFit t.nodes
  pub states : Each state_fields.Fits t.rows
  pub reminders : Each ReminderFits t.reminders
