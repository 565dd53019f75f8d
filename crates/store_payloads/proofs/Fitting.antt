-- What fits the fields of rows: each change of the tables keeps it.
use Rattle.std.proofs.Common.{List, [], ◌∷◌, ◌++◌}
use Rattle.std.specs.List.{AllByRecursion as Each}
use Rattle.lists_and_limits.proofs.Each.{each_append}
use Rattle.stamp_lanes.specs.declared.lane.Lane.{Lane}
use Rattle.stamp_lanes.specs.declared.node.NodeLanes.{NodeLanes}
use Rattle.stamp_lanes.specs.Restores.{member_of}
use Rattle.state_rows.specs.declared.entry.StateEntry.{StateEntry}
use Rattle.reminder_rows.specs.declared.row.ReminderRow.{ReminderRow}
use Rattle.store_tables.specs.declared.row.TableRow.{TableRow}
use Rattle.store_tables.specs.Tables.{Tables}
use Rattle.store_tables.specs.Rows.{boot_rows, member_rows, lane_rows, state_rows, reminder_rows, table_rows}
use Rattle.store_payloads.specs.Fields.{state_fields, table_row}
use Rattle.store_payloads.specs.Fits.{BootFits, LaneFits, LanesFit, ReminderFits, TablesFit}

boots_fit : (es : List NodeLanes) → Each BootFits es → Each table_row.Fits (boot_rows es)
unfolding table_row
boots_fit [] all = tt
boots_fit (e ∷ es) all = (all.0, boots_fit es all.1)

member_fit : (e : NodeLanes) (ls : List Lane) → Each (LaneFits e) ls → Each table_row.Fits (member_rows (member_of e) ls)
unfolding table_row
member_fit e [] all = tt
member_fit e (l ∷ ls) all = (all.0, member_fit e ls all.1)

lanes_fit : (es : List NodeLanes) → Each LanesFit es → Each table_row.Fits (lane_rows es)
lanes_fit [] all = tt
lanes_fit (e ∷ es) all = each_append table_row.Fits (member_rows (member_of e) e.lanes) (lane_rows es) (member_fit e e.lanes all.0) (lanes_fit es all.1)

states_fit : (es : List StateEntry) → Each state_fields.Fits es → Each table_row.Fits (state_rows es)
unfolding table_row
states_fit [] all = tt
states_fit (e ∷ es) all = (all.0, states_fit es all.1)

reminders_fit : (es : List ReminderRow) → Each ReminderFits es → Each table_row.Fits (reminder_rows es)
unfolding table_row
reminders_fit [] all = tt
reminders_fit (e ∷ es) all = (all.0, reminders_fit es all.1)

-- if the entries fit, so do all rows
pub tables_fit : (t : Tables) → TablesFit t → Each table_row.Fits (table_rows t)
tables_fit t fits =
    each_append table_row.Fits (boot_rows t.nodes) (lane_rows t.nodes ++ (state_rows t.rows ++ reminder_rows t.reminders)) (boots_fit t.nodes fits.boots)
    (each_append table_row.Fits (lane_rows t.nodes) (state_rows t.rows ++ reminder_rows t.reminders) (lanes_fit t.nodes fits.lanes)
    (each_append table_row.Fits (state_rows t.rows) (reminder_rows t.reminders) (states_fit t.rows fits.states) (reminders_fit t.reminders fits.reminders)))
