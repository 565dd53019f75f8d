-- Tables in order. Own.
use Rattle.lists_and_limits.specs.Orders.{Ascends}
use Rattle.std.specs.List.{AllByRecursion as Every}
use Rattle.stamp_lanes.specs.Stamps.{node_cmp, IsNode}
use Rattle.state_rows.specs.Entries.{row_cmp}
use Rattle.reminder_rows.specs.Reminders.{row_cmp as reminder_cmp, AreTimely}
use Rattle.store_tables.specs.Tables.{Tables}

-- nodes, the lanes of each, entries and reminders stand in order of their keys, each key once; a reminder is due at the
-- first moment of its schedule
pub record AreOrdered (t : Tables) : Type 0 where
  pub nodes : Ascends node_cmp t.nodes
  pub lanes : Every IsNode t.nodes
  pub rows : Ascends row_cmp t.rows
  pub reminders : Ascends reminder_cmp t.reminders
  pub timely : AreTimely t.reminders
