-- The rows of a snapshot: which ones tables have, in which order they stand, and what each one sets. Own.
use Rattle.std.specs.Prelude.{◌≡◌, ◌^◌, ℕ, ◌&&◌, nat_le, Bool, true, if◌then◌else◌, List, [], ◌∷◌, ◌++◌, Option, None, Some, is_none, is_some}
use Rattle.std.specs.declared.cmp.Ordering.{Ordering}
use Rattle.std.specs.declared.cmp.Ordering.TheVariants.{Less}
use Rattle.std.specs.Ordering.{nat_cmp, ordering_then, is_lt}
use Rattle.std.specs.Cmp.Lexicographic.{slice_cmp}
use Rattle.actor_names.specs.declared.member.Member.{Member}
use Rattle.lists_and_limits.specs.Lists.{with_put}
use Rattle.stamp_lanes.specs.declared.lane.Lane.{Lane}
use Rattle.stamp_lanes.specs.declared.node.NodeLanes.{NodeLanes}
use Rattle.stamp_lanes.specs.Restores.{boot_row_fault, lane_row_fault, after_boot_row, after_lane_row, member_of}
use Rattle.state_rows.specs.declared.entry.StateEntry.{StateEntry}
use Rattle.state_rows.specs.Entries.{entry_at, row_cmp, place_cmp}
use Rattle.reminder_rows.specs.declared.row.ReminderRow.{ReminderRow}
use Rattle.reminder_rows.specs.Reminders.{row_at, put_row}
use Rattle.store_tables.specs.declared.row.TableRow.{TableRow}
use Rattle.store_tables.specs.declared.row.TableRow.TheVariants.{Boot, Lane as LaneOf, State, Reminder}
use Rattle.store_tables.specs.declared.row.RowKey.{RowKey}
use Rattle.store_tables.specs.declared.row.RowKey.TheVariants as keys
use Rattle.store_tables.specs.Tables.{Tables}

-- ---- the rows of tables

abbrev pub boot_rows : List NodeLanes → List TableRow
boot_rows [] = []
boot_rows (e ∷ es) = Boot e.space e.node e.boot ∷ boot_rows es

-- the lanes of one member
abbrev pub member_rows : Member → List Lane → List TableRow
member_rows member [] = []
member_rows member (l ∷ ls) = LaneOf member l.part l.floor l.kept ∷ member_rows member ls

abbrev pub lane_rows : List NodeLanes → List TableRow
lane_rows [] = []
lane_rows (e ∷ es) = member_rows (member_of e) e.lanes ++ lane_rows es

-- also those whose time is over
abbrev pub state_rows : List StateEntry → List TableRow
state_rows [] = []
state_rows (e ∷ es) = State e ∷ state_rows es

abbrev pub reminder_rows : List ReminderRow → List TableRow
reminder_rows [] = []
reminder_rows (e ∷ es) = Reminder e.key.actor e.key.name e.reminder ∷ reminder_rows es

-- one row for each boot, lane, entry and reminder, in order of kind, then of key
abbrev pub table_rows : Tables → List TableRow
table_rows t = boot_rows t.nodes ++ (lane_rows t.nodes ++ (state_rows t.rows ++ reminder_rows t.reminders))

-- ---- their order

abbrev pub key_of : TableRow → RowKey
key_of (Boot space node boot) = keys.Boot space node
key_of (LaneOf member part floor kept) = keys.Lane member part
key_of (State row) = keys.State row.actor row.key
key_of (Reminder actor name reminder) = keys.Reminder actor name

-- the place of a kind in the order
abbrev pub rank : RowKey → ℕ
rank (keys.Boot space node) = 0
rank (keys.Lane member part) = 1
rank (keys.State actor key) = 2
rank (keys.Reminder actor name) = 3

abbrev pub node_place_cmp : List ℕ → List ℕ → List ℕ → List ℕ → Ordering
node_place_cmp space node other_space other_node = ordering_then (slice_cmp nat_cmp space other_space) (slice_cmp nat_cmp node other_node)

-- the order of keys of one kind, part by part; names and keys in byte order
abbrev pub same_kind_cmp : RowKey → RowKey → Ordering
same_kind_cmp (keys.Boot space node) (keys.Boot s n) = node_place_cmp space node s n
same_kind_cmp (keys.Lane m part) (keys.Lane n p) = ordering_then (node_place_cmp m.space m.node n.space n.node) (nat_cmp part p)
same_kind_cmp (keys.State actor key) (keys.State a k) = place_cmp actor key a k
same_kind_cmp (keys.Reminder actor name) (keys.Reminder a n) = place_cmp actor name a n
same_kind_cmp k l = Less

-- by kind, then by key
abbrev pub key_cmp : RowKey → RowKey → Ordering
key_cmp k l = ordering_then (nat_cmp (rank k) (rank l)) (same_kind_cmp k l)

-- ---- what a row sets

-- A row is taken in if its key has none yet. A boot is at most 2^62. A lane is of its node's boot, and has at most 256
-- numbers, each once. A reminder is due.
abbrev pub is_taken : TableRow → Tables → Bool
is_taken (Boot space node boot) t = nat_le boot (2 ^ 62) && is_none (boot_row_fault space node t.nodes)
is_taken (LaneOf member part floor kept) t = is_none (lane_row_fault member part kept t.nodes)
is_taken (State row) t = is_none (entry_at row.actor row.key t.rows)
is_taken (Reminder actor name reminder) t = is_some reminder.schedule.first && is_none (row_at actor name t.reminders)

-- the tables with it
abbrev pub with_row : TableRow → Tables → Tables
with_row (Boot space node boot) t = record t { nodes = after_boot_row space node boot t.nodes }
with_row (LaneOf member part floor kept) t = record t { nodes = after_lane_row member (record { part = part; floor = floor; kept = kept }) t.nodes }
with_row (State row) t = record t { rows = with_put row_cmp row t.rows }
with_row (Reminder actor name reminder) t = record t { reminders = put_row actor name reminder t.reminders }

-- the same, or None if it isn't taken in
abbrev pub restored : TableRow → Tables → Option Tables
restored r t = if is_taken r t then Some (with_row r t) else None

-- ---- what the rows of tables lead to

-- these rows, one after another, lead from tables to others
abbrev pub Restores : List TableRow → Tables → Tables → Type 0
Restores [] first last = first ≡ last
Restores (r ∷ rs) first last = (is_taken r first ≡ true) × Restores rs (with_row r first) last

-- whether a row comes behind the one before it
abbrev pub is_behind : Option RowKey → RowKey → Bool
is_behind None k = true
is_behind (Some last) k = is_lt (key_cmp last k)

-- each row comes behind the one before it
abbrev pub AreInOrder : Option RowKey → List TableRow → Type 0
AreInOrder last [] = Unit {0}
AreInOrder last (r ∷ rs) = (is_behind last (key_of r) ≡ true) × AreInOrder (Some (key_of r)) rs
