-- The rows of tables stand in order, and lead back to the tables.
use Rattle.std.proofs.Common.{◌≡◌, ◌≤◌, ◌^◌, ℕ, Bool, true, false, List, [], ◌∷◌, ◌++◌, Option, Some, None, refl, sym, ap, subst, ◌∙◌, append_assoc, arith}
use Rattle.std.specs.Prelude.{max, nat_le, is_none, is_some, ◌&&◌}
use Rattle.std.proofs.lemmas.Bool.Decides.{nat_tests}
use Rattle.std.specs.declared.cmp.Ordering.TheVariants.{Equal}
use Rattle.std.specs.Ordering.{nat_cmp, ordering_then, is_eq, is_lt}
use Rattle.std.proofs.lemmas.Cmp.{tied_itself}
use Rattle.actor_names.specs.declared.member.Member.{Member}
use Rattle.lists_and_limits.specs.Orders.{IsBelow, Ascends}
use Rattle.lists_and_limits.proofs.Fronts.{none_before, before_of}
use Rattle.lists_and_limits.proofs.Walks.{put-last}
use Rattle.stamp_lanes.specs.declared.lane.Lane.{Lane}
use Rattle.stamp_lanes.specs.declared.node.NodeLanes.{NodeLanes}
use Rattle.stamp_lanes.specs.Lanes.{lane_cmp}
use Rattle.std.specs.List.{AllByRecursion as Every}
use Rattle.stamp_lanes.specs.Stamps.{greatest_boot, node_cmp, IsNode}
use Rattle.stamp_lanes.specs.Orders.{nodes_total}
use Rattle.stamp_lanes.specs.Restores.{Row, BootRow, LaneRow, boot_row_fault, lane_row_fault, member_of, row_fault, after_row, rows_of_member, boot_rows as lanes_boot_rows, lane_rows as lanes_lane_rows, rows_of, Restores as LanesRestore}
use Rattle.state_rows.specs.declared.entry.StateEntry.{StateEntry}
use Rattle.state_rows.specs.Entries.{row_cmp}
use Rattle.state_rows.specs.Orders.{rows_total}
use Rattle.reminder_rows.specs.declared.row.ReminderRow.{ReminderRow}
use Rattle.reminder_rows.specs.Reminders.{row_cmp as reminder_cmp, put_at, IsTimely, AreTimely}
use Rattle.reminder_rows.specs.Orders.{rows_total as reminders_total}
use Rattle.store_tables.specs.declared.row.TableRow.{TableRow}
use Rattle.store_tables.specs.declared.row.TableRow.TheVariants.{Boot, Lane as LaneOf, State, Reminder}
use Rattle.store_tables.specs.declared.row.RowKey.{RowKey}
use Rattle.store_tables.specs.declared.row.RowKey.TheVariants as keys
use Rattle.store_tables.specs.Tables.{Tables, no_tables}
use Rattle.store_tables.specs.Rows.{boot_rows, member_rows, lane_rows, state_rows, reminder_rows, table_rows, key_of, rank, is_taken, with_row, Restores, is_behind, AreInOrder}

nil_right : {A : Type 0} (xs : List A) → xs ++ [] ≡ xs
nil_right [] = refl
nil_right (x ∷ xs) = ap (λ ys. x ∷ ys) (nil_right xs)

-- ---- rows lead back

abbrev as_row : Row → TableRow
as_row (BootRow space node boot) = Boot space node boot
as_row (LaneRow member lane) = LaneOf member lane.part lane.floor lane.kept

abbrev as_rows : List Row → List TableRow
as_rows [] = []
as_rows (r ∷ rs) = as_row r ∷ as_rows rs

-- boots that are at most 2^62
abbrev SmallRow : Row → Type 0
SmallRow (BootRow space node boot) = nat_le boot (2 ^ 62) ≡ true
SmallRow (LaneRow member lane) = Unit {0}

abbrev SmallRows : List Row → Type 0
SmallRows [] = Unit {0}
SmallRows (r ∷ rs) = SmallRow r × SmallRows rs

and_true : (a b : Bool) → a ≡ true → b ≡ true → (a && b) ≡ true
and_true true b one other = other
and_true false b one other = absurd (cc)

row_taken : (r : Row) (nodes : List NodeLanes) (t : Tables) → SmallRow r → row_fault r nodes ≡ None → is_taken (as_row r) (record t { nodes = nodes }) ≡ true
row_taken (BootRow space node boot) nodes t small none = and_true (nat_le boot (2 ^ 62)) (is_none (boot_row_fault space node nodes)) small (ap is_none none)
row_taken (LaneRow member lane) nodes t small none = ap is_none none

with_as : (r : Row) (nodes : List NodeLanes) (t : Tables) → with_row (as_row r) (record t { nodes = nodes }) ≡ record t { nodes = after_row r nodes }
with_as (BootRow space node boot) nodes t = refl
with_as (LaneRow member lane) nodes t = refl

nodes_lead : (rs : List Row) (first last : List NodeLanes) (t : Tables) (tail : List TableRow) (u : Tables) → SmallRows rs → LanesRestore rs first last → Restores tail (record t { nodes = last }) u → Restores (as_rows rs ++ tail) (record t { nodes = first }) u
nodes_lead [] first last t tail u small lanes leads = subst (λ (l : List NodeLanes). Restores tail (record t { nodes = l }) u) (sym lanes) leads
nodes_lead (r ∷ rs) first last t tail u small lanes leads = (
  row_taken r first t small.0 lanes.0,
  subst (λ (x : Tables). Restores (as_rows rs ++ tail) x u) (sym (with_as r first t)) (nodes_lead rs (after_row r first) last t tail u small.1 lanes.1 leads),
)

states_lead : (front back : List StateEntry) (t : Tables) (tail : List TableRow) (u : Tables) → Ascends row_cmp (front ++ back) → Restores tail (record t { rows = front ++ back }) u → Restores (state_rows back ++ tail) (record t { rows = front }) u
states_lead front [] t tail u order leads = subst (λ (l : List StateEntry). Restores tail (record t { rows = l }) u) (nil_right front) leads
states_lead front (e ∷ back) t tail u order leads =
    let regrouped : (front ++ e ∷ []) ++ back ≡ front ++ e ∷ back = append_assoc front (e ∷ []) back in
    let rest = states_lead (front ++ e ∷ []) back t tail u (subst (Ascends row_cmp) (sym regrouped) order) (subst (λ (l : List StateEntry). Restores tail (record t { rows = l }) u) (sym regrouped) leads) in (
      ap is_none (none_before (λ x. x) row_cmp e front (before_of (λ x. x) row_cmp front e back order)),
      subst (λ (l : List StateEntry). Restores (state_rows back ++ tail) (record t { rows = l }) u) (sym (put-last row_cmp rows_total front e back order)) rest,
    )

reminders_lead : (front back : List ReminderRow) (t : Tables) (u : Tables) → Ascends reminder_cmp (front ++ back) → AreTimely back → record t { reminders = front ++ back } ≡ u → Restores (reminder_rows back) (record t { reminders = front }) u
reminders_lead front [] t u order timely is = ap (λ (l : List ReminderRow). record t { reminders = l }) (sym (nil_right front)) ∙ is
reminders_lead front (e ∷ back) t u order timely is =
    let regrouped : (front ++ e ∷ []) ++ back ≡ front ++ e ∷ back = append_assoc front (e ∷ []) back in
    let rest = reminders_lead (front ++ e ∷ []) back t u (subst (Ascends reminder_cmp) (sym regrouped) order) timely.1 (ap (λ (l : List ReminderRow). record t { reminders = l }) regrouped ∙ is) in
    let put : put_at e.reminder.schedule.first e.key.actor e.key.name e.reminder front ≡ front ++ e ∷ [] =
    ap (λ o. put_at o e.key.actor e.key.name e.reminder front) timely.0 ∙ put-last reminder_cmp reminders_total front e back order in (
      and_true (is_some e.reminder.schedule.first) _ (ap is_some timely.0) (ap is_none (none_before (λ x. x) reminder_cmp e front (before_of (λ x. x) reminder_cmp front e back order))),
      subst (λ (l : List ReminderRow). Restores (reminder_rows back) (record t { reminders = l }) u) (sym put) rest,
    )

-- ---- the rows of nodes are those of the lanes' crate

boot_rows_as : (nodes : List NodeLanes) → boot_rows nodes ≡ as_rows (lanes_boot_rows nodes)
boot_rows_as [] = refl
boot_rows_as (e ∷ es) = ap (λ rs. Boot e.space e.node e.boot ∷ rs) (boot_rows_as es)

as_append : (xs ys : List Row) → as_rows (xs ++ ys) ≡ as_rows xs ++ as_rows ys
as_append [] ys = refl
as_append (x ∷ xs) ys = ap (λ rs. as_row x ∷ rs) (as_append xs ys)

member_rows_as : (member : Member) (lanes : List Lane) → member_rows member lanes ≡ as_rows (rows_of_member member lanes)
member_rows_as member [] = refl
member_rows_as member (l ∷ ls) = ap (λ rs. LaneOf member l.part l.floor l.kept ∷ rs) (member_rows_as member ls)

lane_rows_as : (nodes : List NodeLanes) → lane_rows nodes ≡ as_rows (lanes_lane_rows nodes)
lane_rows_as [] = refl
lane_rows_as (e ∷ es) =
    ap (λ rs. rs ++ lane_rows es) (member_rows_as (member_of e) e.lanes) ∙ ap (λ rs. as_rows (rows_of_member (member_of e) e.lanes) ++ rs) (lane_rows_as es)
    ∙ sym (as_append (rows_of_member (member_of e) e.lanes) (lanes_lane_rows es))

-- each boot is at most 2^62
abbrev pub SmallBoots : List NodeLanes → Type 0
SmallBoots [] = Unit {0}
SmallBoots (e ∷ es) = (nat_le e.boot (2 ^ 62) ≡ true) × SmallBoots es

small_append : (xs ys : List Row) → SmallRows xs → SmallRows ys → SmallRows (xs ++ ys)
small_append [] ys one other = other
small_append (x ∷ xs) ys one other = (one.0, small_append xs ys one.1 other)

small_boots : (nodes : List NodeLanes) → SmallBoots nodes → SmallRows (lanes_boot_rows nodes)
small_boots [] small = tt
small_boots (e ∷ es) small = (small.0, small_boots es small.1)

small_member : (member : Member) (lanes : List Lane) → SmallRows (rows_of_member member lanes)
small_member member [] = tt
small_member member (l ∷ ls) = (tt, small_member member ls)

small_lanes : (nodes : List NodeLanes) → SmallRows (lanes_lane_rows nodes)
small_lanes [] = tt
small_lanes (e ∷ es) = small_append (rows_of_member (member_of e) e.lanes) (lanes_lane_rows es) (small_member (member_of e) e.lanes) (small_lanes es)

node_rows_as : (nodes : List NodeLanes) (tail : List TableRow) → boot_rows nodes ++ (lane_rows nodes ++ tail) ≡ as_rows (rows_of nodes) ++ tail
node_rows_as nodes tail =
    ap (λ rs. rs ++ (lane_rows nodes ++ tail)) (boot_rows_as nodes) ∙ ap (λ rs. as_rows (lanes_boot_rows nodes) ++ (rs ++ tail)) (lane_rows_as nodes)
    ∙ sym (append_assoc (as_rows (lanes_boot_rows nodes)) (as_rows (lanes_lane_rows nodes)) tail)
    ∙ ap (λ rs. rs ++ tail) (sym (as_append (lanes_boot_rows nodes) (lanes_lane_rows nodes)))

-- the rows of tables, one after another, lead from nothing to the tables
pub rows_lead : (t : Tables) → SmallBoots t.nodes → LanesRestore (rows_of t.nodes) [] t.nodes → Ascends row_cmp t.rows → Ascends reminder_cmp t.reminders → AreTimely t.reminders → Restores (table_rows t) no_tables t
rows_lead t small lanes states reminders timely =
    let tail = state_rows t.rows ++ reminder_rows t.reminders in
    let last = reminders_lead [] t.reminders t t reminders timely refl in
    let middle = states_lead [] t.rows (record t { reminders = [] }) (reminder_rows t.reminders) t states last in
    let whole = nodes_lead (rows_of t.nodes) [] t.nodes (record t { rows = []; reminders = [] }) tail t (small_append (lanes_boot_rows t.nodes) (lanes_lane_rows t.nodes) (small_boots t.nodes small) (small_lanes t.nodes)) lanes middle in
    subst (λ (rs : List TableRow). Restores rs no_tables t) (sym (node_rows_as t.nodes tail)) whole

-- ---- rows stand in order

-- no key, or one of a kind before this one
abbrev IsBefore : ℕ → Option RowKey → Type 0
IsBefore n None = Unit {0}
IsBefore n (Some k) = nat_le (rank k) n ≡ true

abbrev last_key : Option RowKey → List TableRow → Option RowKey
last_key last [] = last
last_key last (r ∷ rs) = last_key (Some (key_of r)) rs

order_append : (last : Option RowKey) (xs ys : List TableRow) → AreInOrder last xs → AreInOrder (last_key last xs) ys → AreInOrder last (xs ++ ys)
order_append last [] ys one other = other
order_append last (x ∷ xs) ys one other = (one.0, order_append (Some (key_of x)) xs ys one.1 other)

-- boots come first
boots_from : (e : NodeLanes) (es : List NodeLanes) → Ascends node_cmp (e ∷ es) → AreInOrder (Some (keys.Boot e.space e.node)) (boot_rows es)
boots_from e [] a = tt
boots_from e (x ∷ es) a = (ap is_lt a.0.0, boots_from x es a.1)

boots_order : (es : List NodeLanes) → Ascends node_cmp es → AreInOrder None (boot_rows es)
boots_order [] a = tt
boots_order (e ∷ es) a = (refl, boots_from e es a)

boots_last : (last : Option RowKey) (es : List NodeLanes) → IsBefore 0 last → IsBefore 0 (last_key last (boot_rows es))
boots_last last [] before = before
boots_last last (e ∷ es) before = boots_last (Some (keys.Boot e.space e.node)) es refl

-- a key of an earlier kind is before every one of a later kind
lane_behind : (last : Option RowKey) (member : Member) (part : ℕ) → IsBefore 0 last → is_behind last (keys.Lane member part) ≡ true
lane_behind None member part before = refl
lane_behind (Some (keys.Boot s n)) member part before = refl
lane_behind (Some (keys.Lane m p)) member part before = absurd (let e : false ≡ true = before in cc)
lane_behind (Some (keys.State a k)) member part before = absurd (let e : false ≡ true = before in cc)
lane_behind (Some (keys.Reminder a n)) member part before = absurd (let e : false ≡ true = before in cc)

state_behind : (last : Option RowKey) (e : StateEntry) → IsBefore 1 last → is_behind last (key_of (State e)) ≡ true
state_behind None e before = refl
state_behind (Some (keys.Boot s n)) e before = refl
state_behind (Some (keys.Lane m p)) e before = refl
state_behind (Some (keys.State a k)) e before = absurd (let f : false ≡ true = before in cc)
state_behind (Some (keys.Reminder a n)) e before = absurd (let f : false ≡ true = before in cc)

reminder_behind : (last : Option RowKey) (k : RowKey) → rank k ≡ 3 → IsBefore 2 last → is_behind last k ≡ true
reminder_behind None k three before = refl
reminder_behind (Some (keys.Boot s n)) k three before = rw three refl
reminder_behind (Some (keys.Lane m p)) k three before = rw three refl
reminder_behind (Some (keys.State a b)) k three before = rw three refl
reminder_behind (Some (keys.Reminder a n)) k three before = absurd (let f : false ≡ true = before in cc)

states_from : (e : StateEntry) (es : List StateEntry) → Ascends row_cmp (e ∷ es) → AreInOrder (Some (key_of (State e))) (state_rows es)
states_from e [] a = tt
states_from e (x ∷ es) a = (ap is_lt a.0.0, states_from x es a.1)

states_order : (last : Option RowKey) (es : List StateEntry) → IsBefore 1 last → Ascends row_cmp es → AreInOrder last (state_rows es)
states_order last [] before a = tt
states_order last (e ∷ es) before a = (state_behind last e before, states_from e es a)

states_last : (last : Option RowKey) (es : List StateEntry) → IsBefore 2 last → IsBefore 2 (last_key last (state_rows es))
states_last last [] before = before
states_last last (e ∷ es) before = states_last (Some (key_of (State e))) es refl

reminders_from : (e : ReminderRow) (es : List ReminderRow) → Ascends reminder_cmp (e ∷ es) → AreInOrder (Some (keys.Reminder e.key.actor e.key.name)) (reminder_rows es)
reminders_from e [] a = tt
reminders_from e (x ∷ es) a = (ap is_lt a.0.0, reminders_from x es a.1)

reminders_order : (last : Option RowKey) (es : List ReminderRow) → IsBefore 2 last → Ascends reminder_cmp es → AreInOrder last (reminder_rows es)
reminders_order last [] before a = tt
reminders_order last (e ∷ es) before a = (reminder_behind last (keys.Reminder e.key.actor e.key.name) refl before, reminders_from e es a)

-- ---- lanes: of one node by their parts, and node by node

-- the key is of an earlier kind, or of a lane whose node is below these
abbrev LanesMayCome : Option RowKey → List NodeLanes → Type 0
LanesMayCome None es = Unit {0}
LanesMayCome (Some (keys.Boot s n)) es = Unit {0}
LanesMayCome (Some (keys.Lane m p)) es = IsBelow node_cmp (record { space = m.space; node = m.node; boot = m.boot; lanes = [] }) es
LanesMayCome (Some (keys.State a k)) es = ⊥
LanesMayCome (Some (keys.Reminder a n)) es = ⊥

first_lane : (last : Option RowKey) (e : NodeLanes) (es : List NodeLanes) (part : ℕ) → LanesMayCome last (e ∷ es) → is_behind last (keys.Lane (member_of e) part) ≡ true
first_lane None e es part may = refl
first_lane (Some (keys.Boot s n)) e es part may = refl
first_lane (Some (keys.Lane m p)) e es part may = ap (λ o. is_lt (ordering_then o (nat_cmp p part))) may.0
first_lane (Some (keys.State a k)) e es part may = absurd may
first_lane (Some (keys.Reminder a n)) e es part may = absurd may

-- the lanes of one node, behind one of them
lanes_from : (e : NodeLanes) (l : Lane) (ls : List Lane) → Ascends lane_cmp (l ∷ ls) → AreInOrder (Some (keys.Lane (member_of e) l.part)) (member_rows (member_of e) ls)
lanes_from e l [] a = tt
lanes_from e l (x ∷ ls) a = (ap (λ o. is_lt (ordering_then o (nat_cmp l.part x.part))) (tied_itself nodes_total e) ∙ ap is_lt a.0.0, lanes_from e x ls a.1)

lanes_of_order : (last : Option RowKey) (e : NodeLanes) (es : List NodeLanes) (ls : List Lane) → LanesMayCome last (e ∷ es) → Ascends lane_cmp ls → AreInOrder last (member_rows (member_of e) ls)
lanes_of_order last e es [] may a = tt
lanes_of_order last e es (l ∷ ls) may a = (first_lane last e es l.part may, lanes_from e l ls a)

-- behind the lanes of a node those of the later nodes may come
skip_node : (last : Option RowKey) (e : NodeLanes) (es : List NodeLanes) → LanesMayCome last (e ∷ es) → LanesMayCome last es
skip_node None e es may = tt
skip_node (Some (keys.Boot s n)) e es may = tt
skip_node (Some (keys.Lane m p)) e es may = may.1
skip_node (Some (keys.State a k)) e es may = absurd may
skip_node (Some (keys.Reminder a n)) e es may = absurd may

same_below : (e : NodeLanes) (es : List NodeLanes) → IsBelow node_cmp e es → IsBelow node_cmp (record { space = e.space; node = e.node; boot = e.boot; lanes = [] }) es
same_below e [] below = tt
same_below e (x ∷ es) below = (below.0, same_below e es below.1)

behind_node : (last : Option RowKey) (e : NodeLanes) (es : List NodeLanes) (ls : List Lane) → LanesMayCome last es → IsBelow node_cmp e es → LanesMayCome (last_key last (member_rows (member_of e) ls)) es
behind_node last e es [] may below = may
behind_node last e es (l ∷ ls) may below = behind_node (Some (keys.Lane (member_of e) l.part)) e es ls (same_below e es below) below

lanes_order : (last : Option RowKey) (es : List NodeLanes) → LanesMayCome last es → Ascends node_cmp es → Every IsNode es → AreInOrder last (lane_rows es)
lanes_order last [] may a each = tt
lanes_order last (e ∷ es) may a each =
    order_append last (member_rows (member_of e) e.lanes) (lane_rows es) (lanes_of_order last e es e.lanes may each.0.order)
    (lanes_order (last_key last (member_rows (member_of e) e.lanes)) es (behind_node last e es e.lanes (skip_node last e es may) a.0) a.1 each.1)

member_last : (last : Option RowKey) (member : Member) (ls : List Lane) → IsBefore 1 last → IsBefore 1 (last_key last (member_rows member ls))
member_last last member [] before = before
member_last last member (l ∷ ls) before = member_last (Some (keys.Lane member l.part)) member ls refl

last_append : (last : Option RowKey) (xs ys : List TableRow) → last_key last (xs ++ ys) ≡ last_key (last_key last xs) ys
last_append last [] ys = refl
last_append last (x ∷ xs) ys = last_append (Some (key_of x)) xs ys

lanes_last : (last : Option RowKey) (es : List NodeLanes) → IsBefore 1 last → IsBefore 1 (last_key last (lane_rows es))
lanes_last last [] before = before
lanes_last last (e ∷ es) before =
    subst (IsBefore 1) (sym (last_append last (member_rows (member_of e) e.lanes) (lane_rows es)))
    (lanes_last (last_key last (member_rows (member_of e) e.lanes)) es (member_last last (member_of e) e.lanes before))

-- ---- all of them

boots_then : (last : Option RowKey) (es : List NodeLanes) → IsBefore 0 last → LanesMayCome last es
boots_then None es before = tt
boots_then (Some (keys.Boot s n)) es before = tt
boots_then (Some (keys.Lane m p)) es before = absurd (let f : false ≡ true = before in cc)
boots_then (Some (keys.State a k)) es before = absurd (let f : false ≡ true = before in cc)
boots_then (Some (keys.Reminder a n)) es before = absurd (let f : false ≡ true = before in cc)

more : (k : Option RowKey) → IsBefore 0 k → IsBefore 1 k
more None before = tt
more (Some (keys.Boot s n)) before = refl
more (Some (keys.Lane m p)) before = refl
more (Some (keys.State a b)) before = absurd (let f : false ≡ true = before in cc)
more (Some (keys.Reminder a n)) before = absurd (let f : false ≡ true = before in cc)

more_again : (k : Option RowKey) → IsBefore 1 k → IsBefore 2 k
more_again None before = tt
more_again (Some (keys.Boot s n)) before = refl
more_again (Some (keys.Lane m p)) before = refl
more_again (Some (keys.State a b)) before = refl
more_again (Some (keys.Reminder a n)) before = absurd (let f : false ≡ true = before in cc)

pub rows_order : (t : Tables) → Ascends node_cmp t.nodes → Every IsNode t.nodes → Ascends row_cmp t.rows → Ascends reminder_cmp t.reminders → AreInOrder None (table_rows t)
rows_order t nodes each states reminders =
    let boots = last_key None (boot_rows t.nodes) in
    let first : IsBefore 0 boots = boots_last None t.nodes tt in
    let lanes = last_key boots (lane_rows t.nodes) in
    let second : IsBefore 1 lanes = lanes_last boots t.nodes (more boots first) in
    let third = last_key lanes (state_rows t.rows) in
    order_append None (boot_rows t.nodes) (lane_rows t.nodes ++ (state_rows t.rows ++ reminder_rows t.reminders)) (boots_order t.nodes nodes)
    (order_append boots (lane_rows t.nodes) (state_rows t.rows ++ reminder_rows t.reminders) (lanes_order boots t.nodes (boots_then boots t.nodes first) nodes each)
    (order_append lanes (state_rows t.rows) (reminder_rows t.reminders) (states_order lanes t.rows second states)
    (reminders_order third t.reminders (states_last lanes t.rows (more_again lanes second)) reminders)))

-- ---- boots

max_left : (m n : ℕ) → m ≤ max m n
max_left m n = omega arith

max_right : (m n : ℕ) → n ≤ max m n
max_right m n = omega arith

pub small_from : (es : List NodeLanes) → greatest_boot es ≤ 2 ^ 62 → SmallBoots es
small_from [] limit = tt
small_from (e ∷ es) limit =
    let left = max_left e.boot (greatest_boot es) in
    let right = max_right e.boot (greatest_boot es) in (
      (let small : e.boot ≤ 2 ^ 62 = omega (arith, left, limit) in grind (arith, nat_tests)),
      small_from es (omega (arith, right, limit)),
    )
