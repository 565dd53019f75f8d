-- The rows of tables, element by element.
use Rattle.std.proofs.Common.{◌≡◌, ℕ, List, [], ◌∷◌, ◌++◌, Option, Some, None, refl, sym, ap, subst, ◌∙◌, append_assoc}
use Rattle.std.specs.Prelude.{map, if◌then◌else◌, IfSome}
use Rattle.std.proofs.lemmas.List.{append-nil}
use Rattle.std.specs.Ordering.{is_gt}
use Rattle.std.proofs.lemmas.Cmp.{tied_itself}
use Rattle.actor_names.specs.declared.member.Member.{Member}
use Rattle.lists_and_limits.specs.Lists.{found, first_behind}
use Rattle.lists_and_limits.specs.Orders.{Ascends}
use Rattle.lists_and_limits.specs.Walks.{following}
use Rattle.lists_and_limits.proofs.Fronts.{before_of, found-at}
use Rattle.stamp_lanes.specs.declared.lane.Lane.{Lane}
use Rattle.stamp_lanes.specs.declared.node.NodeLanes.{NodeLanes}
use Rattle.stamp_lanes.specs.Lanes.{lane_cmp}
use Rattle.stamp_lanes.specs.Restores.{member_of}
use Rattle.stamp_lanes.specs.Stamps.{node_at, node_cmp, after_node, after_part, next_lane}
use Rattle.stamp_lanes.specs.Orders.{nodes_total}
use Rattle.state_rows.specs.declared.entry.StateEntry.{StateEntry}
use Rattle.reminder_rows.specs.declared.row.ReminderRow.{ReminderRow}
use Rattle.store_tables.specs.declared.row.TableRow.{TableRow}
use Rattle.store_tables.specs.declared.row.TableRow.TheVariants.{Boot, Lane as LaneOf, State, Reminder}
use Rattle.store_tables.specs.Tables.{Tables}
use Rattle.store_tables.specs.Rows.{boot_rows, lane_rows, member_rows, state_rows, reminder_rows}
use Rattle.store_payloads.specs.Laws.{snapshot_payloads}
use Rattle.store_payloads.specs.Payloads.{row_payload}
use Rattle.store_core.proofs.Walking.{AreRowsOf}

-- ---- lists

map_then : {A B : Type 0} (f : A → B) (xs ys : List A) → map f (xs ++ ys) ≡ map f xs ++ map f ys
map_then f [] ys = refl
map_then f (x ∷ xs) ys = ap (λ zs. f x ∷ zs) (map_then f xs ys)

rows_of : {E : Type 0} (now : ℕ) (rows : List E → List TableRow) → rows [] ≡ [] → ((xs ys : List E) → rows (xs ++ ys) ≡ rows xs ++ rows ys) → AreRowsOf (λ es. map (row_payload now) (rows es))
rows_of now rows none then_ = record {
  none = ap (map (row_payload now)) none;
  then_ = λ xs ys. ap (map (row_payload now)) (then_ xs ys) ∙ map_then (row_payload now) (rows xs) (rows ys);
}

-- ---- rows of each kind

boots_then : (xs ys : List NodeLanes) → boot_rows (xs ++ ys) ≡ boot_rows xs ++ boot_rows ys
boots_then [] ys = refl
boots_then (x ∷ xs) ys = ap (λ rs. Boot x.space x.node x.boot ∷ rs) (boots_then xs ys)

members_then : (m : Member) (xs ys : List Lane) → member_rows m (xs ++ ys) ≡ member_rows m xs ++ member_rows m ys
members_then m [] ys = refl
members_then m (x ∷ xs) ys = ap (λ rs. LaneOf m x.part x.floor x.kept ∷ rs) (members_then m xs ys)

lanes_then : (xs ys : List NodeLanes) → lane_rows (xs ++ ys) ≡ lane_rows xs ++ lane_rows ys
lanes_then [] ys = refl
lanes_then (x ∷ xs) ys = ap (λ rs. member_rows (member_of x) x.lanes ++ rs) (lanes_then xs ys) ∙ sym (append_assoc (member_rows (member_of x) x.lanes) (lane_rows xs) (lane_rows ys))

states_then : (xs ys : List StateEntry) → state_rows (xs ++ ys) ≡ state_rows xs ++ state_rows ys
states_then [] ys = refl
states_then (x ∷ xs) ys = ap (λ rs. State x ∷ rs) (states_then xs ys)

reminders_then : (xs ys : List ReminderRow) → reminder_rows (xs ++ ys) ≡ reminder_rows xs ++ reminder_rows ys
reminders_then [] ys = refl
reminders_then (x ∷ xs) ys = ap (λ rs. Reminder x.key.actor x.key.name x.reminder ∷ rs) (reminders_then xs ys)

abbrev pub boot_payloads : ℕ → List NodeLanes → List (List ℕ)
boot_payloads now es = map (row_payload now) (boot_rows es)

abbrev pub member_payloads : ℕ → Member → List Lane → List (List ℕ)
member_payloads now m ls = map (row_payload now) (member_rows m ls)

abbrev pub lane_payloads : ℕ → List NodeLanes → List (List ℕ)
lane_payloads now es = map (row_payload now) (lane_rows es)

abbrev pub state_payloads : ℕ → List StateEntry → List (List ℕ)
state_payloads now es = map (row_payload now) (state_rows es)

abbrev pub reminder_payloads : ℕ → List ReminderRow → List (List ℕ)
reminder_payloads now es = map (row_payload now) (reminder_rows es)

pub boots_are : (now : ℕ) → AreRowsOf (boot_payloads now)
boots_are now = rows_of now boot_rows refl boots_then

pub members_are : (now : ℕ) (m : Member) → AreRowsOf (member_payloads now m)
members_are now m = rows_of now (member_rows m) refl (members_then m)

pub lanes_are : (now : ℕ) → AreRowsOf (lane_payloads now)
lanes_are now = rows_of now lane_rows refl lanes_then

pub states_are : (now : ℕ) → AreRowsOf (state_payloads now)
states_are now = rows_of now state_rows refl states_then

pub reminders_are : (now : ℕ) → AreRowsOf (reminder_payloads now)
reminders_are now = rows_of now reminder_rows refl reminders_then

-- the rows of a snapshot are those of each kind
pub snapshot_is : (now : ℕ) (t : Tables) → snapshot_payloads now t ≡ boot_payloads now t.nodes ++ (lane_payloads now t.nodes ++ (state_payloads now t.rows ++ reminder_payloads now t.reminders))
snapshot_is now t =
    map_then (row_payload now) (boot_rows t.nodes) (lane_rows t.nodes ++ (state_rows t.rows ++ reminder_rows t.reminders))
    ∙ ap (λ rs. boot_payloads now t.nodes ++ rs)
    (map_then (row_payload now) (lane_rows t.nodes) (state_rows t.rows ++ reminder_rows t.reminders)
    ∙ ap (λ rs. lane_payloads now t.nodes ++ rs) (map_then (row_payload now) (state_rows t.rows) (reminder_rows t.reminders)))

-- ---- an element in its place

pub node_here : (front : List NodeLanes) (e : NodeLanes) (back : List NodeLanes) → Ascends node_cmp (front ++ e ∷ back) → node_at e.space e.node (front ++ e ∷ back) ≡ Some e
node_here front e back order = found-at (λ x. x) node_cmp e e front back (before_of (λ x. x) node_cmp front e back order) (tied_itself nodes_total e)

-- ---- walks

behind_node : (place : Option NodeLanes) (nodes : List NodeLanes) → first_behind (after_node place) nodes ≡ following node_cmp place nodes
behind_node None [] = refl
behind_node None (e ∷ es) = refl
behind_node (Some p) [] = refl
behind_node (Some p) (e ∷ es) = ap (λ (r : Option NodeLanes). if is_gt (node_cmp e p) then Some e else r) (behind_node (Some p) es)

-- what the next node is
pub next_node_is : (place found : Option NodeLanes) (nodes : List NodeLanes) → found ≡ first_behind (after_node place) nodes → following node_cmp place nodes ≡ found
next_node_is place found nodes is = sym (behind_node place nodes) ∙ sym is

abbrev pub part_in : Option Lane → Option ℕ
part_in None = None
part_in (Some l) = Some l.part

behind_part : (place : Option Lane) (lanes : List Lane) → first_behind (after_part (part_in place)) lanes ≡ following lane_cmp place lanes
behind_part None [] = refl
behind_part None (l ∷ ls) = refl
behind_part (Some p) [] = refl
behind_part (Some p) (l ∷ ls) = ap (λ (r : Option Lane). if is_gt (lane_cmp l p) then Some l else r) (behind_part (Some p) ls)

-- what the next lane of a node is
pub next_lane_is : (place found : Option Lane) (after : Option ℕ) (here : Option NodeLanes) (e : NodeLanes) → after ≡ part_in place → here ≡ Some e → found ≡ next_lane after here → following lane_cmp place e.lanes ≡ found
next_lane_is place found after here e part known is =
    sym (behind_part place e.lanes) ∙ sym (is ∙ ap (next_lane after) known ∙ ap (λ a. next_lane a (Some e)) part)

-- the part of a lane, as a call answers it
pub part_is : (o : Option Lane) (r : Option ℕ) → IfSome o (λ l. r ≡ Some l.part) → (o ≡ None → r ≡ None) → r ≡ part_in o
part_is None r some none = none refl
part_is (Some l) r some none = some

-- the rows of the lanes of one node
pub lanes_of_one : (now : ℕ) (e : NodeLanes) → lane_payloads now (e ∷ []) ≡ member_payloads now (member_of e) e.lanes
lanes_of_one now e = ap (map (row_payload now)) (append-nil (member_rows (member_of e) e.lanes))

pub node_known : (nodes front : List NodeLanes) (e : NodeLanes) (back : List NodeLanes) → nodes ≡ front ++ e ∷ back → Ascends node_cmp nodes → node_at e.space e.node nodes ≡ Some e
node_known nodes front e back is order = ap (node_at e.space e.node) is ∙ node_here front e back (subst (Ascends node_cmp) is order)
