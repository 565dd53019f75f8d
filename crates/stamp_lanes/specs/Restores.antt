-- The rows of the nodes, and what they are read back to. Own.
use Rattle.std.specs.Prelude.{◌≡◌, ℕ, nat_lt, ◌==◌, Bool, if◌then◌else◌, List, [], ◌∷◌, ◌++◌, length, Option, None, Some, is_some}
use Rattle.actor_names.specs.declared.member.Member.{Member}
use Rattle.lists_and_limits.specs.Lists.{with_put}
use Rattle.stamp_lanes.specs.declared.answer.KeptNumber.{KeptNumber}
use Rattle.stamp_lanes.specs.declared.error.RestoreError.{RestoreError}
use Rattle.stamp_lanes.specs.declared.error.RestoreError.TheVariants.{SameNode, OtherBoot, SameLane, TooManyNumbers, SameNumber, OutOfMemory}
use Rattle.stamp_lanes.specs.declared.lane.Lane.{Lane}
use Rattle.stamp_lanes.specs.declared.node.NodeLanes.{NodeLanes}
use Rattle.stamp_lanes.specs.Kept.{kept_answer}
use Rattle.stamp_lanes.specs.Lanes.{lane_cmp, lane_at}
use Rattle.stamp_lanes.specs.Stamps.{node_cmp, node_at, bare_node}

-- ---- what is refused

abbrev pub boot_row_fault : List ℕ → List ℕ → List NodeLanes → Option RestoreError
boot_row_fault space node nodes = if is_some (node_at space node nodes) then Some SameNode else None

-- the first number that comes again
abbrev pub number_fault : List KeptNumber → Option RestoreError
number_fault [] = None
number_fault (k ∷ ks) = if is_some (kept_answer k.number ks) then Some (SameNumber k.number) else number_fault ks

abbrev pub numbers_fault : List KeptNumber → Option RestoreError
numbers_fault kept = if nat_lt 256 (length kept) then Some (TooManyNumbers (length kept)) else number_fault kept

abbrev pub lane_fault : ℕ → List KeptNumber → List Lane → Option RestoreError
lane_fault part kept lanes = if is_some (lane_at part lanes) then Some SameLane else numbers_fault kept

abbrev pub node_fault : ℕ → ℕ → List KeptNumber → Option NodeLanes → Option RestoreError
node_fault boot part kept None = Some (OtherBoot 0)
node_fault boot part kept (Some e) = if e.boot == boot then lane_fault part kept e.lanes else Some (OtherBoot e.boot)

-- the node's boot first, then its parts, then the numbers
abbrev pub lane_row_fault : Member → ℕ → List KeptNumber → List NodeLanes → Option RestoreError
lane_row_fault member part kept nodes = node_fault member.boot part kept (node_at member.space member.node nodes)

-- the error of a row that wasn't read: that of the rules, or OutOfMemory if they have none
abbrev pub fault_or_memory : Option RestoreError → RestoreError
fault_or_memory None = OutOfMemory
fault_or_memory (Some e) = e

-- ---- what is set

abbrev pub after_boot_row : List ℕ → List ℕ → ℕ → List NodeLanes → List NodeLanes
after_boot_row space node boot nodes = with_put node_cmp (bare_node space node boot) nodes

-- the node with one more lane
abbrev pub with_lane : Lane → NodeLanes → NodeLanes
with_lane lane e = record e { lanes = with_put lane_cmp lane e.lanes }

abbrev pub put_lane : Lane → Option NodeLanes → List NodeLanes → List NodeLanes
put_lane lane None nodes = nodes
put_lane lane (Some e) nodes = with_put node_cmp (with_lane lane e) nodes

abbrev pub after_lane_row : Member → Lane → List NodeLanes → List NodeLanes
after_lane_row member lane nodes = put_lane lane (node_at member.space member.node nodes) nodes

-- ---- the rows of nodes: first the boots, then the lanes, each in order

pub data Row : Type 0 where
  BootRow : (space node : List ℕ) → (boot : ℕ) → Row
  LaneRow : (member : Member) → (lane : Lane) → Row

abbrev pub boot_rows : List NodeLanes → List Row
boot_rows [] = []
boot_rows (e ∷ es) = BootRow e.space e.node e.boot ∷ boot_rows es

-- the lanes of one member
abbrev pub rows_of_member : Member → List Lane → List Row
rows_of_member member [] = []
rows_of_member member (l ∷ ls) = LaneRow member l ∷ rows_of_member member ls

abbrev pub member_of : NodeLanes → Member
member_of e = record { space = e.space; node = e.node; boot = e.boot }

abbrev pub lane_rows : List NodeLanes → List Row
lane_rows [] = []
lane_rows (e ∷ es) = rows_of_member (member_of e) e.lanes ++ lane_rows es

abbrev pub rows_of : List NodeLanes → List Row
rows_of nodes = boot_rows nodes ++ lane_rows nodes

abbrev pub row_fault : Row → List NodeLanes → Option RestoreError
row_fault (BootRow space node boot) nodes = boot_row_fault space node nodes
row_fault (LaneRow member lane) nodes = lane_row_fault member lane.part lane.kept nodes

abbrev pub after_row : Row → List NodeLanes → List NodeLanes
after_row (BootRow space node boot) nodes = after_boot_row space node boot nodes
after_row (LaneRow member lane) nodes = after_lane_row member lane nodes

-- no row is refused, and they lead from the first nodes to the last ones
abbrev pub Restores : List Row → List NodeLanes → List NodeLanes → Type 0
Restores [] first last = first ≡ last
Restores (r ∷ rs) first last = (row_fault r first ≡ None) × Restores rs (after_row r first) last
