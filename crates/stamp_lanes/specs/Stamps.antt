-- The nodes in order of space and node: the boot that each drew last, and the lanes of that boot. Own.
use Rattle.std.specs.Prelude.{◌≡◌, ◌≤◌, ◌^◌, ◌+◌, ℕ, max, min, nat_le, ◌==◌, ◌&&◌, Bool, if◌then◌else◌, List, [], ◌∷◌, length, Option, None, Some, Result, Ok, Err, is_none}
use Rattle.std.specs.List.{AllByRecursion as Every}
use Rattle.std.specs.declared.cmp.Ordering.{Ordering}
use Rattle.std.specs.declared.cmp.Ordering.TheVariants.{Greater}
use Rattle.std.specs.Ordering.{nat_cmp, ordering_then}
use Rattle.std.specs.Cmp.Lexicographic.{slice_cmp}
use Rattle.actor_names.specs.declared.member.Member.{Member}
use Rattle.lists_and_limits.specs.Lists.{found, first_behind, with_put}
use Rattle.lists_and_limits.specs.Orders.{Ascends}
use Rattle.stamp_lanes.specs.declared.answer.KeptNumber.{KeptNumber}
use Rattle.stamp_lanes.specs.declared.answer.StampLook.{StampLook}
use Rattle.stamp_lanes.specs.declared.error.StampError.{StampError}
use Rattle.stamp_lanes.specs.declared.error.StampError.TheVariants.{OtherBoot}
use Rattle.stamp_lanes.specs.declared.error.BootError.{BootError}
use Rattle.stamp_lanes.specs.declared.error.BootError.TheVariants.{NodesFull, Spent, OutOfMemory}
use Rattle.stamp_lanes.specs.declared.lane.Lane.{Lane}
use Rattle.stamp_lanes.specs.declared.node.NodeLanes.{NodeLanes}
use Rattle.stamp_lanes.specs.Lanes.{lane_of, look_lane, lanes_after, lane_cmp, IsLane}

-- the number of acceptances for which there is memory already, and the nodes in order
pub record LanesState : Type 0 where
  pub spare : ℕ
  pub nodes : List NodeLanes

-- ---- nodes

-- how a node compares with a name: by space, then by node
abbrev pub at_node : List ℕ → List ℕ → NodeLanes → Ordering
at_node space node e = ordering_then (slice_cmp nat_cmp e.space space) (slice_cmp nat_cmp e.node node)

abbrev pub node_cmp : NodeLanes → NodeLanes → Ordering
node_cmp a b = at_node b.space b.node a

abbrev pub node_at : List ℕ → List ℕ → List NodeLanes → Option NodeLanes
node_at space node nodes = found (at_node space node) nodes

-- the greatest boot of all, 0 before any: each draw gives the next number
abbrev pub greatest_boot : List NodeLanes → ℕ
greatest_boot [] = 0
greatest_boot (e ∷ es) = max e.boot (greatest_boot es)

-- a boot of a node, before its first lane
abbrev pub bare_node : List ℕ → List ℕ → ℕ → NodeLanes
bare_node space node boot = record { space = space; node = node; boot = boot; lanes = [] }

-- ---- drawing a boot

abbrev pub spent_fault : ℕ → Option BootError
spent_fault greatest = if nat_le (2 ^ 62) greatest then Some Spent else None

-- 65,536 nodes and a new one, or the counter is at 2^62
abbrev pub draw_fault : List ℕ → List ℕ → List NodeLanes → Option BootError
draw_fault space node nodes =
    if is_none (node_at space node nodes) && nat_le 65536 (length nodes) then Some (NodesFull 65536)
    else spent_fault (greatest_boot nodes)

-- the error of a draw that failed: that of the rules, or OutOfMemory if they have none
abbrev pub or_memory : Option BootError → BootError
or_memory None = OutOfMemory
or_memory (Some e) = e

-- the node has the next boot and no lanes; those of its older boot are given up
abbrev pub after_draw : List ℕ → List ℕ → List NodeLanes → List NodeLanes
after_draw space node nodes = with_put node_cmp (bare_node space node (greatest_boot nodes + 1)) nodes

-- ---- looking up a stamp

abbrev pub look_node : ℕ → ℕ → ℕ → Option NodeLanes → Result StampLook StampError
look_node boot part number None = Err (OtherBoot 0)
look_node boot part number (Some e) = if e.boot == boot then look_lane number (lane_of part e.lanes) else Err (OtherBoot e.boot)

-- the boot first, then a number that is kept, then the floor
abbrev pub look : Member → ℕ → ℕ → List NodeLanes → Result StampLook StampError
look member part number nodes = look_node member.boot part number (node_at member.space member.node nodes)

-- ---- accepting a stamp

abbrev pub node_after : ℕ → KeptNumber → NodeLanes → NodeLanes
node_after part k e = record e { lanes = lanes_after part k e.lanes }

abbrev pub nodes_after : ℕ → KeptNumber → Option NodeLanes → List NodeLanes → List NodeLanes
nodes_after part k None nodes = nodes
nodes_after part k (Some e) nodes = with_put node_cmp (node_after part k e) nodes

-- the stamp joins its lane with its answer
abbrev pub after_accept : Member → ℕ → KeptNumber → List NodeLanes → List NodeLanes
after_accept member part k nodes = nodes_after part k (node_at member.space member.node nodes) nodes

-- ---- the nodes one after another

-- how a node compares with the place of another one; without one, each node is behind it
abbrev pub after_node : Option NodeLanes → NodeLanes → Ordering
after_node None e = Greater
after_node (Some place) e = node_cmp e place

-- the same for the lanes of a node
abbrev pub after_part : Option ℕ → Lane → Ordering
after_part None lane = Greater
after_part (Some part) lane = nat_cmp lane.part part

abbrev pub next_lane : Option ℕ → Option NodeLanes → Option Lane
next_lane after None = None
next_lane after (Some e) = first_behind (after_part after) e.lanes

-- ---- what holds of the nodes that are kept

-- the lanes are in order, each of a part of its own
pub record IsNode (e : NodeLanes) : Type 0 where
  pub order : Ascends lane_cmp e.lanes
  pub lanes : Every IsLane e.lanes

-- The nodes are in order, each once, and the counter of boots is the greatest of theirs. More than 65,536 nodes count as
-- that many.
pub record IsSound (nodes : List NodeLanes) (greatest count : ℕ) : Type 0 where
  pub order : Ascends node_cmp nodes
  pub each : Every IsNode nodes
  pub boots : greatest ≡ greatest_boot nodes
  pub limit : greatest ≤ 2 ^ 62
  pub counted : count ≡ min 65536 (length nodes)
