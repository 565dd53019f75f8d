-- A boot that has its memory, and the room for the next acceptance. Own.
use Rattle.std.specs.Prelude.{ℕ, List, Option, None, Some}
use Rattle.stamp_lanes.specs.declared.prepared.PreparedBoot.{PreparedBoot}

-- room for one acceptance is there if there is a node for its lane
abbrev pub spare_of : {A : Type 0} → Option A → ℕ
spare_of None = 0
spare_of (Some lane) = 1

-- the node that draws it
abbrev pub space_of : PreparedBoot → List ℕ
space_of boot = boot.node.value.element.space

abbrev pub node_of : PreparedBoot → List ℕ
node_of boot = boot.node.value.element.node
