-- The orders of lanes and of nodes are total.
use Rattle.std.specs.Cmp.{IsTotalOrder}
use Rattle.std.proofs.lemmas.Cmp.{nat_cmp_total, nat_list_cmp_total, on_total, then_total}
use Rattle.stamp_lanes.specs.declared.lane.Lane.{Lane}
use Rattle.stamp_lanes.specs.declared.node.NodeLanes.{NodeLanes}
use Rattle.stamp_lanes.specs.Lanes.{lane_cmp}
use Rattle.stamp_lanes.specs.Stamps.{node_cmp}

pub lanes_total : IsTotalOrder lane_cmp
lanes_total = on_total (λ (l : Lane). l.part) nat_cmp_total

pub nodes_total : IsTotalOrder node_cmp
nodes_total = then_total (on_total (λ (e : NodeLanes). e.space) nat_list_cmp_total) (on_total (λ (e : NodeLanes). e.node) nat_list_cmp_total)
