-- The orders of lanes and of calls are total.
use Rattle.std.specs.Prelude.{ℕ}
use Rattle.std.specs.Cmp.{IsTotalOrder}
use Rattle.std.proofs.lemmas.Cmp.{nat_cmp_total, nat_list_cmp_total, on_total, then_total}
use Rattle.call_book.specs.declared.lane.LaneName.{LaneName}
use Rattle.call_book.specs.declared.lane.CallLane.{CallLane}
use Rattle.call_book.specs.declared.row.Row.{Row}
use Rattle.call_book.specs.Lanes.{lane_cmp}
use Rattle.call_book.specs.Turns.{lane_order, place, place_cmp, row_cmp}

pub names_total : IsTotalOrder lane_cmp
names_total = then_total (on_total (λ (n : LaneName). n.space) nat_list_cmp_total) (then_total (on_total (λ (n : LaneName). n.node) nat_list_cmp_total) (on_total (λ (n : LaneName). n.part) nat_cmp_total))

pub lanes_total : IsTotalOrder lane_order
lanes_total = on_total (λ (l : CallLane). l.name) names_total

pub places_total : IsTotalOrder place_cmp
places_total = then_total (on_total (λ (p : LaneName × ℕ). p.0) names_total) (on_total (λ (p : LaneName × ℕ). p.1) nat_cmp_total)

pub rows_total : IsTotalOrder row_cmp
rows_total = on_total (λ (r : Row). place r) places_total
