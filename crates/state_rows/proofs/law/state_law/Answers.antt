use Rattle.lists_and_limits.proofs.Maps.{put-there, put-others, without-gone, without-others}
use Rattle.state_rows.specs.Entries.{row_cmp}
use Rattle.state_rows.specs.Orders.{rows_total}
use Rattle.state_rows.proofs.Places.{entry_of}
use Rattle.state_rows.proofs.law.state_law.Goals as goal

pub returns : goal.returns
returns c = record {
  order = c.in_order.ensures;
  put = put-there (λ x. x) row_cmp rows_total;
  put_others = λ e actor key es apart. put-others (λ x. x) row_cmp rows_total e (entry_of actor key) es apart;
  removed = λ actor key es a. without-gone (λ x. x) row_cmp rows_total (entry_of actor key) es a;
  removed_others = λ actor other key other_key es apart. without-others (λ x. x) row_cmp rows_total (entry_of actor key) (entry_of other other_key) es apart;
}
