use Rattle.lists_and_limits.proofs.Maps.{put-there, put-others, without-gone, without-others}
use Rattle.reminder_rows.specs.Reminders.{row_cmp}
use Rattle.reminder_rows.specs.Orders.{rows_total}
use Rattle.reminder_rows.proofs.Sorted.{row_of, due-order, found-key}
use Rattle.reminder_rows.proofs.Timely.{timely}
use Rattle.reminder_rows.proofs.law.reminder_law.Goals as goal

pub returns : goal.returns
returns c = record {
  order = c.in_order.ensures;
  put = put-there (λ x. x) row_cmp rows_total;
  put_others = λ e actor name es apart. put-others (λ x. x) row_cmp rows_total e (row_of actor name) es apart;
  removed = λ actor name es a. without-gone (λ x. x) row_cmp rows_total (row_of actor name) es a;
  removed_others = λ actor other name other_name es apart. without-others (λ x. x) row_cmp rows_total (row_of actor name) (row_of other other_name) es apart;
  due_order = due-order;
  due_records = found-key;
  timely = timely;
}
