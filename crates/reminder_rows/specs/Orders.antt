-- The orders of records and of their keys are total.
use Rattle.std.specs.Cmp.{IsTotalOrder}
use Rattle.std.proofs.lemmas.Cmp.{nat_cmp_total, nat_list_cmp_total, on_total, then_total}
use Rattle.actor_names.specs.contracts.actor_key.ActorKeyOrd.TheImpl.Laws as actor_laws
use Rattle.reminder_rows.specs.declared.row.ReminderRow.{ReminderRow}
use Rattle.reminder_rows.specs.declared.row.DueKey.{DueKey}
use Rattle.reminder_rows.specs.Reminders.{row_cmp, due_cmp}

pub rows_total : IsTotalOrder row_cmp
rows_total = then_total (on_total (λ (e : ReminderRow). e.key.actor) actor_laws.total-law) (on_total (λ (e : ReminderRow). e.key.name) nat_list_cmp_total)

pub dues_total : IsTotalOrder due_cmp
dues_total =
    then_total (on_total (λ (k : DueKey). k.moment) nat_cmp_total)
    (then_total (on_total (λ (k : DueKey). k.actor) actor_laws.total-law) (on_total (λ (k : DueKey). k.name) nat_list_cmp_total))
