use Rattle.std.proofs.Common.{◌≡◌, ℕ, ◌≤◌, Option, None, sym, ap, ◌∙◌, arith}
use Rattle.lists_and_limits.specs.Lists.{with_put}
use Rattle.reminder_rows.specs.Filing.{with_fresh, spare_of}
use Rattle.reminder_rows.specs.Orders.{rows_total}
use Rattle.reminder_rows.specs.Reminders.{row_cmp, without_row, new_row, put_at}
use Rattle.lists_and_limits.proofs.Maps.{itself}
use Rattle.reminder_rows.proofs.Newest.{none_fresh}
use Rattle.reminder_rows.proofs.Sorted.{gone, put-named}
use Rattle.reminder_rows.proofs.rows.ReminderRows.put.Goals as goal

-- once the record of the name is deleted, the filed records are those that are left
left : (c : goal.Joined-none) → c.self.inside.filed ≡ without_row c.args.actor c.args.name c.args.self.now.rows
left c =
    let spare : 1 ≤ c.delete-there.new.self.spare = omega arith in
    let room : 1 ≤ spare_of c.self.inside.fresh = (rw (← c.self.view_is) at spare) in
    let none : c.self.inside.fresh ≡ None = none_fresh c.self.inside.fresh room in
    let rest : with_fresh c.self.inside.fresh c.self.inside.filed ≡ without_row c.args.actor c.args.name c.args.self.now.rows = (rw (← c.self.view_is) at c.delete-there.ensures.rows) in
    rw none at rest

pub invariant_of-self : goal.invariant_of-self
invariant_of-self c = rw (c.replace-none.ensures.after, left c) (gone c.args.actor c.args.name c.args.self.now.rows c.in_order.ensures)

pub returns : goal.returns
returns c =
    let rows = c.args.self.now.rows in
    let row = new_row c.args.actor c.args.name c.in-Some.moment c.args.reminder in
    let put : with_fresh c.replace-none.new.self c.self.inside.filed ≡ with_put row_cmp row rows =
    rw (c.replace-none.ensures.after, left c) (put-named c.args.actor c.args.name rows c.in_order.ensures row (itself (λ x. x) row_cmp rows_total row))
    in
    put ∙ sym (ap (λ (first : Option ℕ). put_at first c.args.actor c.args.name c.args.reminder rows) c.in-Some.is)
