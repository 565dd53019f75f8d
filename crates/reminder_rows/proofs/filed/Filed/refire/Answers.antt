use Rattle.std.proofs.Common.{◌≡◌, Some, None, sym, ◌∙◌}
use Rattle.reminder_rows.specs.Reminders.{row_at, fired_row}
use Rattle.reminder_rows.proofs.Sorted.{gone-name, named, put-named, none-without}
use Rattle.reminder_rows.proofs.filed.Filed.refire.Goals as goal

pub put-requires-clause-new : goal.put-requires-clause-new
put-requires-clause-new c =
    let e = c.in-Some.filing.row.value.element in
    let there : row_at c.args.actor.now c.args.name.now c.args.self.now ≡ Some e = sym c.in-Some.ensures.taken in
    rw (c.fire.ensures, c.deref_mut.ensures.value, c.take.ensures.rest) (gone-name c.args.actor.now c.args.name.now c.args.self.now c.in_order.ensures e there)

pub returns-in-Some : goal.returns-in-Some
returns-in-Some c =
    let e = c.in-Some.filing.row.value.element in
    let there : row_at c.args.actor.now c.args.name.now c.args.self.now ≡ Some e = sym c.in-Some.ensures.taken in
    let is = named c.args.actor.now c.args.name.now c.args.self.now c.in_order.ensures e there in
    c.put.ensures
    ∙ rw (c.fire.ensures, c.deref_mut.ensures.value, c.take.ensures.rest, there)
    (put-named c.args.actor.now c.args.name.now c.args.self.now c.in_order.ensures (fired_row e c.args.moment c.args.left) is)

pub returns-in-None : goal.returns-in-None
returns-in-None c =
    let none : row_at c.args.actor.now c.args.name.now c.args.self.now ≡ None = sym c.in-None.ensures.taken in
    rw (c.take.ensures.rest, none) (none-without c.args.actor.now c.args.name.now c.args.self.now none)
