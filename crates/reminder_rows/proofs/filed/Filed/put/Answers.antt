use Rattle.std.proofs.Common.{◌≡◌, None}
use Rattle.reminder_rows.specs.Reminders.{row_at}
use Rattle.reminder_rows.proofs.Sorted.{cut_row, cut_key, filed_dues, filed_put}
use Rattle.reminder_rows.proofs.filed.Filed.put.Goals as goal

pub put-requires : goal.put-requires
put-requires c = cut_row c.args.filing.row.value.element c.self.inside.rows c.self.invariant.order

pub put-requires-2 : goal.put-requires-2
put-requires-2 c = cut_key c.args.filing.key.value.element c.self.inside.dues (filed_dues c.self.inside.rows c.self.inside.dues c.self.invariant)

pub invariant_of-self : goal.invariant_of-self
invariant_of-self c =
    let e = c.args.filing.row.value.element in
    let new : row_at e.key.actor e.key.name c.self.inside.rows ≡ None = rw c.self.view_is c.requires.new in
    rw (c.put.ensures, c.put-2.ensures, c.requires.keyed) (filed_put e c.self.inside.rows c.self.inside.dues c.self.invariant new)
