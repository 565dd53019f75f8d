use Rattle.std.specs.Option.{option_copied}
use Rattle.reminder_rows.proofs.Sorted.{filed_dues}
use Rattle.reminder_rows.proofs.Dues.{cut_after}
use Rattle.reminder_rows.proofs.filed.Filed.next.Goals as goal

pub next-requires : goal.next-requires
next-requires c = cut_after (option_copied c.args.after) c.self.inside.dues (filed_dues c.self.inside.rows c.self.inside.dues c.self.invariant)
