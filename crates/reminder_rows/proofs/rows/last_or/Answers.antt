use Rattle.std.proofs.Common.{sym}
use Rattle.std.specs.Option.{option_copied}
use Rattle.reminder_rows.proofs.Dues.{last-is}
use Rattle.reminder_rows.proofs.rows.last_or.Goals as goal

pub returns-in-Some : goal.returns-in-Some
returns-in-Some c =
    let last = rw c.deref.ensures.value at c.in-Some.ensures.value in
    sym (last-is (option_copied c.args.other) c.args.keys.now.items c.in-Some.key.now (sym last))
