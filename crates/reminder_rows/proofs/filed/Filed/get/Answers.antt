use Rattle.reminder_rows.proofs.Sorted.{cut_name}
use Rattle.reminder_rows.proofs.filed.Filed.get.Goals as goal

pub get-requires : goal.get-requires
get-requires c = cut_name c.args.actor.now c.args.name.now c.self.inside.rows c.self.invariant.order
