use Rattle.reminder_rows.proofs.filed.Filed.following.Goals as goal

pub following-requires : goal.following-requires
following-requires c = c.self.invariant.order
