use Rattle.state_rows.proofs.Places.{cut_row}
use Rattle.state_rows.proofs.rows.StateRows.get.Goals as goal

pub get-requires : goal.get-requires
get-requires c = cut_row c.args.actor.now c.args.key.now c.self.inside.tree c.self.invariant
