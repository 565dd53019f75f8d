use Rattle.state_rows.proofs.Places.{order_law, cut_row}
use Rattle.state_rows.proofs.rows.StateRows.restore.Goals as goal

pub get-requires : goal.get-requires
get-requires c = cut_row _ _ c.self.inside.tree c.self.invariant

pub put-requires : goal.put-requires
put-requires c = let l = order_law in l.cut_element c.in_ok-node.node.value.element c.self.inside.tree c.self.invariant

pub invariant_of-self : goal.invariant_of-self
invariant_of-self c = let l = order_law in rw c.put.ensures (l.put _ c.self.inside.tree c.self.invariant)
