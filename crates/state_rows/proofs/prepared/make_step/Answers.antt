use Rattle.state_rows.specs.Entries.{at_row}
use Rattle.state_rows.proofs.Places.{order_law, cut_row}
use Rattle.state_rows.proofs.prepared.make_step.Goals as goal

pub put-requires : goal.put-requires
put-requires c = let l = order_law in l.cut_element c.in-Put.node.value.element c.args.tree.now c.requires

pub remove-there-requires : goal.remove-there-requires
remove-there-requires c = cut_row c.args.actor.now c.as_str.result.now c.args.tree.now c.requires

pub returns-in-Put-clause-order : goal.returns-in-Put-clause-order
returns-in-Put-clause-order c =
    let l = order_law in
    rw c.put.ensures (l.put c.in-Put.node.value.element c.args.tree.now c.requires)

pub returns-in-Remove-clause-order : goal.returns-in-Remove-clause-order
returns-in-Remove-clause-order c =
    let l = order_law in
    rw c.remove-there.ensures.rest (l.without_one (at_row c.args.actor.now c.as_str.result.now) c.args.tree.now c.requires)
