use Rattle.std.proofs.Common.{arith}
use Rattle.lists_and_limits.proofs.Orders.{ascends_put}
use Rattle.call_book.specs.Turns.{place, place_cmp}
use Rattle.call_book.specs.Orders.{places_total}
use Rattle.call_book.proofs.Placed.{cut_row, length-put_new}
use Rattle.call_book.proofs.rows.Rows.put.Goals as goal

pub put-requires : goal.put-requires
put-requires c = cut_row c.args.node.value.element c.self.inside.tree c.self.invariant.order

pub invariant_of-self : goal.invariant_of-self
invariant_of-self c =
    let new = rw (← c.self.view_is) at c.requires.new in
    let room = rw (← c.self.view_is) at c.requires.room in
    let more = length-put_new c.args.node.value.element c.self.inside.tree new in
    let n = c.self.invariant.number in
    rw c.put.ensures (record {
      order = ascends_put place place_cmp places_total c.args.node.value.element c.self.inside.tree c.self.invariant.order;
      number = omega arith;
      limit = omega arith;
    })
