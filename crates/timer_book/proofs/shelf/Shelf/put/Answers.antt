use Rattle.std.proofs.Common.{arith}
use Rattle.lists_and_limits.proofs.Maps.{length_put}
use Rattle.lists_and_limits.proofs.Orders.{ascends_put}
use Rattle.timer_book.specs.Entries.{entry_place, place_cmp, at_place}
use Rattle.timer_book.proofs.Places.{total}
use Rattle.timer_book.proofs.shelf.Shelf.put.Goals as goal

pub invariant_of-self-2 : goal.invariant_of-self-2
invariant_of-self-2 c =
    let l = length_put (λ a b. at_place (entry_place b) a) c.args.entry c.self.inside.tree in
    let m = c.self.invariant.1 in
    let room = c.if-self-ge-MOST_PUT.false in
    rw c.in_ok-put.ensures.ok (ascends_put entry_place place_cmp total c.args.entry c.self.inside.tree c.self.invariant.0, omega arith, omega arith)
