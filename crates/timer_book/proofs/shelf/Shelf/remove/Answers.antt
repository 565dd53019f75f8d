use Rattle.std.proofs.Common.{arith}
use Rattle.timer_book.specs.Entries.{timer_place, entry_place, place_cmp, at_place}
use Rattle.lists_and_limits.proofs.Maps.{length_without}
use Rattle.lists_and_limits.proofs.Orders.{ascends_without}
use Rattle.timer_book.proofs.shelf.Shelf.remove.Goals as goal

pub invariant_of-self : goal.invariant_of-self
invariant_of-self c =
    let l = length_without (at_place (timer_place c.args.key.now c.args.name.now)) c.self.inside.tree in
    let m = c.self.invariant.1 in
    rw c.remove.ensures.gone (ascends_without entry_place place_cmp (at_place (timer_place c.args.key.now c.args.name.now)) c.self.inside.tree c.self.invariant.0, omega arith, c.self.invariant.2)
