use Rattle.std.proofs.Common.{true, arith}
use Rattle.timer_book.specs.Entries.{timer_place}
use Rattle.timer_book.proofs.Keeps.{ascends_changed, length_changed}
use Rattle.timer_book.proofs.shelf.Shelf.start.Goals as goal

pub invariant_of-self : goal.invariant_of-self
invariant_of-self c =
    let l = length_changed (timer_place c.args.key.now c.args.name.now) c.self.inside.tree c.self.invariant.0 c.in-Some.entry.now.moment c.in-Some.entry.now.left true in
    let m = c.self.invariant.1 in
    rw c.change.ensures (ascends_changed (timer_place c.args.key.now c.args.name.now) c.self.inside.tree c.self.invariant.0 c.in-Some.entry.now.moment c.in-Some.entry.now.left true, omega arith, c.self.invariant.2)
