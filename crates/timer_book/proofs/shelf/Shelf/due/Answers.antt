use Rattle.std.proofs.Common.{◌≡◌, ◌<◌, ◌≤◌, Some, None, refl, sym, arith}
use Rattle.timer_book.specs.Soonest.{first_of}
use Rattle.timer_book.proofs.Fires.{due_first, by_now_yes, by_now_no}
use Rattle.timer_book.proofs.shelf.Shelf.due.Goals as goal

pub returns-in-None : goal.returns-in-None
returns-in-None c =
    let none : first_of c.self.inside.tree ≡ None = (let k = rw c.in-None.is at c.first.ensures in sym k) in
    rw (← c.self.view_is, due_first c.args.now c.self.inside.tree c.self.invariant.0, none) refl

pub returns-then-nanos : goal.returns-then-nanos
returns-then-nanos c =
    let found : first_of c.self.inside.tree ≡ Some c.in-Some.entry.now = (let k = rw c.in-Some.is at c.first.ensures in sym k) in
    let le : c.in-Some.entry.now.moment ≤ c.args.now = (let t = c.if-nanos.true in let a = c.nanos.ensures.value in let b = c.nanos-in-Some.ensures.value in omega arith) in
    rw (← c.self.view_is, due_first c.args.now c.self.inside.tree c.self.invariant.0, found) (sym (by_now_yes c.args.now c.in-Some.entry.now le))

pub returns-else-nanos : goal.returns-else-nanos
returns-else-nanos c =
    let found : first_of c.self.inside.tree ≡ Some c.in-Some.entry.now = (let k = rw c.in-Some.is at c.first.ensures in sym k) in
    let lt : c.args.now < c.in-Some.entry.now.moment = (let t = c.if-nanos.false in let a = c.nanos.ensures.value in let b = c.nanos-in-Some.ensures.value in omega arith) in
    rw (← c.self.view_is, due_first c.args.now c.self.inside.tree c.self.invariant.0, found) (sym (by_now_no c.args.now c.in-Some.entry.now lt))
