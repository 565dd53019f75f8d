use Rattle.std.proofs.Common.{◌∙◌, false, sym, arith}
use Rattle.timer_book.specs.Entries.{entry_place, place_cmp, at_place, timer_place}
use Rattle.lists_and_limits.proofs.Maps.{found-is, without-tied}
use Rattle.timer_book.proofs.Places.{total}
use Rattle.timer_book.proofs.Keeps.{ascends_changed, length_changed}
use Rattle.timer_book.proofs.shelf.Shelf.refire.Goals as goal

pub invariant_of-self : goal.invariant_of-self
invariant_of-self c =
    let l = length_changed (timer_place c.args.key.now c.args.name.now) c.self.inside.tree c.self.invariant.0 c.in-At.moment c.in-At.left false in
    let m = c.self.invariant.1 in
    rw c.change.ensures (ascends_changed (timer_place c.args.key.now c.args.name.now) c.self.inside.tree c.self.invariant.0 c.in-At.moment c.in-At.left false, omega arith, c.self.invariant.2)

pub returns-in-Done : goal.returns-in-Done
returns-in-Done c = λ e h. rw c.in-Done.is (c.remove-there.ensures.gone ∙ sym (without-tied entry_place place_cmp total (entry_place e) (timer_place c.args.key.now c.args.name.now) (found-is (at_place (timer_place c.args.key.now c.args.name.now)) e c.args.self.now h) c.args.self.now))

pub returns-in-OutOfRange : goal.returns-in-OutOfRange
returns-in-OutOfRange c = λ e h. rw c.in-OutOfRange.is (c.remove-there-in-OutOfRange.ensures.gone ∙ sym (without-tied entry_place place_cmp total (entry_place e) (timer_place c.args.key.now c.args.name.now) (found-is (at_place (timer_place c.args.key.now c.args.name.now)) e c.args.self.now h) c.args.self.now))
