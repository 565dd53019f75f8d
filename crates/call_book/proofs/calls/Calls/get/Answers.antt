use Rattle.std.proofs.Common.{refl}
use Rattle.call_book.proofs.Adding.{entry_at-entries_of}
use Rattle.call_book.proofs.calls.Calls.get.Goals as goal

pub returns-in-None : goal.returns-in-None
returns-in-None c =
    let k = rw c.in-None.is at c.get.ensures in
    rw (← c.self.view_is, entry_at-entries_of c.args.lane.now c.args.number c.self.inside.rows c.in_order.ensures.order, ← k) refl

pub returns-in-Some : goal.returns-in-Some
returns-in-Some c =
    let k = rw c.in-Some.is at c.get.ensures in
    rw (← c.self.view_is, entry_at-entries_of c.args.lane.now c.args.number c.self.inside.rows c.in_order.ensures.order, ← k) refl
