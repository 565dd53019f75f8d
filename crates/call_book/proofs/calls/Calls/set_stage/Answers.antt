use Rattle.call_book.proofs.Adding.{earlier_moved, entries_of-moved}
use Rattle.call_book.proofs.calls.Calls.set_stage.Goals as goal

pub invariant_of-self : goal.invariant_of-self
invariant_of-self c = rw c.set_stage.ensures (earlier_moved c.args.lane.now c.args.number c.args.stage c.self.inside.next c.self.inside.rows c.self.invariant)

pub returns : goal.returns
returns c = rw (c.set_stage.ensures, ← c.self.view_is) (entries_of-moved c.args.lane.now c.args.number c.args.stage c.self.inside.rows)
