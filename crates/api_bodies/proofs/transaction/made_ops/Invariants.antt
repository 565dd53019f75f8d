use Rattle.std.specs.Vec.Iter.{into_iter_items}
use Rattle.api_bodies.specs.Reading.{read_all}
use Rattle.api_bodies.specs.Transactions.{made_op}
use Rattle.api_bodies.proofs.Loops.{Stands}
use Rattle.api_bodies.proofs.transaction.made_ops.Given as goal

abbrev pub invariant-loop-op : goal.invariant-loop-op
invariant-loop-op l =
    Stands made_op l.ops.items (into_iter_items l.op-iterator) (read_all made_op l.fn.asked.items)
    × (goal.iterator-loop-op).can_next l.op-iterator
    × (goal.iterator-loop-op).is_finite l.op-iterator
