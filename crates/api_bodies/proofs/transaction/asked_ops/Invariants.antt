use Rattle.std.proofs.Common.{drop}
use Rattle.api_bodies.specs.Reading.{read_all}
use Rattle.api_bodies.specs.Transactions.{asked_op}
use Rattle.api_bodies.proofs.Loops.{Stands}
use Rattle.api_bodies.proofs.transaction.asked_ops.Given as goal

abbrev pub invariant-loop-item : goal.invariant-loop-item
invariant-loop-item l = Stands asked_op l.ops.items (drop l.item-index l.items) (read_all asked_op l.items)
