-- Which changes give the same cells.
use Rattle.std.proofs.Common.{◌≡◌, List, Some, None, ap, subst}
use Rattle.actor_names.specs.declared.actor_key.ActorKey.{ActorKey}
use Rattle.turn_core.specs.CellSound.{In}
use Rattle.part_model.specs.declared.actor_cell.ActorCell.{ActorCell}
use Rattle.part_model.specs.Cells.{cell_at, drop_cell, insert_cell, put_cell}
use Rattle.part_model.specs.Order.{AreInOrder}
use Rattle.part_model.proofs.KeyOrders.{equal_self}
use Rattle.lists_and_limits.proofs.Elements.{In-cut}
use Rattle.part_model.proofs.Elements.{In-cell_at, key-cell_at, none_at, drop-none}
use Rattle.part_model.proofs.Forks.{at_here, put_here}

-- a cell among cells in order is found
pub at-In : (cs : List ActorCell) (c : ActorCell) → AreInOrder cs → In c cs → cell_at cs c.key ≡ Some c
at-In cs c o i = let m = In-cut cs c i in let a = rw m.2 at o in rw m.2 (at_here c.key m.0 c m.1 a (equal_self c.key))

-- putting what is there changes nothing
pub put-In : (cs : List ActorCell) (c : ActorCell) → AreInOrder cs → In c cs → put_cell cs c ≡ cs
put-In cs c o i = let m = In-cut cs c i in let a = rw m.2 at o in rw m.2 (put_here c m.0 c m.1 a (equal_self c.key))

-- and so does putting back what was taken
pub insert-taken : (cs : List ActorCell) (key : ActorKey) (c : ActorCell) → cell_at cs key ≡ Some c → AreInOrder cs → insert_cell (drop_cell cs key) c ≡ cs
insert-taken cs key c e o = subst (λ (k : ActorKey). insert_cell (drop_cell cs k) c ≡ cs) (key-cell_at cs key c e) (put-In cs c o (In-cell_at cs key c e))

-- ---- changes of one key

pub drop-missing : (cs : List ActorCell) (key : ActorKey) → cell_at cs key ≡ None → drop_cell cs key ≡ cs
drop-missing cs key e = drop-none key cs (none_at key cs e)

-- a new cell is inserted
pub put-missing : (cs : List ActorCell) (c : ActorCell) → cell_at cs c.key ≡ None → put_cell cs c ≡ insert_cell cs c
put-missing cs c e = ap (λ ds. insert_cell ds c) (drop-missing cs c.key e)
