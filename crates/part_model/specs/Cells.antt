-- The cells of a part: one for each actor that is active or has a call in its queue, in order of key. Own.
use Rattle.std.specs.Prelude.{ℕ, ◌+◌, Bool, false, ◌||◌, nat_lt, if◌then◌else◌, List, [], ◌∷◌, length, Option, None, Some}
use Rattle.actor_names.specs.declared.actor_key.ActorKey.{ActorKey}
use Rattle.turn_core.specs.Cell.{new_cell, is_in_cell}
use Rattle.part_model.specs.declared.actor_cell.ActorCell.{ActorCell}
use Rattle.actor_names.specs.Same.{same_key, key_before}

abbrev pub cell_at : List ActorCell → ActorKey → Option ActorCell
cell_at [] key = None
cell_at (c ∷ cs) key = if same_key key c.key then Some c else cell_at cs key

abbrev pub drop_cell : List ActorCell → ActorKey → List ActorCell
drop_cell [] key = []
drop_cell (c ∷ cs) key = if same_key key c.key then drop_cell cs key else c ∷ drop_cell cs key

-- puts the cell before the first greater key
abbrev pub insert_cell : List ActorCell → ActorCell → List ActorCell
insert_cell [] x = x ∷ []
insert_cell (c ∷ cs) x = if key_before x.key c.key then x ∷ c ∷ cs else c ∷ insert_cell cs x

-- puts the cell in the place of its key, instead of one with that key
abbrev pub put_cell : List ActorCell → ActorCell → List ActorCell
put_cell cs x = insert_cell (drop_cell cs x.key) x

-- a cell that isn't active and has no call in its queue is dropped
abbrev pub is_kept : ActorCell → Bool
is_kept c = c.active || nat_lt 0 (length c.inner.queue)

abbrev pub keep_cell : List ActorCell → ActorCell → List ActorCell
keep_cell cs x = if is_kept x then put_cell cs x else drop_cell cs x.key

-- the cell that has this call, open or in its queue
abbrev pub cell_of_call : List ActorCell → ℕ → Option ActorCell
cell_of_call [] call = None
cell_of_call (c ∷ cs) call = if is_in_cell call c.inner then Some c else cell_of_call cs call

-- the cell of an actor that was never called, at the depth of its type
abbrev pub first_cell : ActorKey → ℕ → ActorCell
first_cell key depth = record { key = key; inner = new_cell depth; active = false; closing = false; last = 0 }

-- how many calls of a cell are open or wait
abbrev pub calls_in : ActorCell → ℕ
calls_in c = length c.inner.turns + length c.inner.queue

-- the sum of a number that each cell has
abbrev pub total : (ActorCell → ℕ) → List ActorCell → ℕ
total f [] = 0
total f (c ∷ cs) = f c + total f cs

abbrev pub total_calls : List ActorCell → ℕ
total_calls = total calls_in
