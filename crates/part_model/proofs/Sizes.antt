-- How many cells a change leaves, and the sum of a number that each cell has, such as that of its calls.
use Rattle.std.proofs.Common.{◌≡◌, ℕ, false, ◌+◌, ◌≤◌, List, [], ◌∷◌, length, Some, None, ap, inl, inr, arith}
use Rattle.std.proofs.lemmas.Bool.{cond_both}
use Rattle.actor_names.specs.declared.actor_key.ActorKey.{ActorKey}
use Rattle.turn_core.specs.CellSound.{In}
use Rattle.part_model.specs.declared.actor_cell.ActorCell.{ActorCell}
use Rattle.actor_names.specs.Same.{same_key, key_before}
use Rattle.part_model.specs.Cells.{cell_at, drop_cell, insert_cell, put_cell, keep_cell, is_kept, total}
use Rattle.part_model.specs.Order.{AreInOrder}
use Rattle.part_model.proofs.Changes.{insert-taken, drop-missing}

-- ---- cells

pub length-drop_cell : (cs : List ActorCell) (key : ActorKey) → length (drop_cell cs key) ≤ length cs
length-drop_cell [] key = omega arith
length-drop_cell (c ∷ cs) key =
    let more = length-drop_cell cs key in
    cond_both (same_key key c.key) _ _ (λ r. length r ≤ length (c ∷ cs)) (λ _. omega arith) (λ _. omega arith)

pub length-insert_cell : (cs : List ActorCell) (x : ActorCell) → length (insert_cell cs x) ≡ length cs + 1
length-insert_cell [] x = omega arith
length-insert_cell (c ∷ cs) x =
    let more = length-insert_cell cs x in
    cond_both (key_before x.key c.key) _ _ (λ r. length r ≡ length (c ∷ cs) + 1) (λ _. omega arith) (λ _. omega arith)

-- one cell less, if there was one
pub length-taken : (cs : List ActorCell) (key : ActorKey) (c : ActorCell) → cell_at cs key ≡ Some c → AreInOrder cs → length (drop_cell cs key) + 1 ≡ length cs
length-taken cs key c e o = let n = length-insert_cell (drop_cell cs key) c in let same = ap (λ (l : List ActorCell). length l) (insert-taken cs key c e o) in omega arith

-- as many as before, if there was a cell with its key
pub length-put-found : (cs : List ActorCell) (x c : ActorCell) → cell_at cs x.key ≡ Some c → AreInOrder cs → length (put_cell cs x) ≡ length cs
length-put-found cs x c e o = let n = length-insert_cell (drop_cell cs x.key) x in let d = length-taken cs x.key c e o in omega arith

pub length-keep-found : (cs : List ActorCell) (x c : ActorCell) → cell_at cs x.key ≡ Some c → AreInOrder cs → length (keep_cell cs x) ≤ length cs
length-keep-found cs x c e o =
    let p = length-put-found cs x c e o in
    let d = length-drop_cell cs x.key in
    cond_both (is_kept x) _ _ (λ r. length r ≤ length cs) (λ _. omega arith) (λ _. d)

-- ---- a number of each

module _ (f : ActorCell → ℕ) where
  pub within_total : (cs : List ActorCell) (c : ActorCell) → In c cs → f c ≤ total f cs
  within_total [] c i = absurd i
  within_total (d ∷ cs) c (inl e) = let q = ap f e in omega arith
  within_total (d ∷ cs) c (inr i) = let m = within_total cs c i in omega arith

  pub total-insert_cell : (cs : List ActorCell) (x : ActorCell) → total f (insert_cell cs x) ≡ total f cs + f x
  total-insert_cell [] x = omega arith
  total-insert_cell (c ∷ cs) x =
      let more = total-insert_cell cs x in
      cond_both (key_before x.key c.key) _ _ (λ r. total f r ≡ total f (c ∷ cs) + f x) (λ _. omega arith) (λ _. omega arith)

  -- the sum loses the number of a cell that is taken
  pub total-taken : (cs : List ActorCell) (key : ActorKey) (c : ActorCell) → cell_at cs key ≡ Some c → AreInOrder cs → total f (drop_cell cs key) + f c ≡ total f cs
  total-taken cs key c e o = let n = total-insert_cell (drop_cell cs key) c in let same = ap (total f) (insert-taken cs key c e o) in omega arith

  pub total-put-found : (cs : List ActorCell) (x c : ActorCell) → cell_at cs x.key ≡ Some c → AreInOrder cs → total f (put_cell cs x) + f c ≡ total f cs + f x
  total-put-found cs x c e o = let n = total-insert_cell (drop_cell cs x.key) x in let d = total-taken cs x.key c e o in omega arith

  -- the number of one cell changes
  pub total-keep-found : (cs : List ActorCell) (x c : ActorCell) → cell_at cs x.key ≡ Some c → AreInOrder cs → total f (keep_cell cs x) + f c ≤ total f cs + f x
  total-keep-found cs x c e o =
      let p = total-put-found cs x c e o in
      let d = total-taken cs x.key c e o in
      cond_both (is_kept x) _ _ (λ r. total f r + f c ≤ total f cs + f x) (λ _. omega arith) (λ _. omega arith)

  -- and that is the whole change, if a cell that isn't kept has the number zero
  module _ (cs : List ActorCell) (x : ActorCell) (idle : is_kept x ≡ false → f x ≡ 0) where
    pub total-keep-changed : (c : ActorCell) → cell_at cs x.key ≡ Some c → AreInOrder cs → total f (keep_cell cs x) + f c ≡ total f cs + f x
    total-keep-changed c e o =
        let p = total-put-found cs x c e o in
        let d = total-taken cs x.key c e o in
        cond_both (is_kept x) _ _ (λ r. total f r + f c ≡ total f cs + f x) (λ _. omega arith) (λ b. let z = idle b in omega arith)

    pub total-keep-missing : cell_at cs x.key ≡ None → total f (keep_cell cs x) ≡ total f cs + f x
    total-keep-missing e =
        let n = total-insert_cell (drop_cell cs x.key) x in
        let d = ap (total f) (drop-missing cs x.key e) in
        cond_both (is_kept x) _ _ (λ r. total f r ≡ total f cs + f x) (λ _. omega arith) (λ b. let z = idle b in omega arith)
