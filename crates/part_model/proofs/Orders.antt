-- What keeps cells in order of key.
use Rattle.std.proofs.Common.{◌≡◌, true, false, List, [], ◌∷◌, ◌++◌, refl, sym, subst, inl, inr}
use Rattle.std.proofs.lemmas.Bool.{cond_both}
use Rattle.actor_names.specs.declared.actor_key.ActorKey.{ActorKey}
use Rattle.turn_core.specs.CellSound.{In}
use Rattle.part_model.specs.declared.actor_cell.ActorCell.{ActorCell}
use Rattle.actor_names.specs.Same.{same_key, key_before}
use Rattle.part_model.specs.Cells.{drop_cell, insert_cell, put_cell, keep_cell, is_kept}
use Rattle.part_model.specs.Order.{AreInOrder}
use Rattle.part_model.proofs.KeyOrders.{key_trans, key_after}
use Rattle.lists_and_limits.proofs.Elements.{In-right}
use Rattle.part_model.proofs.Elements.{In-drop_cell, In-insert_cell, other_key}

-- ---- the parts of cells in order

pub order_back : (l m : List ActorCell) → AreInOrder (l ++ m) → AreInOrder m
order_back [] m o = o
order_back (c ∷ l) m o = order_back l m o.1

-- those before a cell have keys before its own
pub before_middle : (l : List ActorCell) (x : ActorCell) (r : List ActorCell) → AreInOrder (l ++ x ∷ r) → (d : ActorCell) → In d l → key_before d.key x.key ≡ true
before_middle [] x r o d i = absurd i
before_middle (c ∷ l) x r o d (inl e) = subst (λ (z : ActorCell). key_before z.key x.key ≡ true) (sym e) (o.0 x (In-right l (x ∷ r) x (inl refl)))
before_middle (c ∷ l) x r o d (inr i) = before_middle l x r o.1 d i

pub behind_middle : (l : List ActorCell) (x : ActorCell) (r : List ActorCell) → AreInOrder (l ++ x ∷ r) → (d : ActorCell) → In d r → key_before x.key d.key ≡ true
behind_middle l x r o d i = let m = order_back l (x ∷ r) o in m.0 d i

-- ---- cells that are dropped, put or kept

pub order-drop_cell : (cs : List ActorCell) (key : ActorKey) → AreInOrder cs → AreInOrder (drop_cell cs key)
order-drop_cell [] key o = o
order-drop_cell (c ∷ cs) key o =
    let more = order-drop_cell cs key o.1 in
    cond_both (same_key key c.key) _ _ AreInOrder (λ _. more) (λ _. (λ d i. o.0 d (In-drop_cell cs key d i), more))

-- a cell of a new key
pub order-insert_cell : (cs : List ActorCell) (x : ActorCell) → AreInOrder cs → ((c : ActorCell) → In c cs → same_key x.key c.key ≡ false) → AreInOrder (insert_cell cs x)
order-insert_cell [] x o h = (λ d i. absurd i, tt)
order-insert_cell (c ∷ cs) x o h =
    let more = order-insert_cell cs x o.1 (λ d i. h d (inr i)) in
    cond_both (key_before x.key c.key) _ _ AreInOrder
    (λ b. (
      λ d i. elim i [
        | inl e ↦ subst (λ (z : ActorCell). key_before x.key z.key ≡ true) (sym e) b
        | inr j ↦ key_trans x.key c.key d.key b (o.0 d j)
      ],
      o,
    ))
    (λ f. (
      λ d i. elim (In-insert_cell cs x d i) [
        | inl e ↦ subst (λ (z : ActorCell). key_before c.key z.key ≡ true) (sym e) (key_after x.key c.key f (h c (inl refl)))
        | inr j ↦ o.0 d j
      ],
      more,
    ))

pub order-put_cell : (cs : List ActorCell) (x : ActorCell) → AreInOrder cs → AreInOrder (put_cell cs x)
order-put_cell cs x o = order-insert_cell (drop_cell cs x.key) x (order-drop_cell cs x.key o) (λ c i. other_key cs x.key c i)

pub order-keep_cell : (cs : List ActorCell) (x : ActorCell) → AreInOrder cs → AreInOrder (keep_cell cs x)
order-keep_cell cs x o = cond_both (is_kept x) _ _ AreInOrder (λ _. order-put_cell cs x o) (λ _. order-drop_cell cs x.key o)
