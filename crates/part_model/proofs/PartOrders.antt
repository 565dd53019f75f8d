-- What changes of a part's cells keep: the order of the keys, the number of holds, and where elements come from.
use Rattle.std.proofs.Common.{◌≡◌, true, ◌+◌, ◌≤◌, List, [], ◌∷◌, length, refl, sym, ap, subst, ◌∙◌, inl, inr, arith}
use Rattle.std.proofs.lemmas.Bool.{cond_both, cond-true}
use Rattle.actor_names.specs.declared.actor_key.ActorKey.{ActorKey}
use Rattle.turn_core.specs.CellSound.{In}
use Rattle.part_model.specs.declared.actor_cell.ActorCell.{ActorCell}
use Rattle.actor_names.specs.Same.{same_key, key_before}
use Rattle.part_model.specs.Cells.{insert_cell, drop_cell, keep_cell, is_kept}
use Rattle.part_model.specs.Order.{AreInOrder}
use Rattle.part_model.proofs.KeyOrders.{same_key-self}
use Rattle.part_model.specs.Part.{CellStep, each_cell}
use Rattle.part_model.specs.Sound.{total_holds}

pub In-each_cell : (f : ActorCell → CellStep) (cs : List ActorCell) (y : ActorCell) → In y (each_cell f cs).cells → (c : ActorCell) × In c cs × (y ≡ (f c).cell)
In-each_cell f [] y h = absurd h
In-each_cell f (c ∷ cs) y (inl e) = (c, inl refl, e)
In-each_cell f (c ∷ cs) y (inr i) = let m = In-each_cell f cs y i in (m.0, inr m.1, m.2)

pub length-each_cell : (f : ActorCell → CellStep) (cs : List ActorCell) → length (each_cell f cs).cells ≡ length cs
length-each_cell f [] = refl
length-each_cell f (c ∷ cs) = let l = length-each_cell f cs in omega arith

-- each cell changes and keeps its key
pub order-each_cell : (f : ActorCell → CellStep) (cs : List ActorCell) → ((c : ActorCell) → (f c).cell.key ≡ c.key) → AreInOrder cs → AreInOrder (each_cell f cs).cells
order-each_cell f [] k o = tt
order-each_cell f (c ∷ cs) k o = (
  λ d i.
      let m = In-each_cell f cs d i in
      let e : d.key ≡ m.0.key = ap (λ (z : ActorCell). z.key) m.2 ∙ k m.0 in
      subst (λ (z : ActorKey). key_before (f c).cell.key z ≡ true) (sym e)
      (subst (λ (z : ActorKey). key_before z m.0.key ≡ true) (sym (k c)) (o.0 m.0 m.1)),
  order-each_cell f cs k o.1,
)

-- ---- holds

total_holds-insert : (cs : List ActorCell) (x : ActorCell) → total_holds (insert_cell cs x) ≡ x.inner.holds + total_holds cs
total_holds-insert [] x = refl
total_holds-insert (c ∷ cs) x =
    let more = total_holds-insert cs x in
    cond_both (key_before x.key c.key) _ _ (λ r. total_holds r ≡ x.inner.holds + total_holds (c ∷ cs)) (λ _. refl) (λ _. omega arith)

total_holds-drop : (cs : List ActorCell) (key : ActorKey) → total_holds (drop_cell cs key) ≤ total_holds cs
total_holds-drop [] key = omega arith
total_holds-drop (c ∷ cs) key =
    let more = total_holds-drop cs key in
    cond_both (same_key key c.key) _ _ (λ r. total_holds r ≤ total_holds (c ∷ cs)) (λ _. omega arith) (λ _. omega arith)

-- the holds of one cell and those of the others are at most all of them
pub total_holds-others : (cs : List ActorCell) (c : ActorCell) → In c cs → total_holds (drop_cell cs c.key) + c.inner.holds ≤ total_holds cs
total_holds-others [] c i = absurd i
total_holds-others (d ∷ cs) c (inl e) =
    let less = total_holds-drop cs c.key in
    let same : same_key c.key d.key ≡ true = subst (λ (z : ActorCell). same_key c.key z.key ≡ true) e (same_key-self c.key) in
    let holds : c.inner.holds ≡ d.inner.holds = ap (λ (z : ActorCell). z.inner.holds) e in
    subst (λ r. total_holds r + c.inner.holds ≤ total_holds (d ∷ cs)) (sym (cond-true (same_key c.key d.key) _ _ same)) (omega arith)
total_holds-others (d ∷ cs) c (inr i) =
    let more = total_holds-others cs c i in
    cond_both (same_key c.key d.key) _ _ (λ r. total_holds r + c.inner.holds ≤ total_holds (d ∷ cs)) (λ _. omega arith) (λ _. omega arith)

pub total_holds-new : (cs : List ActorCell) (key : ActorKey) → total_holds (drop_cell cs key) + 0 ≤ total_holds cs
total_holds-new cs key = let less = total_holds-drop cs key in omega arith

pub total_holds-keep : (cs : List ActorCell) (x : ActorCell) → total_holds (keep_cell cs x) ≤ total_holds (drop_cell cs x.key) + x.inner.holds
total_holds-keep cs x =
    let put = total_holds-insert (drop_cell cs x.key) x in
    cond_both (is_kept x) _ _ (λ r. total_holds r ≤ total_holds (drop_cell cs x.key) + x.inner.holds) (λ _. omega arith) (λ _. omega arith)

pub total_holds-each : (f : ActorCell → CellStep) (cs : List ActorCell) → ((c : ActorCell) → (f c).cell.inner.holds ≡ c.inner.holds) → total_holds (each_cell f cs).cells ≡ total_holds cs
total_holds-each f [] k = refl
total_holds-each f (c ∷ cs) k = let more = total_holds-each f cs k in let h = k c in omega arith
