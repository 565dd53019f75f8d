-- Which cells are among those that a change leaves, and which cell is found.
use Rattle.std.proofs.Common.{◌≡◌, ◌⊎◌, true, false, List, [], ◌∷◌, Some, None, refl, sym, ap, subst, ◌∙◌, inl, inr}
use Rattle.std.proofs.lemmas.Bool.{cond_both, cond-false}
use Rattle.actor_names.specs.declared.actor_key.ActorKey.{ActorKey}
use Rattle.turn_core.specs.CellSound.{In}
use Rattle.part_model.specs.declared.actor_cell.ActorCell.{ActorCell}
use Rattle.actor_names.specs.Same.{same_key, key_before}
use Rattle.part_model.specs.Cells.{cell_at, drop_cell, insert_cell, put_cell, keep_cell, is_kept}
use Rattle.part_model.proofs.KeyOrders.{same_key-true}

-- ---- the cell that is found

pub In-cell_at : (cs : List ActorCell) (key : ActorKey) (c : ActorCell) → cell_at cs key ≡ Some c → In c cs
In-cell_at [] key c e = absurd (cc)
In-cell_at (d ∷ cs) key c e =
    let more = In-cell_at cs key c in
    cond_both (same_key key d.key) _ _ (λ r. r ≡ Some c → In c (d ∷ cs)) (λ _ q. inl (cc)) (λ _ q. inr (more q)) e

pub key-cell_at : (cs : List ActorCell) (key : ActorKey) (c : ActorCell) → cell_at cs key ≡ Some c → c.key ≡ key
key-cell_at [] key c e = absurd (cc)
key-cell_at (d ∷ cs) key c e =
    let more = key-cell_at cs key c in
    cond_both (same_key key d.key) _ _ (λ r. r ≡ Some c → c.key ≡ key)
    (λ s q. let t = same_key-true key d.key s in let u : d ≡ c = cc in ap (λ (z : ActorCell). z.key) (sym u) ∙ sym t)
    (λ _ q. more q) e

-- no cell is found among cells of other keys
pub at-none : (key : ActorKey) (cs : List ActorCell) → ((c : ActorCell) → In c cs → same_key key c.key ≡ false) → cell_at cs key ≡ None
at-none key [] h = refl
at-none key (c ∷ cs) h = cond-false (same_key key c.key) _ _ (h c (inl refl)) ∙ at-none key cs (λ d i. h d (inr i))

-- and if none is found, all cells are of other keys
pub none_at : (key : ActorKey) (cs : List ActorCell) → cell_at cs key ≡ None → (c : ActorCell) → In c cs → same_key key c.key ≡ false
none_at key [] e c i = absurd i
none_at key (d ∷ cs) e c i =
    let more = none_at key cs in
    cond_both (same_key key d.key) _ _ (λ r. r ≡ None → same_key key c.key ≡ false)
    (λ s q. absurd (cc))
    (λ f q. elim i [ inl s ↦ subst (λ (z : ActorCell). same_key key z.key ≡ false) (sym s) f | inr j ↦ more q c j ])
    e

-- ---- cells that are dropped, put or kept

pub In-drop_cell : (cs : List ActorCell) (key : ActorKey) (y : ActorCell) → In y (drop_cell cs key) → In y cs
In-drop_cell [] key y h = h
In-drop_cell (c ∷ cs) key y h =
    let more = In-drop_cell cs key y in
    cond_both (same_key key c.key) _ _ (λ r. In y r → In y (c ∷ cs)) (λ _ i. inr (more i)) (λ _. elim [ inl e ↦ inl e | inr i ↦ inr (more i) ]) h

-- a drop among cells of other keys changes nothing
pub drop-none : (key : ActorKey) (cs : List ActorCell) → ((c : ActorCell) → In c cs → same_key key c.key ≡ false) → drop_cell cs key ≡ cs
drop-none key [] h = refl
drop-none key (c ∷ cs) h = cond-false (same_key key c.key) _ _ (h c (inl refl)) ∙ ap (λ ds. c ∷ ds) (drop-none key cs (λ d i. h d (inr i)))

-- the cells that are left after a drop are of other keys
pub other_key : (cs : List ActorCell) (key : ActorKey) (y : ActorCell) → In y (drop_cell cs key) → same_key key y.key ≡ false
other_key [] key y h = absurd h
other_key (c ∷ cs) key y h =
    let more = other_key cs key y in
    cond_both (same_key key c.key) _ _ (λ r. In y r → same_key key y.key ≡ false) (λ _ i. more i)
    (λ f. elim [ inl e ↦ subst (λ (z : ActorCell). same_key key z.key ≡ false) (sym e) f | inr i ↦ more i ]) h

-- and every cell of another key is left
pub In-left : (cs : List ActorCell) (key : ActorKey) (y : ActorCell) → In y cs → same_key key y.key ≡ false → In y (drop_cell cs key)
In-left [] key y h f = absurd h
In-left (c ∷ cs) key y (inl e) f = rw (cond-false (same_key key c.key) (drop_cell cs key) (c ∷ drop_cell cs key) (subst (λ (z : ActorCell). same_key key z.key ≡ false) e f)) (inl e)
In-left (c ∷ cs) key y (inr i) f =
    let more = In-left cs key y i f in
    cond_both (same_key key c.key) _ _ (In y) (λ _. more) (λ _. inr more)

pub In-insert_cell : (cs : List ActorCell) (x y : ActorCell) → In y (insert_cell cs x) → (y ≡ x) ⊎ In y cs
In-insert_cell [] x y (inl e) = inl e
In-insert_cell [] x y (inr i) = inr i
In-insert_cell (c ∷ cs) x y h =
    let more = In-insert_cell cs x y in
    cond_both (key_before x.key c.key) _ _ (λ r. In y r → (y ≡ x) ⊎ In y (c ∷ cs))
    (λ _ i. i)
    (λ _. elim [ inl e ↦ inr (inl e) | inr i ↦ elim (more i) [ inl l ↦ inl l | inr r ↦ inr (inr r) ] ])
    h

pub In-insert-itself : (cs : List ActorCell) (x : ActorCell) → In x (insert_cell cs x)
In-insert-itself [] x = inl refl
In-insert-itself (c ∷ cs) x =
    let more = In-insert-itself cs x in
    cond_both (key_before x.key c.key) _ _ (In x) (λ _. inl refl) (λ _. inr more)

-- a cell that was put, or one of another key
pub In-put_cell : (cs : List ActorCell) (x y : ActorCell) → In y (put_cell cs x) → (y ≡ x) ⊎ (In y cs × (same_key x.key y.key ≡ false))
In-put_cell cs x y h = elim (In-insert_cell (drop_cell cs x.key) x y h) [ inl e ↦ inl e | inr i ↦ inr (In-drop_cell cs x.key y i, other_key cs x.key y i) ]

-- where a cell comes from after one was kept
pub In-keep_cell : (cs : List ActorCell) (x y : ActorCell) → In y (keep_cell cs x) → ((y ≡ x) × (is_kept x ≡ true)) ⊎ (In y cs × (same_key x.key y.key ≡ false))
In-keep_cell cs x y h =
    cond_both (is_kept x) _ _ (λ r. In y r → ((y ≡ x) × (is_kept x ≡ true)) ⊎ (In y cs × (same_key x.key y.key ≡ false)))
    (λ k i. elim (In-put_cell cs x y i) [ inl e ↦ inl (e, k) | inr j ↦ inr j ])
    (λ _ i. inr (In-drop_cell cs x.key y i, other_key cs x.key y i))
    h
