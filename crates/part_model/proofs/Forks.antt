-- Cells in order, cut at one of them, which is looked for, dropped or changed.
use Rattle.std.proofs.Common.{◌≡◌, false, List, [], ◌∷◌, ◌++◌, Some, refl, ap, ◌∙◌, inl, inr}
use Rattle.std.specs.declared.cmp.Ordering.TheVariants.{Less, Equal, Greater}
use Rattle.std.proofs.lemmas.Bool.{cond_both, cond-true, cond-false}
use Rattle.actor_names.specs.declared.actor_key.ActorKey.{ActorKey}
use Rattle.turn_core.specs.CellSound.{In}
use Rattle.part_model.specs.declared.actor_cell.ActorCell.{ActorCell}
use Rattle.actor_names.specs.Same.{same_key, key_cmp, key_before}
use Rattle.part_model.specs.Cells.{cell_at, drop_cell, insert_cell, put_cell}
use Rattle.part_model.specs.Order.{AreInOrder}
use Rattle.part_model.proofs.KeyOrders.{before, same_keys, before_keys, after_equal, before_equal}
use Rattle.part_model.proofs.Elements.{drop-none}
use Rattle.part_model.proofs.Orders.{before_middle, behind_middle}

-- ---- keys on each side

-- all keys are before this one
abbrev AreLess : ActorKey → List ActorCell → Type 0
AreLess key cs = (c : ActorCell) → In c cs → key_cmp c.key key ≡ Less

abbrev AreGreater : ActorKey → List ActorCell → Type 0
AreGreater key cs = (c : ActorCell) → In c cs → key_cmp c.key key ≡ Greater

abbrev AreOthers : ActorKey → List ActorCell → Type 0
AreOthers key cs = (c : ActorCell) → In c cs → same_key key c.key ≡ false

module _ (key : ActorKey) (cs : List ActorCell) where
  others_less : AreLess key cs → AreOthers key cs
  others_less h c i = same_keys c.key key Less (h c i)

  others_greater : AreGreater key cs → AreOthers key cs
  others_greater h c i = same_keys c.key key Greater (h c i)

module _ (key : ActorKey) (l : List ActorCell) (x : ActorCell) (r : List ActorCell) (o : AreInOrder (l ++ x ∷ r)) where
  front_same : key_cmp x.key key ≡ Equal → AreLess key l
  front_same h c i = before_equal c.key x.key key h (before c.key x.key (before_middle l x r o c i))

  behind_same : key_cmp x.key key ≡ Equal → AreGreater key r
  behind_same h c i = after_equal x.key c.key key h (before x.key c.key (behind_middle l x r o c i))

-- ---- cells of two lists

at_back : (key : ActorKey) (l m : List ActorCell) → AreOthers key l → cell_at (l ++ m) key ≡ cell_at m key
at_back key [] m h = refl
at_back key (c ∷ l) m h = cond-false (same_key key c.key) _ _ (h c (inl refl)) ∙ at_back key l m (λ d i. h d (inr i))

drop-append : (key : ActorKey) (l m : List ActorCell) → drop_cell (l ++ m) key ≡ drop_cell l key ++ drop_cell m key
drop-append key [] m = refl
drop-append key (c ∷ l) m =
    let more = drop-append key l m in
    cond_both (same_key key c.key) (drop_cell l key) (c ∷ drop_cell l key) (λ r. drop_cell (c ∷ l ++ m) key ≡ r ++ drop_cell m key)
    (λ t. cond-true (same_key key c.key) _ _ t ∙ more)
    (λ f. cond-false (same_key key c.key) _ _ f ∙ ap (λ ds. c ∷ ds) more)

module _ (e : ActorCell) where
  insert_back : (l m : List ActorCell) → AreLess e.key l → insert_cell (l ++ m) e ≡ l ++ insert_cell m e
  insert_back [] m h = refl
  insert_back (c ∷ l) m h =
      cond-false (key_before e.key c.key) _ _ (before_keys c.key e.key Less (h c (inl refl))) ∙ ap (λ ds. c ∷ ds) (insert_back l m (λ d i. h d (inr i)))

  insert_here : (m : List ActorCell) → AreGreater e.key m → insert_cell m e ≡ e ∷ m
  insert_here [] h = refl
  insert_here (c ∷ m) h = cond-true (key_before e.key c.key) _ _ (before_keys c.key e.key Greater (h c (inl refl)))

-- ---- what is found, dropped and put at a cut

module _ (key : ActorKey) (l : List ActorCell) (x : ActorCell) (r : List ActorCell) (o : AreInOrder (l ++ x ∷ r)) where
  pub at_here : key_cmp x.key key ≡ Equal → cell_at (l ++ x ∷ r) key ≡ Some x
  at_here h = at_back key l (x ∷ r) (others_less key l (front_same key l x r o h)) ∙ cond-true (same_key key x.key) _ _ (same_keys x.key key Equal h)

  pub drop_here : key_cmp x.key key ≡ Equal → drop_cell (l ++ x ∷ r) key ≡ l ++ r
  drop_here h =
      drop-append key l (x ∷ r)
      ∙ (λ i. drop-none key l (others_less key l (front_same key l x r o h)) i ++ cond-true (same_key key x.key) (drop_cell r key) (x ∷ drop_cell r key) (same_keys x.key key Equal h) i)
      ∙ ap (λ ds. l ++ ds) (drop-none key r (others_greater key r (behind_same key l x r o h)))

module _ (e : ActorCell) (l : List ActorCell) (x : ActorCell) (r : List ActorCell) (o : AreInOrder (l ++ x ∷ r)) where
  pub put_here : key_cmp x.key e.key ≡ Equal → put_cell (l ++ x ∷ r) e ≡ l ++ e ∷ r
  put_here h =
      ap (λ ds. insert_cell ds e) (drop_here e.key l x r o h)
      ∙ insert_back e l r (front_same e.key l x r o h)
      ∙ ap (λ ds. l ++ ds) (insert_here e r (behind_same e.key l x r o h))
