-- A fact about every actor and its cell, when one cell is put.
use Rattle.std.proofs.Common.{◌≡◌, inl, inr, ℕ, Bool, true, false, List, [], ◌∷◌, Option, None, Some, refl, sym, subst}
use Rattle.std.specs.Str.{bytes_eq}
use Rattle.std.proofs.lemmas.Slice.Eq.{bytes_eq-Decides}
use Rattle.actor_names.specs.Names.{before_slash}
use Rattle.turn_core.specs.Cell.{CellState, new_cell}
use Rattle.turn_core.specs.CellSound.{In}
use Rattle.solo_run.specs.World.{TypeDepth, Actor, cell_at, put_cell, cell_for, depth_of}

module _ (P : List ℕ → CellState → Type 0) where
  abbrev pub EachCell : List Actor → Type 0
  EachCell actors = (a : Actor) → In a actors → P a.key a.cell

  pub each_at : (key : List ℕ) (cell : CellState) (actors : List Actor) → EachCell actors → cell_at key actors ≡ Some cell → P key cell
  each_at key cell [] each h = absurd (cc)
  each_at key cell (a ∷ actors) each h = by (bytes_eq key a.key) refl (each_at key cell actors (λ b i. each b (inr i)))
    where
      by : (t : Bool) → bytes_eq key a.key ≡ t → (cell_at key actors ≡ Some cell → P key cell) → P key cell
      by true e rest =
          let found : Some a.cell ≡ Some cell = rw e at h in
          let is : a.cell ≡ cell = cc in
          subst (λ (c : CellState). P key c) is (subst (λ (k : List ℕ). P k a.cell) (sym ((bytes_eq-Decides key a.key).0 e)) (each a (inl refl)))
      by false e rest = rest (rw e at h)

  pub each_put : (key : List ℕ) (cell : CellState) (actors : List Actor) → EachCell actors → P key cell → EachCell (put_cell key cell actors)
  each_put key cell [] each here b (inl e) = subst (λ (a : Actor). P a.key a.cell) (sym e) here
  each_put key cell [] each here b (inr i) = absurd i
  each_put key cell (a ∷ actors) each here b i = by (bytes_eq key a.key) refl (each_put key cell actors (λ b i. each b (inr i)) here) b i
    where
      by : (t : Bool) → bytes_eq key a.key ≡ t → EachCell (put_cell key cell actors) → EachCell (put_cell key cell (a ∷ actors))
      by true e rest = rw e changed
        where
          changed : EachCell (record { key = a.key; cell = cell } ∷ actors)
          changed b (inl is) = subst (λ (c : Actor). P c.key c.cell) (sym is) (subst (λ (k : List ℕ). P k cell) ((bytes_eq-Decides key a.key).0 e) here)
          changed b (inr i) = each b (inr i)
      by false e rest = rw e later
        where
          later : EachCell (a ∷ put_cell key cell actors)
          later b (inl is) = each b (inl is)
          later b (inr i) = rest b i

  -- the cell that an actor's call finds, made if there was none
  pub each_for : (depths : List TypeDepth) (key : List ℕ) (actors : List Actor) → EachCell actors → P key (new_cell (depth_of (before_slash key) depths)) → P key (cell_for depths key actors)
  each_for depths key actors each new = by (cell_at key actors) refl
    where
      by : (found : Option CellState) → cell_at key actors ≡ found → P key (cell_for depths key actors)
      by None e = rw e new
      by (Some cell) e = rw e (each_at key cell actors each e)
