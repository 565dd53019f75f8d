-- The cells of actors against the places of their keys.
use Rattle.std.proofs.Common.{◌≡◌, ◌≢◌, ◌⊎◌, inl, inr, ◌<◌, ◌≤◌, ◌+◌, ℕ, zero, suc, true, false, eqb, List, [], ◌∷◌, ◌++◌, length, get_or, set, slice_get, None, Some, refl, ap, ◌∙◌, arith, length-set}
use Rattle.std.proofs.lemmas.Bool.{cases_lt}
use Rattle.std.proofs.lemmas.Bool.Decides.{eqb_tells}
use Rattle.std.proofs.lemmas.List.{length_push, get_or_push, get_or_append_left, get_or-set_same, get_or-set_other}
use Rattle.std.proofs.lemmas.Slice.Eq.{bytes_eq-Decides}
use Rattle.turn_core.specs.Cell.{CellState, new_cell}
use Rattle.actor_names.specs.Names.{before_slash}
use Rattle.solo_run.specs.Interner.{place_in, AreDistinct}
use Rattle.solo_run.specs.World.{TypeDepth, cell_at, put_cell, cell_for, depth_of}
use Rattle.solo_run.specs.WorldTold.{actors_told, KeepsActors}
use Rattle.solo_run.proofs.PlaceLemmas.{place_cases, no_place_cases, distinct-push}

pub cell_at-place : (key : List ℕ) (keys : List (List ℕ)) (cells : List CellState) (i : ℕ) (d : CellState) → length cells ≡ length keys → place_in key keys ≡ Some i
    → cell_at key (actors_told keys cells) ≡ Some (get_or cells i d)
cell_at-place key [] cells i d each h = absurd (cc)
cell_at-place key (k ∷ ks) [] i d each h = absurd (omega arith)
cell_at-place key (k ∷ ks) (x ∷ xs) i d each h =
    place_cases key k ks i (cell_at key (actors_told (k ∷ ks) (x ∷ xs)) ≡ Some (get_or (x ∷ xs) i d)) h
    (λ e z. rw (e, z))
    (λ b. rw (b.other, b.shift) (cell_at-place key ks xs b.place d (omega arith) b.here))

pub cell_at-none : (key : List ℕ) (keys : List (List ℕ)) (cells : List CellState) → place_in key keys ≡ None → cell_at key (actors_told keys cells) ≡ None
cell_at-none key [] cells h = refl
cell_at-none key (k ∷ ks) [] h = refl
cell_at-none key (k ∷ ks) (x ∷ xs) h =
    no_place_cases key k ks (cell_at key (actors_told (k ∷ ks) (x ∷ xs)) ≡ None) h (λ e p. rw e (cell_at-none key ks xs p))

pub put_cell-place : (key : List ℕ) (cell : CellState) (keys : List (List ℕ)) (cells : List CellState) (i : ℕ) → length cells ≡ length keys → place_in key keys ≡ Some i
    → put_cell key cell (actors_told keys cells) ≡ actors_told keys (set cells i cell)
put_cell-place key cell [] cells i each h = absurd (cc)
put_cell-place key cell (k ∷ ks) [] i each h = absurd (omega arith)
put_cell-place key cell (k ∷ ks) (x ∷ xs) i each h =
    place_cases key k ks i (put_cell key cell (actors_told (k ∷ ks) (x ∷ xs)) ≡ actors_told (k ∷ ks) (set (x ∷ xs) i cell)) h
    (λ e z. rw (e, z))
    (λ b. rw (b.other, b.shift) (ap (λ rest. record { key = k; cell = x } ∷ rest) (put_cell-place key cell ks xs b.place (omega arith) b.here)))

pub put_cell-new : (key : List ℕ) (cell : CellState) (keys : List (List ℕ)) (cells : List CellState) → length cells ≡ length keys → place_in key keys ≡ None
    → put_cell key cell (actors_told keys cells) ≡ actors_told (keys ++ key ∷ []) (cells ++ cell ∷ [])
put_cell-new key cell [] [] each h = refl
put_cell-new key cell [] (x ∷ xs) each h = absurd (omega arith)
put_cell-new key cell (k ∷ ks) [] each h = absurd (omega arith)
put_cell-new key cell (k ∷ ks) (x ∷ xs) each h =
    no_place_cases key k ks (put_cell key cell (actors_told (k ∷ ks) (x ∷ xs)) ≡ actors_told ((k ∷ ks) ++ key ∷ []) ((x ∷ xs) ++ cell ∷ [])) h
    (λ e p. rw e (ap (λ rest. record { key = k; cell = x } ∷ rest) (put_cell-new key cell ks xs (omega arith) p)))

pub key_at_place : (key : List ℕ) (keys : List (List ℕ)) (i : ℕ) → place_in key keys ≡ Some i → slice_get keys i ≡ Some key
key_at_place key [] i h = absurd (cc)
key_at_place key (k ∷ ks) i h =
    place_cases key k ks i (slice_get (k ∷ ks) i ≡ Some key) h
    (λ e z. let same = (bytes_eq-Decides key k).0 e in rw (z, same))
    (λ b. rw b.shift (key_at_place key ks b.place b.here))

pub cell_for-place : (types : List TypeDepth) (key : List ℕ) (keys : List (List ℕ)) (cells : List CellState) (i : ℕ) (d : CellState) → length cells ≡ length keys → place_in key keys ≡ Some i
    → cell_for types key (actors_told keys cells) ≡ get_or cells i d
cell_for-place types key keys cells i d each h = rw (cell_at-place key keys cells i d each h)

pub cell_for-new : (types : List TypeDepth) (key : List ℕ) (keys : List (List ℕ)) (cells : List CellState) → place_in key keys ≡ None
    → cell_for types key (actors_told keys cells) ≡ new_cell (depth_of (before_slash key) types)
cell_for-new types key keys cells h = rw (cell_at-none key keys cells h)

slice_get-left : {A : Type 0} (xs ys : List A) (i : ℕ) → i < length xs → slice_get (xs ++ ys) i ≡ slice_get xs i
slice_get-left [] ys i h = absurd (omega arith)
slice_get-left (x ∷ xs) ys zero h = refl
slice_get-left (x ∷ xs) ys (suc i) h = slice_get-left xs ys i (omega arith)

pub slice_get-last : {A : Type 0} (xs : List A) (x : A) (i : ℕ) → i ≡ length xs → slice_get (xs ++ x ∷ []) i ≡ Some x
slice_get-last [] x i h = rw h
slice_get-last (y ∷ xs) x zero h = absurd (omega arith)
slice_get-last (y ∷ xs) x (suc i) h = slice_get-last xs x i (omega arith)

-- a call of an actor that has a cell changes that cell alone
pub keeps_set : (keys : List (List ℕ)) (cells : List CellState) (i : ℕ) (cell : CellState) → length cells ≡ length keys → AreDistinct keys → i < length cells
    → KeepsActors keys cells keys (set cells i cell) cell
keeps_set keys cells i cell each distinct below =
    record {
      each_cell = length-set cells i cell ∙ each;
      distinct = distinct;
      earlier = λ place h. refl;
      more = omega arith;
      others = λ place d h. by place d (rw (length-set cells i cell) at h) (eqb_tells place i);
    }
  where
    by : (place : ℕ) (d : CellState) → place < length cells → ((eqb place i ≡ true) × (place ≡ i)) ⊎ ((eqb place i ≡ false) × (place ≢ i))
        → (get_or (set cells i cell) place d ≡ cell) ⊎ ((place < length cells) × (get_or (set cells i cell) place d ≡ get_or cells place d))
    by place d h (inl same) = inl (rw same.1 (get_or-set_same cells i cell d below))
    by place d h (inr other) = inr (h, get_or-set_other cells i place cell d other.1)

-- the first call of an actor adds its cell
pub keeps_push : (keys : List (List ℕ)) (cells : List CellState) (key : List ℕ) (cell : CellState) → length cells ≡ length keys → AreDistinct keys → place_in key keys ≡ None
    → KeepsActors keys cells (keys ++ key ∷ []) (cells ++ cell ∷ []) cell
keeps_push keys cells key cell each distinct new =
    record {
      each_cell = omega (arith, length_push cells cell, length_push keys key);
      distinct = distinct-push keys key distinct new;
      earlier = λ place h. slice_get-left keys (key ∷ []) place h;
      more = omega (arith, length_push keys key);
      others = λ place d h. by place d (rw (length_push cells cell) at h) (cases_lt place (length cells));
    }
  where
    by : (place : ℕ) (d : CellState) → place < length cells + 1 → (place < length cells) ⊎ (length cells ≤ place)
        → (get_or (cells ++ cell ∷ []) place d ≡ cell) ⊎ ((place < length cells) × (get_or (cells ++ cell ∷ []) place d ≡ get_or cells place d))
    by place d h (inl below) = inr (below, get_or_append_left cells (cell ∷ []) d place below)
    by place d h (inr last) = inl (get_or_push cells cell d place (omega arith))
