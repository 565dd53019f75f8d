-- What contracts see of the program's world, whose lists have places in place of keys.
use Rattle.std.specs.Prelude.{◌≡◌, ◌⊎◌, ◌<◌, ◌≤◌, ◌-◌, ◌^◌, ◌==◌, ℕ, false, if◌then◌else◌, List, [], ◌∷◌, length, map, All, slice_get, slice_index_or, Option, None, option_and_then, IfSome}
use Rattle.turn_core.specs.Cell.{CellState, is_in_cell}
use Rattle.solo_run.specs.World.{Actor}
use Rattle.solo_run.specs.Interner.{AreDistinct}

abbrev pub actors_told : List (List ℕ) → List CellState → List Actor
actors_told [] cells = []
actors_told (key ∷ keys) [] = []
actors_told (key ∷ keys) (cell ∷ cells) = record { key = key; cell = cell } ∷ actors_told keys cells

-- the keys of the actors at these places
abbrev pub calls_told : List (List ℕ) → List (Option ℕ) → List (Option (List ℕ))
calls_told keys calls = map (option_and_then (λ place. slice_get keys place)) calls

-- the place of a call's actor, none if it was refused or never made; calls count from 1
abbrev pub place_of_call : ℕ → List (Option ℕ) → Option ℕ
place_of_call call calls = if call == 0 then None else option_and_then (λ place. place) (slice_get calls (call - 1))

-- a cell of a world with these numbers of calls and events: it has no later call, and at most one hold for each event
pub record IsCellWithin (calls events : ℕ) (cell : CellState) : Type 0 where
  pub numbered : (call : ℕ) → calls < call → is_in_cell call cell ≡ false
  pub held : cell.holds ≤ events

-- the invariant of a world's lists
pub record IsWorldKept (keys : List (List ℕ)) (cells : List CellState) (calls : List (Option ℕ)) (events : ℕ) : Type 0 where
  pub counted : events ≤ 2 ^ 62
  pub each_cell : length cells ≡ length keys
  pub distinct : AreDistinct keys
  pub placed : All (λ place. IfSome place (λ p. p < length keys)) calls
  pub within : All (IsCellWithin (length calls) events) cells

-- what a call changes in the lists of actors: a cell is now `cell`, or there is one more actor, with that cell
pub record KeepsActors (keys : List (List ℕ)) (cells : List CellState) (new_keys : List (List ℕ)) (new_cells : List CellState) (cell : CellState) : Type 0 where
  pub each_cell : length new_cells ≡ length new_keys
  pub distinct : AreDistinct new_keys
  pub earlier : (place : ℕ) → place < length keys → slice_get new_keys place ≡ slice_get keys place
  pub more : length keys ≤ length new_keys
  pub others : (place : ℕ) (d : CellState) → place < length new_cells
      → (slice_index_or new_cells place d ≡ cell) ⊎ ((place < length cells) × (slice_index_or new_cells place d ≡ slice_index_or cells place d))
