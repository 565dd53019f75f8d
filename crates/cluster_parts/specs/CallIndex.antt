-- The calls of a script, and the place among them of each call that a part began. Own.
use Rattle.std.specs.Prelude.{◌≡◌, ℕ, suc, ◌<◌, Bool, ◌&&◌, ◌==◌, if◌then◌else◌, List, [], ◌∷◌, map, Option, None, Some, option_map}
use Rattle.std.specs.HashMap.{HashMap, get}
use Rattle.cluster_model.specs.World.{CallPlace}
use Rattle.cluster_parts.specs.declared.calls.CallAt.{CallAt}

-- the calls, and for how many more there is room in the list and in the index
pub record CallsView : Type 0 where
  pub calls : List (Option CallPlace)
  pub room : ℕ
  pub spare : ℕ

abbrev pub HasRoom : CallsView → Type 0
HasRoom v = (0 < v.room) × (0 < v.spare)

abbrev pub call_place : CallAt → CallPlace
call_place c = record { place = c.place; call = c.call }

abbrev pub calls_of : List (Option CallAt) → List (Option CallPlace)
calls_of cs = map (option_map call_place) cs

-- the number, counted from n, of the first of these calls that was made at this place and has this number at its part
abbrev pub first_call : List (Option CallPlace) → ℕ → ℕ → ℕ → Option ℕ
first_call [] n place call = None
first_call (None ∷ cs) n place call = first_call cs (suc n) place call
first_call (Some c ∷ cs) n place call = if (c.place == place) && (c.call == call) then Some n else first_call cs (suc n) place call

abbrev pub same_pair : ℕ × ℕ → ℕ × ℕ → Bool
same_pair a b = (a.0 == b.0) && (a.1 == b.1)

-- the index has the first call of each place and number
abbrev pub IsIndexed : {S : Type 0} → List (Option CallPlace) → HashMap (ℕ × ℕ) ℕ S → Type 0
IsIndexed cs m = (place call : ℕ) → get same_pair m (place, call) ≡ first_call cs 1 place call
