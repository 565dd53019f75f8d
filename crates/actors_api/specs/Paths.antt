-- Where a path leads (Actors API reference of Dapr, version 1.0). A part counts as it is spelled.
use Rattle.std.specs.Prelude.{ℕ, Bool, not, ◌&&◌, ◌==◌, if◌then◌else◌, bytes_eq, List, [], ◌∷◌, length, take, drop, codes, Option, Some, None, option_map}
use Rattle.std.specs.Option.{option_and_then}
use Rattle.std.specs.List.{list_any}
use Rattle.actors_api.specs.declared.path.Place.{Place}
use Rattle.actors_api.specs.declared.path.Place.TheVariants.{Method, State, Key, Reminder, Timer}
use Rattle.actors_api.specs.declared.path.Route.{Route}

-- the bytes before the first `stop`, all of them if there is none
abbrev pub before : ℕ → List ℕ → List ℕ
before stop [] = []
before stop (b ∷ bs) = if b == stop then [] else b ∷ before stop bs

-- the bytes behind the first `stop`, if there is one
abbrev pub behind : ℕ → List ℕ → Option (List ℕ)
behind stop [] = None
behind stop (b ∷ bs) = if b == stop then Some bs else behind stop bs

-- a target up to its first `?`
abbrev pub path_of : List ℕ → List ℕ
path_of target = before 63 target

-- a target from its first `?` on, with it
abbrev pub query_of : List ℕ → List ℕ
query_of target = drop (length (path_of target)) target

-- the type and the id of an actor, what the path leads to, and what is behind the word of that place
pub record ApiRoute : Type 0 where
  pub kind : List ℕ
  pub id : List ℕ
  pub place : Place
  pub rest : List ℕ

abbrev pub route_view : Route → ApiRoute
route_view r = record { kind = r.kind.now; id = r.id.now; place = r.place; rest = r.rest.now }

-- a part that isn't empty, and what is behind its `/`
abbrev pub part_of : List ℕ → Option (List ℕ) → Option (List ℕ × List ℕ)
part_of part None = None
part_of part (Some rest) = if length part == 0 then None else Some (part, rest)

abbrev pub next_part : List ℕ → Option (List ℕ × List ℕ)
next_part text = part_of (before 47 text) (behind 47 text)

-- one part that ends the path: not empty, and without a `/`
abbrev pub is_last_part : List ℕ → Bool
is_last_part text = not (length text == 0) && not (list_any (λ b. b == 47) text)

abbrev pub some_if : Bool → Place → Option Place
some_if fits place = if fits then Some place else None

-- `method/` and a rest that isn't empty; `state/`, `reminders/` or `timers/` and one part
abbrev pub place_behind : List ℕ → List ℕ → Option Place
place_behind word rest =
    if bytes_eq word (codes "method") then some_if (not (length rest == 0)) Method else (
    if bytes_eq word (codes "state") then some_if (is_last_part rest) Key else (
    if bytes_eq word (codes "reminders") then some_if (is_last_part rest) Reminder else (
    if bytes_eq word (codes "timers") then some_if (is_last_part rest) Timer else None)))

-- the place of a word alone, or of a word and what is behind its `/`
abbrev pub place_at : List ℕ → Option (List ℕ) → Option (Place × List ℕ)
place_at word None = if bytes_eq word (codes "state") then Some (State, []) else None
place_at word (Some rest) = option_map (λ place. (place, rest)) (place_behind word rest)

abbrev pub place_under : List ℕ → Option (Place × List ℕ)
place_under under = place_at (before 47 under) (behind 47 under)

-- what is behind a front that a text has to have
abbrev pub without_front : List ℕ → List ℕ → Option (List ℕ)
without_front front text = if bytes_eq (take (length front) text) front then Some (drop (length front) text) else None

-- `/v1.0/actors/TYPE/ID/` and a place
abbrev pub route_of : List ℕ → Option ApiRoute
route_of path =
    option_and_then (λ actors.
    option_and_then (λ kind.
    option_and_then (λ id.
    option_map (λ place. record { kind = kind.0; id = id.0; place = place.0; rest = place.1 })
    (place_under id.1))
    (next_part kind.1))
    (next_part actors))
    (without_front (codes "/v1.0/actors/") path)
