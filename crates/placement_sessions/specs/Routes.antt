-- Which requests ask for a room, and for what of it. `GET /placement/state` after Dapr's placement service; the query and
-- `/placement/rounds` are own.
use Rattle.std.specs.Prelude.{ℕ, List, codes, bytes_eq, length, take, drop, is_none, if◌then◌else◌, Option, Some, None, option_map}
use Rattle.actor_names.specs.Names.{default_space, space_fault}
use Rattle.http_edge.specs.declared.message.HttpRequest.{HttpRequest}
use Rattle.placement_sessions.specs.declared.route.Asked.{Asked}
use Rattle.placement_sessions.specs.declared.route.Asked.TheVariants.{State, Rounds}

abbrev pub state_path : List ℕ
state_path = codes "/placement/state"

abbrev pub state_query : List ℕ
state_query = codes "/placement/state?space="

abbrev pub rounds_path : List ℕ
rounds_path = codes "/placement/rounds"

abbrev pub rounds_query : List ℕ
rounds_query = codes "/placement/rounds?space="

-- the space with this name, if it is one
abbrev pub space_named : List ℕ → Option (List ℕ)
space_named name = if is_none (space_fault name) then Some name else None

-- the space whose room a target names, by this path or by the path with the query
abbrev pub space_at : List ℕ → List ℕ → List ℕ → Option (List ℕ)
space_at path query target =
    if bytes_eq target path then Some default_space else (
    if bytes_eq (take (length query) target) query then space_named (drop (length query) target) else None
    )

-- the state of this space, or else the rounds of that one
abbrev pub either_of : Option (List ℕ) → Option (List ℕ) → Option Asked
either_of (Some space) rounds = Some (State space)
either_of None rounds = option_map Rounds rounds

-- what a target names
abbrev pub asked_at : List ℕ → Option Asked
asked_at target = either_of (space_at state_path state_query target) (space_at rounds_path rounds_query target)

-- what a request asks for; none if the request is no such one
abbrev pub room_asked : HttpRequest → Option Asked
room_asked q = if bytes_eq q.method (codes "GET") then asked_at q.target else None
