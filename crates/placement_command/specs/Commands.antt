-- What a run of the placement asks its host for. Own.
use Rattle.std.specs.Prelude.{◌≡◌, ◌⊎◌, ℕ, List, Option, Some, None}
use Rattle.actor_names.specs.declared.address.Address.{Address}
use Rattle.actor_ports.specs.Traffic.{Place}
use Rattle.server_ports.specs.Hosts.{Asked, place_of, with_path, with_place}

-- the place of its state over HTTP, if it has one
abbrev pub with_state : Asked → Option Address → Asked
with_state a None = a
with_state a (Some at) = with_place a (place_of at)

-- nothing was asked for; or the one path; or the path and then the place of the frames; or then that of the state too
abbrev pub AsksOnly : List ℕ → Place → Option Address → Option Asked → Option Asked → Type 0
AsksOnly path at state None after = Unit {0}
AsksOnly path at state (Some a) after =
    (after ≡ Some a) ⊎ ((after ≡ Some (with_path a path)) ⊎ ((after ≡ Some (with_place (with_path a path) at)) ⊎ (after ≡ Some (with_state (with_place (with_path a path) at) state))))

-- nothing was asked for; or the place of the frames; or that of the state too
abbrev pub AsksPorts : Place → Option Address → Option Asked → Option Asked → Type 0
AsksPorts at state None after = Unit {0}
AsksPorts at state (Some a) after = (after ≡ Some a) ⊎ ((after ≡ Some (with_place a at)) ⊎ (after ≡ Some (with_state (with_place a at) state)))

-- the place of the frames, and that of the state if it has one
abbrev pub AsksBoth : Place → Option Address → Option Asked → Option Asked → Type 0
AsksBoth at state None after = Unit {0}
AsksBoth at state (Some a) after = after ≡ Some (with_state (with_place a at) state)

-- the path, and then the same
abbrev pub AsksAll : List ℕ → Place → Option Address → Option Asked → Option Asked → Type 0
AsksAll path at state None after = Unit {0}
AsksAll path at state (Some a) after = after ≡ Some (with_state (with_place (with_path a path) at) state)
