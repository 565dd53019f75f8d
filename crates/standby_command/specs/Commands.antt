-- What a run of a standby asks its host for. Own.
use Rattle.std.specs.Prelude.{◌≡◌, ◌⊎◌, ℕ, List, Option, Some, None}
use Rattle.actor_ports.specs.Traffic.{Place}
use Rattle.server_ports.specs.Hosts.{Asked, with_path, with_place}

-- nothing was asked for; or the one path; or the path and then the one place
abbrev pub AsksOnly : List ℕ → Place → Option Asked → Option Asked → Type 0
AsksOnly path at None after = Unit {0}
AsksOnly path at (Some a) after = (after ≡ Some a) ⊎ ((after ≡ Some (with_path a path)) ⊎ (after ≡ Some (with_place (with_path a path) at)))

-- the path, and then the place
abbrev pub AsksAll : List ℕ → Place → Option Asked → Option Asked → Type 0
AsksAll path at None after = Unit {0}
AsksAll path at (Some a) after = after ≡ Some (with_place (with_path a path) at)
