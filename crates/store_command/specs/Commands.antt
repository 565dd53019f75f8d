-- What a run of the store asks its host for. Own.
use Rattle.std.specs.Prelude.{◌≡◌, ◌⊎◌, ℕ, List, ◌++◌, codes, Option, Some, None}
use Rattle.actor_ports.specs.Traffic.{Place}
use Rattle.server_ports.specs.Hosts.{Asked, with_path, with_place}

-- the path of the second file
abbrev pub second_path : List ℕ → List ℕ
second_path path = path ++ codes ".2"

abbrev pub with_both : Asked → List ℕ → Asked
with_both a path = with_path (with_path a path) (second_path path)

-- nothing was asked for, or the one path, or both paths, or both paths and then the one place
abbrev pub AsksOnly : List ℕ → Place → Option Asked → Option Asked → Type 0
AsksOnly path at None after = Unit {0}
AsksOnly path at (Some a) after =
    (after ≡ Some a) ⊎ ((after ≡ Some (with_path a path)) ⊎ ((after ≡ Some (with_both a path)) ⊎ (after ≡ Some (with_place (with_both a path) at))))

-- nothing was asked for, or the one path, or the path and then the one place
abbrev pub AsksSecond : List ℕ → Place → Option Asked → Option Asked → Type 0
AsksSecond path at None after = Unit {0}
AsksSecond path at (Some a) after = (after ≡ Some a) ⊎ ((after ≡ Some (with_path a path)) ⊎ (after ≡ Some (with_place (with_path a path) at)))

-- nothing was asked for, or the one place
abbrev pub AsksPort : Place → Option Asked → Option Asked → Type 0
AsksPort at None after = Unit {0}
AsksPort at (Some a) after = (after ≡ Some a) ⊎ (after ≡ Some (with_place a at))

-- the one place was asked for
abbrev pub AsksAt : Place → Option Asked → Option Asked → Type 0
AsksAt at None after = Unit {0}
AsksAt at (Some a) after = after ≡ Some (with_place a at)

-- the one path, and then the place
abbrev pub AsksSecondAll : List ℕ → Place → Option Asked → Option Asked → Type 0
AsksSecondAll path at None after = Unit {0}
AsksSecondAll path at (Some a) after = after ≡ Some (with_place (with_path a path) at)

-- both paths, and then the place
abbrev pub AsksAll : List ℕ → Place → Option Asked → Option Asked → Type 0
AsksAll path at None after = Unit {0}
AsksAll path at (Some a) after = after ≡ Some (with_place (with_both a path) at)
