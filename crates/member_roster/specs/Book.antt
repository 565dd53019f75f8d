-- The view of a map from nodes to boots. Own.
use Rattle.std.specs.Prelude.{ℕ, List, [], ◌∷◌}
use Rattle.member_roster.specs.declared.book.Known.{Known}

abbrev pub known_in : List (List ℕ × ℕ) → List Known
known_in [] = []
known_in (e ∷ es) = record { node = e.0; greatest = e.1 } ∷ known_in es
