-- Texts by their places, in the order in which they were first seen. Own.
use Rattle.std.specs.Prelude.{◌≡◌, ◌+◌, ℕ, if◌then◌else◌, List, [], ◌∷◌, bytes_eq, Option, None, Some, option_map}

-- the place of a text, from 0
abbrev pub place_in : List ℕ → List (List ℕ) → Option ℕ
place_in text [] = None
place_in text (t ∷ ts) = if bytes_eq text t then Some 0 else option_map (λ n. n + 1) (place_in text ts)

-- no text is there twice
abbrev pub AreDistinct : List (List ℕ) → Type 0
AreDistinct [] = Unit {0}
AreDistinct (t ∷ ts) = (place_in t ts ≡ None) × AreDistinct ts
