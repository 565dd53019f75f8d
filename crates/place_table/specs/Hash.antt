-- Places on the ring. Own.
use Rattle.std.specs.Prelude.{ℕ, ◌+◌, ◌/◌, ◌%◌, nat_lt, if◌then◌else◌, List, [], ◌∷◌, ◌++◌, take}
use Rattle.std.specs.Int.{w64, from_be_bytes}
use Rattle.sha2.specs.Sha256.{sha256}

-- the first 8 bytes of the text's SHA-256, as a big-endian number
unfoldable pub place_of : List ℕ → ℕ
place_of text = from_be_bytes w64 (take 8 (sha256 text))

-- a number below 100 in decimal
abbrev pub number_text : ℕ → List ℕ
number_text i = if nat_lt i 10 then (48 + i) ∷ [] else (48 + i / 10) ∷ (48 + i % 10) ∷ []

-- the text `<node>#<i>` of a node's point i
abbrev pub point_text : List ℕ → ℕ → List ℕ
point_text node i = node ++ 35 ∷ number_text i
