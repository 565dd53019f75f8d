-- A text of at most 64 bytes kept in an array of 64, the rest of it 0. Own.
use Rattle.std.specs.Prelude.{◌≡◌, ℕ, ◌-◌, ◌≤◌, List, ◌++◌, length, take, replicate}

-- the text, filled with 0 up to 64 bytes
abbrev pub padded : List ℕ → List ℕ
padded text = text ++ replicate (64 - length text) 0

-- the array holds a text of `len` bytes
pub record IsPadded (len : ℕ) (bytes : List ℕ) : Type 0 where
  pub within : len ≤ 64
  pub whole : length bytes ≡ 64
  pub zeros : padded (take len bytes) ≡ bytes
