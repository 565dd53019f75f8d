-- The place of a fault in a text, by the form that the text should have. Own.
use Rattle.std.specs.Prelude.{◌≡◌, ℕ, List, [], ◌∷◌, ◌++◌, length}

-- some text of the form begins with these bytes
abbrev pub Begins : (List ℕ → Type 0) → List ℕ → Type 0
Begins Form front = (rest : List ℕ) × Form (front ++ rest)

-- The first byte that no text of the form has there: one begins with the bytes before it, and none with that byte, too.
-- At the text's end that byte is missing.
pub data FirstFault (Form : List ℕ → Type 0) (text : List ℕ) (at : ℕ) : Type 0 where
  Missing : at ≡ length text → Begins Form text → (Form text → ⊥) → FirstFault Form text at
  BadByte : (front rest : List ℕ) (b : ℕ) → text ≡ front ++ b ∷ rest → at ≡ length front → Begins Form front → (Begins Form (front ++ b ∷ []) → ⊥) → FirstFault Form text at
