-- A payload is written part by part.
use Rattle.std.proofs.Common.{◌≡◌, ℕ, List, [], ◌∷◌, ◌++◌, ap, ◌∙◌, append_assoc}

-- first a moment and a kind, and then the fields
pub payload_written : (before moment fields a b : List ℕ) (kind : ℕ) → a ≡ before ++ (moment ++ kind ∷ []) → b ≡ a ++ fields → b ≡ before ++ (moment ++ kind ∷ fields)
payload_written before moment fields a b kind one two =
    two ∙ ap (λ (l : List ℕ). l ++ fields) one ∙ append_assoc before (moment ++ kind ∷ []) fields
    ∙ ap (λ (l : List ℕ). before ++ l) (append_assoc moment (kind ∷ []) fields)
