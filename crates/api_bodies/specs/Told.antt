-- A reminder as it is told to who asks for it (Actors API reference of Dapr, version 1.0).
use Rattle.std.specs.Prelude.{ℕ, List, [], ◌∷◌, ◌++◌, codes, Option, Some, None}
use Rattle.json_text.specs.Values.{text}
use Rattle.json_text.specs.Texts.{at_key, in_braces, text_of}

-- a text that was given and isn't empty, quoted as a member
abbrev pub given_text : List ℕ → List ℕ → List (List ℕ)
given_text key [] = []
given_text key (b ∷ bs) = at_key key (text_of (text (b ∷ bs))) ∷ []

-- a JSON text that was given and isn't empty, as a member
abbrev pub given_value : List ℕ → Option (List ℕ) → List (List ℕ)
given_value key None = []
given_value key (Some []) = []
given_value key (Some (b ∷ bs)) = at_key key (b ∷ bs) ∷ []

-- a reminder as it is told: each member only where it was given and isn't empty
abbrev pub reminder_body : List ℕ → List ℕ → List ℕ → Option (List ℕ) → List ℕ
reminder_body due period ttl payload =
    in_braces (given_value (codes "data") payload ++ given_text (codes "dueTime") due ++ given_text (codes "period") period ++ given_text (codes "ttl") ttl)
