-- The JSON texts that callbacks are given.
use Rattle.std.proofs.Common.{◌≡◌, ap, ℕ, List, [], ◌∷◌, ◌++◌, append_assoc, codes}
use Rattle.std.proofs.lemmas.List.{append-nil}
use Rattle.json.specs.Print.{escape_byte}
use Rattle.json_text.specs.Texts.{in_braces, at_key}

-- what stands behind the opening brace, or behind the first comma
abbrev pub members_text : List ℕ → List ℕ → List ℕ → List ℕ
members_text data_ due period = codes "\"data\":" ++ data_ ++ codes ",\"dueTime\":" ++ due ++ codes ",\"period\":" ++ period ++ codes "}"

three : (p d q t r s e : List ℕ) → ((p ++ d) ++ ((q ++ t) ++ ((r ++ s) ++ []))) ++ e ≡ p ++ d ++ q ++ t ++ r ++ s ++ e
three p d q t r s e = simp (append_assoc, append-nil)

four : (o k c p d q t r s e : List ℕ) → ((o ++ k) ++ (c ++ ((p ++ d) ++ ((q ++ t) ++ ((r ++ s) ++ []))))) ++ e ≡ o ++ k ++ c ++ (p ++ d ++ q ++ t ++ r ++ s ++ e)
four o k c p d q t r s e = simp (append_assoc, append-nil)

pub three_members : (d t p : List ℕ) → in_braces (at_key (codes "data") d ∷ at_key (codes "dueTime") t ∷ at_key (codes "period") p ∷ []) ≡ codes "{" ++ members_text d t p
unfolding escape_byte
three_members d t p = ap (λ (l : List ℕ). 123 ∷ l) (three (codes "\"data\":") d (codes ",\"dueTime\":") t (codes ",\"period\":") p (codes "}"))

pub four_members : (k d t p : List ℕ) → in_braces (at_key (codes "callback") k ∷ at_key (codes "data") d ∷ at_key (codes "dueTime") t ∷ at_key (codes "period") p ∷ []) ≡ codes "{\"callback\":" ++ k ++ codes "," ++ members_text d t p
unfolding escape_byte
four_members k d t p = ap (λ (l : List ℕ). 123 ∷ l) (four (codes "\"callback\":") k (codes ",") (codes "\"data\":") d (codes ",\"dueTime\":") t (codes ",\"period\":") p (codes "}"))
