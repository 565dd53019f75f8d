-- What the versions of a restart's line print, one after another.
use Rattle.std.proofs.Common.{◌≡◌, ◌<◌, ◌+◌, ◌++◌, ℕ, List, [], ◌∷◌, length, get_or, take, refl, append_assoc, append-nil}
use Rattle.std.specs.Prelude.{codes, decimal}
use Rattle.std.proofs.lemmas.List.{take_more}
use Rattle.outcome_text.specs.Outcomes.{versions_text}

versions_append : (xs ys : List ℕ) → versions_text (xs ++ ys) ≡ versions_text xs ++ versions_text ys
versions_append [] ys = refl
versions_append (x ∷ xs) ys = rw (versions_append xs ys, append_assoc (decimal x) (versions_text xs) (versions_text ys))

-- one more version
pub versions_more : (vs : List ℕ) (i : ℕ) → i < length vs → versions_text (take (i + 1) vs) ≡ versions_text (take i vs) ++ (codes " " ++ decimal (get_or vs i 0))
versions_more vs i within =
    rw (take_more vs i 0 within, versions_append (take i vs) (get_or vs i 0 ∷ []), append-nil (decimal (get_or vs i 0)))
