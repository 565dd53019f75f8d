-- A search in a list, at the place that it has come to.
use Rattle.std.proofs.Common.{◌≡◌, ◌∙◌, ◌<◌, ◌+◌, add-one, refl, ap, sym, ℕ, length, get_or, drop, Bool, true, false, List, ◌∷◌, Some}
use Rattle.std.proofs.Math.Seq.{drop-cons}
use Rattle.std.specs.Prelude.{find}

pub found_at : {A : Type 0} (p : A → Bool) (xs : List A) (i : ℕ) (d : A) → i < length xs → p (get_or xs i d) ≡ true → find p (drop i xs) ≡ Some (get_or xs i d)
found_at p xs i d within e = ap (find p) (drop-cons xs i d within) ∙ rw e refl

pub passed_at : {A : Type 0} (p : A → Bool) (xs : List A) (i : ℕ) (d : A) → i < length xs → p (get_or xs i d) ≡ false → find p (drop i xs) ≡ find p (drop (i + 1) xs)
passed_at p xs i d within e = ap (find p) (drop-cons xs i d within) ∙ rw e (ap (λ n. find p (drop n xs)) (sym (add-one i)))
