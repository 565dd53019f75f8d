-- Values in two pieces of a list, in any order. Own.
use Rattle.std.proofs.Common.{◌≡◌, ℕ, List, [], ◌∷◌, ◌++◌, Option, None, Some, refl, sym, ap, ◌∙◌, append_assoc}
use Rattle.wire_fields.specs.Fields.{Field, spell_all, in_any_order, AllFit}

pub spell-pieces : {A : Type 0} (spell : A → List ℕ) (xs ys : List A) → spell_all spell (xs ++ ys) ≡ spell_all spell xs ++ spell_all spell ys
spell-pieces spell [] ys = refl
spell-pieces spell (x ∷ xs) ys = ap (λ (l : List ℕ). spell x ++ l) (spell-pieces spell xs ys) ∙ sym (append_assoc (spell x) (spell_all spell xs) (spell_all spell ys))

pub first-fits : {A : Type 0} (f : Field A) (b : Option A) (xs ys : List A) → AllFit (in_any_order f) b (xs ++ ys) → AllFit (in_any_order f) b xs
first-fits f b [] ys all = tt
first-fits f b (x ∷ xs) ys all = (all.0, first-fits f (Some x) xs ys all.1)

-- what is before the first one doesn't matter
others-fit : {A : Type 0} (f : Field A) (b d : Option A) (xs : List A) → AllFit (in_any_order f) b xs → AllFit (in_any_order f) d xs
others-fit f b d [] all = tt
others-fit f b d (x ∷ xs) all = (all.0, all.1)

pub second-fits : {A : Type 0} (f : Field A) (b : Option A) (xs ys : List A) → AllFit (in_any_order f) b (xs ++ ys) → AllFit (in_any_order f) None ys
second-fits f b [] ys all = others-fit f b None ys all
second-fits f b (x ∷ xs) ys all = second-fits f (Some x) xs ys all.1
