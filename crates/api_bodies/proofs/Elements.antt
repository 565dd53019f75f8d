-- The elements of an array, found by their place.
use Rattle.std.proofs.Common.{◌≡◌, ℕ, zero, suc, ◌+◌, ◌<◌, List, [], ◌∷◌, ◌++◌, length, take, add-one, arith, Option, Some, None, Ok, Err, refl, ap, sym, ◌∙◌}
use Rattle.std.specs.Prelude.{IsSome}
use Rattle.json_text.specs.Values.{JsonValue, null, truth, natural, negative, other_number, text, array, object, Items, no_items, item, count_of, count_in, item_of, item_at}
use Rattle.api_bodies.specs.declared.error.BodyError.TheVariants.{Malformed}
use Rattle.api_bodies.specs.Transactions.{listed, elements, array_reading}

pub count_of-listed : (vs : Items) → count_of vs ≡ length (listed vs)
count_of-listed no_items = refl
count_of-listed (item v vs) = ap suc (count_of-listed vs)

-- each place below the count has an element
pub item_of-some : (n : ℕ) (vs : Items) → n < length (listed vs) → (v : JsonValue) × (item_of n vs ≡ Some v)
item_of-some n no_items below = absurd (omega arith)
item_of-some zero (item v vs) below = (v, refl)
item_of-some (suc n) (item v vs) below = item_of-some n vs (omega arith)

-- the elements up to a place, and the one there
pub take-listed : (n : ℕ) (vs : Items) (v : JsonValue) → item_of n vs ≡ Some v → take (suc n) (listed vs) ≡ take n (listed vs) ++ v ∷ []
take-listed n no_items v is = cc
take-listed zero (item w vs) v is = let same : w ≡ v = cc in ap (λ (x : JsonValue). x ∷ []) same
take-listed (suc n) (item w vs) v is = ap (λ (xs : List JsonValue). w ∷ xs) (take-listed n vs v is)

-- what has a count is an array, with so many elements
pub array-counted : (v : JsonValue) (n : ℕ) → count_in v ≡ Some n → (array_reading v ≡ Ok (elements v)) × (n ≡ length (elements v))
array-counted null n is = cc
array-counted (truth b) n is = cc
array-counted (natural k) n is = cc
array-counted (negative z) n is = cc
array-counted other_number n is = cc
array-counted (text s) n is = cc
array-counted (array vs) n is = let same : count_of vs ≡ n = cc in (refl, sym same ∙ count_of-listed vs)
array-counted (object ms) n is = cc

-- nothing else is one
pub array-uncounted : (v : JsonValue) → count_in v ≡ None → array_reading v ≡ Err Malformed
array-uncounted null is = refl
array-uncounted (truth b) is = refl
array-uncounted (natural k) is = refl
array-uncounted (negative z) is = refl
array-uncounted other_number is = refl
array-uncounted (text s) is = refl
array-uncounted (array vs) is = cc
array-uncounted (object ms) is = refl

some_is : {A : Type 0} (o : Option A) (x : A) → o ≡ Some x → IsSome o
some_is o x is = rw is refl

pub item-there : (v : JsonValue) (n : ℕ) → n < length (elements v) → IsSome (item_at n v)
item-there null n below = absurd (omega arith)
item-there (truth b) n below = absurd (omega arith)
item-there (natural k) n below = absurd (omega arith)
item-there (negative z) n below = absurd (omega arith)
item-there other_number n below = absurd (omega arith)
item-there (text s) n below = absurd (omega arith)
item-there (array vs) n below = let found = item_of-some n vs below in some_is (item_of n vs) found.0 found.1
item-there (object ms) n below = absurd (omega arith)

pub take-elements : (v : JsonValue) (n : ℕ) (x : JsonValue) → item_at n v ≡ Some x → take (n + 1) (elements v) ≡ take n (elements v) ++ x ∷ []
take-elements null n x is = cc
take-elements (truth b) n x is = cc
take-elements (natural k) n x is = cc
take-elements (negative z) n x is = cc
take-elements other_number n x is = cc
take-elements (text s) n x is = cc
take-elements (array vs) n x is = rw add-one (take-listed n vs x is)
take-elements (object ms) n x is = cc
