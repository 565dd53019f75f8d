-- Reading and writing lists element by element, as a loop does.
use Rattle.std.proofs.Common.{◌≡◌, ℕ, zero, suc, ◌-◌, ◌+◌, ◌≤◌, ◌<◌, List, [], ◌∷◌, ◌++◌, length, take, get_or, Option, Some, None, Result, Ok, Err, refl, sym, ap, ◌∙◌, append_assoc, arith}
use Rattle.std.proofs.lemmas.List.{append-nil}
use Rattle.wire_fields.specs.declared.fault.Fault.{Fault}
use Rattle.wire_fields.specs.declared.fault.Fault.TheVariants as faults
use Rattle.wire_fields.specs.Fields.{Field, ◌>>=◌, many_at, spell_all, AllFit}
use Rattle.wire_fields.specs.Gives.{Fails}

-- the elements that were read before, and then those of this reading
abbrev pub with_front : {A : Type 0} → List A → Result (List A × List ℕ) ℕ → Result (List A × List ℕ) ℕ
with_front front read = read >>= λ x. Ok (front ++ x.0, x.1)

-- a loop has read the elements `front` and has n still to read; together they are the whole reading
abbrev pub Stands : {A : Type 0} → (Option A → Field A) → Option A → List A → ℕ → List ℕ → Result (List A × List ℕ) ℕ → Type 0
Stands f b front n bytes total = with_front front (many_at f b n bytes) ≡ total

regroup : {A : Type 0} (front : List A) (x : A) (read : Result (List A × List ℕ) ℕ) → with_front front (read >>= λ xs. Ok (x ∷ xs.0, xs.1)) ≡ with_front (front ++ x ∷ []) read
regroup {A = A} front x (Ok y) = ap (λ (xs : List A). Ok (xs, y.1)) (simp append_assoc)
regroup front x (Err left) = refl

pub starts : {A : Type 0} (f : Option A → Field A) (n : ℕ) (bytes : List ℕ) → Stands f None [] n bytes (many_at f None n bytes)
starts {A = A} f n bytes = unchanged (many_at f None n bytes) where
  unchanged : (read : Result (List A × List ℕ) ℕ) → with_front [] read ≡ read
  unchanged (Ok x) = refl
  unchanged (Err left) = refl

pub goes_on :
    {A : Type 0} (f : Option A → Field A) (b : Option A) (front : List A) (count i : ℕ) (bytes : List ℕ) (x : A) (after : List ℕ) (total : Result (List A × List ℕ) ℕ)
    → i < count → (f b).at bytes ≡ Ok (x, after) → Stands f b front (count - i) bytes total → Stands f (Some x) (front ++ x ∷ []) (count - (i + 1)) after total
unfolding many_at
goes_on f b front count i bytes x after total lt read so_far =
    let k : count - i ≡ suc (count - (i + 1)) = omega arith in
    let one : with_front front (many_at f b (count - i) bytes) ≡ with_front (front ++ x ∷ []) (many_at f (Some x) (count - (i + 1)) after) = rw (k, read) (regroup front x (many_at f (Some x) (count - (i + 1)) after)) in
    sym one ∙ so_far

pub ends :
    {A : Type 0} (f : Option A → Field A) (b : Option A) (e : Fault) (front : List A) (count i : ℕ) (bytes : List ℕ) (total : Result (List A × List ℕ) ℕ)
    → i < count → Fails e ((f b).at bytes) → Stands f b front (count - i) bytes total → Fails e total
unfolding many_at
ends f b faults.Memory front count i bytes total lt failed so_far = tt
ends f b (faults.Field left) front count i bytes total lt failed so_far =
    let k : count - i ≡ suc (count - (i + 1)) = omega arith in
    let one : with_front front (many_at f b (count - i) bytes) ≡ Err left = rw (k, failed) refl in
    sym so_far ∙ one

pub is_done :
    {A : Type 0} (f : Option A → Field A) (b : Option A) (front : List A) (count i : ℕ) (bytes : List ℕ) (total : Result (List A × List ℕ) ℕ)
    → count ≤ i → Stands f b front (count - i) bytes total → total ≡ Ok (front, bytes)
unfolding many_at
is_done {A = A} f b front count i bytes total le so_far =
    let k : count - i ≡ 0 = omega arith in
    let one : with_front front (many_at f b (count - i) bytes) ≡ Ok (front, bytes) = rw k (ap (λ (xs : List A). Ok (xs, bytes)) (append-nil front)) in
    sym so_far ∙ one

-- ---- writing

pub spell_all-more : {A : Type 0} (spell : A → List ℕ) (xs : List A) (x : A) → spell_all spell (xs ++ x ∷ []) ≡ spell_all spell xs ++ spell x
spell_all-more spell [] x = append-nil (spell x)
spell_all-more spell (y ∷ ys) x = ap (λ (l : List ℕ). spell y ++ l) (spell_all-more spell ys x) ∙ sym (append_assoc (spell y) (spell_all spell ys) (spell x))

-- each element of a list that fits fits too, whatever is before it
pub fits_at :
    {A : Type 0} (f : Option A → Field A) (Fits : A → Type 0) → ((b : Option A) (a : A) → (f b).Fits a → Fits a)
    → (b : Option A) (xs : List A) (i : ℕ) (d : A) → AllFit f b xs → i < length xs → Fits (get_or xs i d)
fits_at f Fits weaker b [] i d all lt = absurd (omega arith)
fits_at f Fits weaker b (x ∷ xs) zero d all lt = weaker b x all.0
fits_at f Fits weaker b (x ∷ xs) (suc i) d all lt = fits_at f Fits weaker (Some x) xs i d all.1 (omega arith)

pub spell_all-take : {A : Type 0} (spell : A → List ℕ) (xs : List A) (i : ℕ) (d : A) → i < length xs → spell_all spell (take (suc i) xs) ≡ spell_all spell (take i xs) ++ spell (get_or xs i d)
spell_all-take spell [] i d lt = absurd (omega arith)
spell_all-take spell (x ∷ xs) zero d lt = append-nil (spell x)
spell_all-take spell (x ∷ xs) (suc i) d lt = ap (λ (l : List ℕ). spell x ++ l) (spell_all-take spell xs i d (omega arith)) ∙ sym (append_assoc (spell x) (spell_all spell (take i xs)) (spell (get_or xs i d)))

-- one more element is written
pub wrote_more :
    {A : Type 0} (spell : A → List ℕ) (xs : List A) (i : ℕ) (x : A) (before out new : List ℕ)
    → i < length xs → x ≡ get_or xs i x → out ≡ before ++ spell_all spell (take i xs) → new ≡ out ++ spell x → new ≡ before ++ spell_all spell (take (i + 1) xs)
wrote_more spell xs i x before out new lt is so_far wrote =
    wrote ∙ ap (λ (l : List ℕ). l ++ spell x) so_far ∙ append_assoc before (spell_all spell (take i xs)) (spell x) ∙ ap (λ (l : List ℕ). before ++ l) (ap (λ l. spell_all spell (take i xs) ++ spell l) is ∙ sym (spell_all-take spell xs i x lt) ∙ ap (λ (n : ℕ). spell_all spell (take n xs)) (let e : suc i ≡ i + 1 = omega arith in e))
