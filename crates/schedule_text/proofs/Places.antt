-- The place at which a reader of whole texts finds its fault.
use Rattle.std.proofs.Common.{◌≡◌, ℕ, ◌-◌, List, [], ◌∷◌, ◌++◌, length, length-append, arith, refl, ap, ◌∙◌, subst, append_assoc, Result, Ok, Err}
use Rattle.schedule_text.specs.Reading.{◌>>=◌}
use Rattle.schedule_text.specs.Faults.{Begins, FirstFault, Missing, BadByte}

-- A reader reads a text; or the text ends within one that it reads; or it refuses a byte behind the front of one that
-- it reads, whatever follows that byte.
pub data Placed (A : Type 0) (p : List ℕ → Result A ℕ) (text : List ℕ) : Type 0 where
  Fine : (a : A) → p text ≡ Ok a → Placed A p text
  Lacks : (a : A) (z : List ℕ) → p (text ++ z) ≡ Ok a → p text ≡ Err 0 → Placed A p text
  Refuses : (a : A) (front : List ℕ) (b : ℕ) (rest z : List ℕ) → p (front ++ z) ≡ Ok a → ((y : List ℕ) → p (front ++ b ∷ y) ≡ Err (length (b ∷ y))) → text ≡ front ++ b ∷ rest → Placed A p text

-- some text that a reader reads
pub record SomeText (A : Type 0) (p : List ℕ → Result A ℕ) : Type 0 where
  pub a : A
  pub z : List ℕ
  pub reads : p z ≡ Ok a

-- ---- a reader of one byte more

module _ {A : Type 0} (p q : List ℕ → Result A ℕ) (c : ℕ) (same : (y : List ℕ) → q (c ∷ y) ≡ p y) where
  pub after : (text : List ℕ) → Placed A p text → Placed A q (c ∷ text)
  after text (Fine a reads) = Fine a (same text ∙ reads)
  after text (Lacks a z reads short) = Lacks a z (same (text ++ z) ∙ reads) (same text ∙ short)
  after text (Refuses a front b rest z reads goes is) = Refuses a (c ∷ front) b rest z (same (front ++ z) ∙ reads) (λ y. same (front ++ b ∷ y) ∙ goes y) (ap (λ (t : List ℕ). c ∷ t) is)

-- a reader refuses the first byte
module _ {A : Type 0} (q : List ℕ → Result A ℕ) (some : SomeText A q) where
  pub first_refused : (b : ℕ) (rest : List ℕ) → ((y : List ℕ) → q (b ∷ y) ≡ Err (length (b ∷ y))) → Placed A q (b ∷ rest)
  first_refused b rest goes = Refuses some.a [] b rest some.z some.reads goes refl

  pub nothing_there : q [] ≡ Err 0 → Placed A q []
  nothing_there short = Lacks some.a some.z some.reads short

-- ---- a reader that gives the same, and a function of what is read

module _ {A : Type 0} (p q : List ℕ → Result A ℕ) (same : (y : List ℕ) → q y ≡ p y) where
  pub as_same : (text : List ℕ) → Placed A p text → Placed A q text
  as_same text (Fine a reads) = Fine a (same text ∙ reads)
  as_same text (Lacks a z reads short) = Lacks a z (same (text ++ z) ∙ reads) (same text ∙ short)
  as_same text (Refuses a front b rest z reads goes is) = Refuses a front b rest z (same (front ++ z) ∙ reads) (λ y. same (front ++ b ∷ y) ∙ goes y) is

module _ {A B : Type 0} (p : List ℕ → Result A ℕ) (k : A → B) where
  pub turned : (text : List ℕ) → Placed A p text → Placed B (λ t. p t >>= λ a. Ok (k a)) text
  turned text (Fine a reads) = Fine (k a) (rw reads refl)
  turned text (Lacks a z reads short) = Lacks (k a) z (rw reads refl) (rw short refl)
  turned text (Refuses a front b rest z reads goes is) = Refuses (k a) front b rest z (rw reads refl) (λ y. rw (goes y) refl) is

-- ---- the fault in terms of the form

pub not_both : {A : Type 0} (a : A) (left : ℕ) (r : Result A ℕ) → r ≡ Ok a → r ≡ Err left → ⊥
not_both a left r ok err = cc

module _ {A : Type 0} (p : List ℕ → Result A ℕ) (Form : List ℕ → Type 0)
    (sound : (text : List ℕ) (a : A) → p text ≡ Ok a → Form text)
    (complete : (text : List ℕ) → Form text → (a : A) × (p text ≡ Ok a)) where
  none_begins : (front : List ℕ) (b : ℕ) → ((y : List ℕ) → p (front ++ b ∷ y) ≡ Err (length (b ∷ y))) → Begins Form (front ++ b ∷ []) → ⊥
  none_begins front b goes begins =
      let form = subst (λ (t : List ℕ). Form t) (append_assoc front (b ∷ []) begins.0) begins.1 in
      let read = complete (front ++ b ∷ begins.0) form in
      not_both read.0 (length (b ∷ begins.0)) (p (front ++ b ∷ begins.0)) read.1 (goes begins.0)

  same_left : (left found : ℕ) (r : Result A ℕ) → r ≡ Err left → r ≡ Err found → left ≡ found
  same_left left found r first second = cc

  pub fault_place : (text : List ℕ) (left : ℕ) → p text ≡ Err left → Placed A p text → FirstFault Form text (length text - left)
  fault_place text left fault (Fine a reads) = absurd (not_both a left (p text) reads fault)
  fault_place text left fault (Lacks a z reads short) =
      let none = same_left left 0 (p text) fault short in
      Missing (omega (arith, none)) (z, sound (text ++ z) a reads) (λ form. let read = complete text form in not_both read.0 left (p text) read.1 fault)
  fault_place text left fault (Refuses a front b rest z reads goes is) =
      let count = same_left left (length (b ∷ rest)) (p text) fault (ap p is ∙ goes rest) in
      BadByte front rest b is (omega (arith, count, ap length is, length-append front (b ∷ rest))) (z, sound (front ++ z) a reads) (none_begins front b goes)
