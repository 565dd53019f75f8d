-- What a reader does at a text, by the form of the texts that it reads; and the same of two readers in a row.
use Rattle.std.proofs.Common.{◌≡◌, ℕ, true, List, ◌∷◌, ◌++◌, length, refl, sym, ap, ◌∙◌, subst, append_assoc, Result, Ok, Err}
use Rattle.schedule_text.specs.Numbers.{is_digit}
use Rattle.schedule_text.specs.Reading.{◌>>=◌}

-- A reader of a text's front. It reads a text of the form, whatever follows; or the text ends within one; or it
-- refuses a byte behind the front of one; or it refuses two digits, the first of which such a text may have.
pub data Outcome (A : Type 0) (p : List ℕ → Result (A × List ℕ) ℕ) (form : A → List ℕ → Type 0) (text : List ℕ) : Type 0 where
  Good : (a : A) (s rest : List ℕ) → form a s → ((y : List ℕ) → p (s ++ y) ≡ Ok (a, y)) → text ≡ s ++ rest → Outcome A p form text
  Short : (a : A) (z : List ℕ) → form a (text ++ z) → p text ≡ Err 0 → Outcome A p form text
  Byte : (a : A) (front : List ℕ) (b : ℕ) (rest z : List ℕ) → form a (front ++ z) → ((y : List ℕ) → p (front ++ b ∷ y) ≡ Err (length (b ∷ y))) → text ≡ front ++ b ∷ rest → Outcome A p form text
  Field : (a : A) (front : List ℕ) (b c : ℕ) (rest z : List ℕ) → form a (front ++ b ∷ z) → is_digit b ≡ true → is_digit c ≡ true → ((y : List ℕ) → p (front ++ b ∷ c ∷ y) ≡ Err (length (b ∷ c ∷ y))) → text ≡ front ++ b ∷ c ∷ rest → Outcome A p form text

-- The same of a reader of whole texts.
pub data Ending (A : Type 0) (p : List ℕ → Result A ℕ) (form : A → List ℕ → Type 0) (text : List ℕ) : Type 0 where
  Read : (a : A) → form a text → p text ≡ Ok a → Ending A p form text
  Lacks : (a : A) (z : List ℕ) → form a (text ++ z) → p text ≡ Err 0 → Ending A p form text
  Refuses : (a : A) (front : List ℕ) (b : ℕ) (rest z : List ℕ) → form a (front ++ z) → ((y : List ℕ) → p (front ++ b ∷ y) ≡ Err (length (b ∷ y))) → text ≡ front ++ b ∷ rest → Ending A p form text
  Excludes : (a : A) (front : List ℕ) (b c : ℕ) (rest z : List ℕ) → form a (front ++ b ∷ z) → is_digit b ≡ true → is_digit c ≡ true → ((y : List ℕ) → p (front ++ b ∷ c ∷ y) ≡ Err (length (b ∷ c ∷ y))) → text ≡ front ++ b ∷ c ∷ rest → Ending A p form text

-- ---- a reader, and then another

module _ {A B : Type 0} (p : List ℕ → Result (A × List ℕ) ℕ) (q : A → List ℕ → Result (B × List ℕ) ℕ) (f : A → List ℕ → Type 0) (g : A → B → List ℕ → Type 0) (h : B → List ℕ → Type 0)
    (join : (a : A) (b : B) (s z : List ℕ) → f a s → g a b z → h b (s ++ z))
    (some : (a : A) (s : List ℕ) → f a s → (b : B) × (z : List ℕ) × g a b z)
    (next : (a : A) (s : List ℕ) → f a s → (text : List ℕ) → Outcome B (q a) (g a) text) where
  abbrev both : List ℕ → Result (B × List ℕ) ℕ
  both text = p text >>= λ x. q x.0 x.1

  behind : (text : List ℕ) (a : A) (s rest : List ℕ) → f a s → ((y : List ℕ) → p (s ++ y) ≡ Ok (a, y)) → text ≡ s ++ rest → Outcome B (q a) (g a) rest → Outcome B both h text
  behind text a s rest fa reads is (Good b z more gb goes at) =
      Good b (s ++ z) more (join a b s z fa gb)
      (λ y. rw (append_assoc s z y, reads (z ++ y)) (goes y))
      (is ∙ ap (λ (t : List ℕ). s ++ t) at ∙ sym (append_assoc s z more))
  behind text a s rest fa reads is (Short b z gb short) =
      Short b z
      (subst (λ (t : List ℕ). h b t) (sym (append_assoc s rest z) ∙ ap (λ (t : List ℕ). t ++ z) (sym is)) (join a b s (rest ++ z) fa gb))
      (rw (is, reads rest) short)
  behind text a s rest fa reads is (Byte b front c more z gb goes at) =
      Byte b (s ++ front) c more z
      (subst (λ (t : List ℕ). h b t) (sym (append_assoc s front z)) (join a b s (front ++ z) fa gb))
      (λ y. rw (append_assoc s front (c ∷ y), reads (front ++ c ∷ y)) (goes y))
      (is ∙ ap (λ (t : List ℕ). s ++ t) at ∙ sym (append_assoc s front (c ∷ more)))
  behind text a s rest fa reads is (Field b front c d more z gb dc dd goes at) =
      Field b (s ++ front) c d more z
      (subst (λ (t : List ℕ). h b t) (sym (append_assoc s front (c ∷ z))) (join a b s (front ++ c ∷ z) fa gb))
      dc dd
      (λ y. rw (append_assoc s front (c ∷ d ∷ y), reads (front ++ c ∷ d ∷ y)) (goes y))
      (is ∙ ap (λ (t : List ℕ). s ++ t) at ∙ sym (append_assoc s front (c ∷ d ∷ more)))

  pub bind : (text : List ℕ) → Outcome A p f text → Outcome B both h text
  bind text (Good a s rest fa reads is) = behind text a s rest fa reads is (next a s fa rest)
  bind text (Short a z fa short) =
      let w = some a (text ++ z) fa in
      Short w.0 (z ++ w.1) (subst (λ (t : List ℕ). h w.0 t) (append_assoc text z w.1) (join a w.0 (text ++ z) w.1 fa w.2)) (rw short refl)
  bind text (Byte a front b rest z fa goes is) =
      let w = some a (front ++ z) fa in
      Byte w.0 front b rest (z ++ w.1) (subst (λ (t : List ℕ). h w.0 t) (append_assoc front z w.1) (join a w.0 (front ++ z) w.1 fa w.2)) (λ y. rw (goes y) refl) is
  bind text (Field a front b c rest z fa db dc goes is) =
      let w = some a (front ++ b ∷ z) fa in
      Field w.0 front b c rest (z ++ w.1) (subst (λ (t : List ℕ). h w.0 t) (append_assoc front (b ∷ z) w.1) (join a w.0 (front ++ b ∷ z) w.1 fa w.2)) db dc (λ y. rw (goes y) refl) is

-- ---- a reader, and then one up to the text's end

module _ {A B : Type 0} (p : List ℕ → Result (A × List ℕ) ℕ) (q : A → List ℕ → Result B ℕ) (f : A → List ℕ → Type 0) (g : A → B → List ℕ → Type 0) (h : B → List ℕ → Type 0)
    (join : (a : A) (b : B) (s z : List ℕ) → f a s → g a b z → h b (s ++ z))
    (some : (a : A) (s : List ℕ) → f a s → (b : B) × (z : List ℕ) × g a b z)
    (next : (a : A) (s : List ℕ) → f a s → (text : List ℕ) → Ending B (q a) (g a) text) where
  abbrev whole : List ℕ → Result B ℕ
  whole text = p text >>= λ x. q x.0 x.1

  ending_behind : (text : List ℕ) (a : A) (s rest : List ℕ) → f a s → ((y : List ℕ) → p (s ++ y) ≡ Ok (a, y)) → text ≡ s ++ rest → Ending B (q a) (g a) rest → Ending B whole h text
  ending_behind text a s rest fa reads is (Read b gb goes) =
      Read b (subst (λ (t : List ℕ). h b t) (sym is) (join a b s rest fa gb)) (rw (is, reads rest) goes)
  ending_behind text a s rest fa reads is (Lacks b z gb short) =
      Lacks b z
      (subst (λ (t : List ℕ). h b t) (sym (append_assoc s rest z) ∙ ap (λ (t : List ℕ). t ++ z) (sym is)) (join a b s (rest ++ z) fa gb))
      (rw (is, reads rest) short)
  ending_behind text a s rest fa reads is (Refuses b front c more z gb goes at) =
      Refuses b (s ++ front) c more z
      (subst (λ (t : List ℕ). h b t) (sym (append_assoc s front z)) (join a b s (front ++ z) fa gb))
      (λ y. rw (append_assoc s front (c ∷ y), reads (front ++ c ∷ y)) (goes y))
      (is ∙ ap (λ (t : List ℕ). s ++ t) at ∙ sym (append_assoc s front (c ∷ more)))
  ending_behind text a s rest fa reads is (Excludes b front c d more z gb dc dd goes at) =
      Excludes b (s ++ front) c d more z
      (subst (λ (t : List ℕ). h b t) (sym (append_assoc s front (c ∷ z))) (join a b s (front ++ c ∷ z) fa gb))
      dc dd
      (λ y. rw (append_assoc s front (c ∷ d ∷ y), reads (front ++ c ∷ d ∷ y)) (goes y))
      (is ∙ ap (λ (t : List ℕ). s ++ t) at ∙ sym (append_assoc s front (c ∷ d ∷ more)))

  pub bind_ending : (text : List ℕ) → Outcome A p f text → Ending B whole h text
  bind_ending text (Good a s rest fa reads is) = ending_behind text a s rest fa reads is (next a s fa rest)
  bind_ending text (Short a z fa short) =
      let w = some a (text ++ z) fa in
      Lacks w.0 (z ++ w.1) (subst (λ (t : List ℕ). h w.0 t) (append_assoc text z w.1) (join a w.0 (text ++ z) w.1 fa w.2)) (rw short refl)
  bind_ending text (Byte a front b rest z fa goes is) =
      let w = some a (front ++ z) fa in
      Refuses w.0 front b rest (z ++ w.1) (subst (λ (t : List ℕ). h w.0 t) (append_assoc front z w.1) (join a w.0 (front ++ z) w.1 fa w.2)) (λ y. rw (goes y) refl) is
  bind_ending text (Field a front b c rest z fa db dc goes is) =
      let w = some a (front ++ b ∷ z) fa in
      Excludes w.0 front b c rest (z ++ w.1) (subst (λ (t : List ℕ). h w.0 t) (append_assoc front (b ∷ z) w.1) (join a w.0 (front ++ b ∷ z) w.1 fa w.2)) db dc (λ y. rw (goes y) refl) is

-- ---- a reader of one byte more

module _ {A : Type 0} (p q : List ℕ → Result (A × List ℕ) ℕ) (c : ℕ) (f g : A → List ℕ → Type 0) (same : (y : List ℕ) → q (c ∷ y) ≡ p y) (more : (a : A) (s : List ℕ) → f a s → g a (c ∷ s)) where
  pub after : (text : List ℕ) → Outcome A p f text → Outcome A q g (c ∷ text)
  after text (Good a s rest fa reads is) = Good a (c ∷ s) rest (more a s fa) (λ y. same (s ++ y) ∙ reads y) (ap (λ (t : List ℕ). c ∷ t) is)
  after text (Short a z fa short) = Short a z (more a (text ++ z) fa) (same text ∙ short)
  after text (Byte a front b rest z fa goes is) = Byte a (c ∷ front) b rest z (more a (front ++ z) fa) (λ y. same (front ++ b ∷ y) ∙ goes y) (ap (λ (t : List ℕ). c ∷ t) is)
  after text (Field a front b d rest z fa db dd goes is) = Field a (c ∷ front) b d rest z (more a (front ++ b ∷ z) fa) db dd (λ y. same (front ++ b ∷ d ∷ y) ∙ goes y) (ap (λ (t : List ℕ). c ∷ t) is)

module _ {A : Type 0} (p q : List ℕ → Result A ℕ) (c : ℕ) (f g : A → List ℕ → Type 0) (same : (y : List ℕ) → q (c ∷ y) ≡ p y) (more : (a : A) (s : List ℕ) → f a s → g a (c ∷ s)) where
  pub ending_after : (text : List ℕ) → Ending A p f text → Ending A q g (c ∷ text)
  ending_after text (Read a fa goes) = Read a (more a text fa) (same text ∙ goes)
  ending_after text (Lacks a z fa short) = Lacks a z (more a (text ++ z) fa) (same text ∙ short)
  ending_after text (Refuses a front b rest z fa goes is) = Refuses a (c ∷ front) b rest z (more a (front ++ z) fa) (λ y. same (front ++ b ∷ y) ∙ goes y) (ap (λ (t : List ℕ). c ∷ t) is)
  ending_after text (Excludes a front b d rest z fa db dd goes is) = Excludes a (c ∷ front) b d rest z (more a (front ++ b ∷ z) fa) db dd (λ y. same (front ++ b ∷ d ∷ y) ∙ goes y) (ap (λ (t : List ℕ). c ∷ t) is)

-- ---- a function of what is read

module _ {A B : Type 0} (p : List ℕ → Result (A × List ℕ) ℕ) (k : A → B) (f : A → List ℕ → Type 0) (g : B → List ℕ → Type 0) (turn : (a : A) (s : List ℕ) → f a s → g (k a) s) where
  abbrev turned : List ℕ → Result (B × List ℕ) ℕ
  turned text = p text >>= λ x. Ok (k x.0, x.1)

  pub mapped : (text : List ℕ) → Outcome A p f text → Outcome B turned g text
  mapped text (Good a s rest fa reads is) = Good (k a) s rest (turn a s fa) (λ y. rw (reads y) refl) is
  mapped text (Short a z fa short) = Short (k a) z (turn a (text ++ z) fa) (rw short refl)
  mapped text (Byte a front b rest z fa goes is) = Byte (k a) front b rest z (turn a (front ++ z) fa) (λ y. rw (goes y) refl) is
  mapped text (Field a front b c rest z fa db dc goes is) = Field (k a) front b c rest z (turn a (front ++ b ∷ z) fa) db dc (λ y. rw (goes y) refl) is
