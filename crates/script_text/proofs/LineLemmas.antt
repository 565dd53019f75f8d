-- Where the first line of a text and the first word of a line end.
use Rattle.std.proofs.Common.{◌≡◌, ◌≢◌, ◌<◌, ◌+◌, ◌==◌, ℕ, zero, suc, List, [], ◌∷◌, length, get_or, take, drop, refl, arith, add-one}
use Rattle.std.proofs.lemmas.Bool.{eq-eqb, ne_eqb, cond_both}
use Rattle.script_text.specs.Lines.{Word, IsFirstByte, lines_of, words_from, onto_first_word}
use Rattle.script_text.specs.Reading.{next_column}

-- a line ends at the first line feed
pub lines_at : (xs : List ℕ) (i : ℕ) → i < length xs → get_or xs i 0 ≡ 10 → ((k : ℕ) → k < i → get_or xs k 0 ≢ 10) → lines_of xs ≡ take i xs ∷ lines_of (drop (suc i) xs)
lines_at [] i within here before = absurd (omega arith)
lines_at (b ∷ bs) zero within here before = rw (eq-eqb b 10 here)
lines_at (b ∷ bs) (suc i) within here before =
    rw (ne_eqb b 10 (before 0 (omega arith)), lines_at bs i (omega arith) here (λ k h. before (suc k) (omega arith)))

-- a text without a line feed is one line
pub one_line : (xs : List ℕ) → 0 < length xs → ((k : ℕ) → k < length xs → get_or xs k 0 ≢ 10) → lines_of xs ≡ xs ∷ []
one_line [] some none = absurd (omega arith)
one_line (b ∷ []) some none = rw (ne_eqb b 10 (none 0 (omega arith)))
one_line (b ∷ c ∷ bs) some none =
    rw (ne_eqb b 10 (none 0 (omega arith)), one_line (c ∷ bs) (omega arith) (λ k h. none (suc k) (omega arith)))

-- a word ends at the first space
pub words_at : (column : ℕ) (xs : List ℕ) (i : ℕ) → i < length xs → get_or xs i 0 ≡ 32 → ((k : ℕ) → k < i → get_or xs k 0 ≢ 32)
    → words_from column xs ≡ record { column = column; text = take i xs } ∷ words_from (column + suc i) (drop (suc i) xs)
words_at column [] i within here before = absurd (omega arith)
words_at column (b ∷ bs) zero within here before = rw (eq-eqb b 32 here)
words_at column (b ∷ bs) (suc i) within here before =
    let shift : (column + 1) + suc i ≡ column + suc (suc i) = omega arith in
    rw (ne_eqb b 32 (before 0 (omega arith)), words_at (column + 1) bs i (omega arith) here (λ k h. before (suc k) (omega arith)), shift)

-- what has no space is one word
pub one_word : (column : ℕ) (xs : List ℕ) → ((k : ℕ) → k < length xs → get_or xs k 0 ≢ 32) → words_from column xs ≡ record { column = column; text = xs } ∷ []
one_word column [] none = refl
one_word column (b ∷ bs) none =
    rw (ne_eqb b 32 (none 0 (omega arith)), one_word (column + 1) bs (λ k h. none (suc k) (omega arith)))

-- the same, with the sums as the code has them
pub words_split : (column : ℕ) (xs : List ℕ) (i : ℕ) → IsFirstByte 32 xs i
    → words_from column xs ≡ record { column = column; text = take i xs } ∷ words_from (column + i + 1) (drop (i + 1) xs)
words_split column xs i f =
    let shift : column + i + 1 ≡ column + suc i = omega arith in
    let next : i + 1 ≡ suc i = omega arith in
    rw (shift, next) (words_at column xs i f.within f.here f.before)

pub lines_split : (xs : List ℕ) (i : ℕ) → IsFirstByte 10 xs i → lines_of xs ≡ take i xs ∷ lines_of (drop (i + 1) xs)
lines_split xs i f = rw add-one (lines_at xs i f.within f.here f.before)

some-onto : (column b : ℕ) (words : List Word) → 0 < length words → 0 < length (onto_first_word column b words)
some-onto column b [] some = some
some-onto column b (word ∷ words) some = omega arith

some-word : (column : ℕ) (xs : List ℕ) → 0 < length (words_from column xs)
some-word column [] = omega arith
some-word column (b ∷ bs) =
    cond_both (b == 32) _ _ (λ (ws : List Word). 0 < length ws) (λ t. omega arith) (λ f. some-onto column b (words_from (column + 1) bs) (some-word (column + 1) bs))

onto-column : (past column b : ℕ) (words : List Word) → 0 < length words → next_column past (onto_first_word column b words) ≡ column
onto-column past column b [] some = absurd (omega arith)
onto-column past column b (word ∷ words) some = refl

-- the first word is at the column from which a line is read
pub first_word_column : (past column : ℕ) (xs : List ℕ) → next_column past (words_from column xs) ≡ column
first_word_column past column [] = refl
first_word_column past column (b ∷ bs) =
    cond_both (b == 32) _ _ (λ (ws : List Word). next_column past ws ≡ column) (λ t. refl) (λ f. onto-column past column b (words_from (column + 1) bs) (some-word (column + 1) bs))
