-- How many lines a text has: its line feeds, and one more if anything follows the last of them.
use Rattle.std.proofs.Common.{◌≡◌, ◌≢◌, ◌<◌, ◌+◌, ◌-◌, ◌==◌, ℕ, Bool, true, false, zero, suc, List, [], ◌∷◌, length, get_or, take, drop, if◌then◌else◌, refl, ◌∙◌, arith}
use Rattle.std.specs.List.{count_by}
use Rattle.std.proofs.lemmas.List.Recursion.{is_count_by}
use Rattle.std.proofs.lemmas.Bool.{eq-eqb, ne_eqb, cond_both}
use Rattle.script_text.specs.Lines.{lines_of, onto_first_line}

-- the line feeds of a text
abbrev line_feeds : List ℕ → ℕ
line_feeds [] = 0
line_feeds (b ∷ bs) = if b == 10 then 1 + line_feeds bs else line_feeds bs

feeds-counted : (xs : List ℕ) → line_feeds xs ≡ count_by (λ b. b == 10) xs
feeds-counted xs = is_count_by line_feeds (λ b. b == 10) refl (λ b bs. refl) xs

more_of_one : (t : Bool) (n k m : ℕ) → n + k ≡ m → (if t then 1 + n else n) + k ≡ (if t then 1 + m else m)
more_of_one true n k m e = omega (arith, e)
more_of_one false n k m e = e

feeds-split : (n : ℕ) (xs : List ℕ) → line_feeds (take n xs) + line_feeds (drop n xs) ≡ line_feeds xs
feeds-split zero xs = omega arith
feeds-split (suc n) [] = refl
feeds-split (suc n) (b ∷ bs) = more_of_one (b == 10) (line_feeds (take n bs)) (line_feeds (drop n bs)) (line_feeds bs) (feeds-split n bs)

-- a text has the line feeds of its two pieces
pub count_split : (n : ℕ) (xs : List ℕ) → count_by (λ b. b == 10) (take n xs) + count_by (λ b. b == 10) (drop n xs) ≡ count_by (λ b. b == 10) xs
count_split n xs = omega (arith, feeds-split n xs, feeds-counted (take n xs), feeds-counted (drop n xs), feeds-counted xs)

some-onto : (b : ℕ) (ls : List (List ℕ)) → 0 < length (onto_first_line b ls)
some-onto b [] = omega arith
some-onto b (l ∷ ls) = omega arith

some-line : (b : ℕ) (bs : List ℕ) → 0 < length (lines_of (b ∷ bs))
some-line b bs =
    cond_both (b == 10) _ _ (λ (ls : List (List ℕ)). 0 < length ls) (λ t. omega arith) (λ f. some-onto b (lines_of bs))

onto-length : (b : ℕ) (ls : List (List ℕ)) → 0 < length ls → length (onto_first_line b ls) ≡ length ls
onto-length b [] some = absurd (omega arith)
onto-length b (l ∷ ls) some = refl

one-byte-more : (t : Bool) (b : ℕ) (ls : List (List ℕ)) (n k : ℕ) → 0 < length ls → length ls ≡ n + k
    → length (if t then [] ∷ ls else onto_first_line b ls) ≡ (if t then 1 + n else n) + k
one-byte-more true b ls n k some e = omega (arith, e)
one-byte-more false b ls n k some e = onto-length b ls some ∙ e

-- a text has k more lines than line feeds if its last byte has
lines-by-last : (k b : ℕ) (bs : List ℕ) → length (lines_of (get_or (b ∷ bs) (length bs) 0 ∷ [])) ≡ line_feeds (get_or (b ∷ bs) (length bs) 0 ∷ []) + k
    → length (lines_of (b ∷ bs)) ≡ line_feeds (b ∷ bs) + k
lines-by-last k b [] last = last
lines-by-last k b (c ∷ cs) last = one-byte-more (b == 10) b (lines_of (c ∷ cs)) (line_feeds (c ∷ cs)) k (some-line c cs) (lines-by-last k c cs last)

fed : (x : ℕ) → x ≡ 10 → length (lines_of (x ∷ [])) ≡ line_feeds (x ∷ []) + 0
fed x e = rw (eq-eqb x 10 e)

unfed : (x : ℕ) → x ≢ 10 → length (lines_of (x ∷ [])) ≡ line_feeds (x ∷ []) + 1
unfed x e = rw (ne_eqb x 10 e)

at-last : (b : ℕ) (bs : List ℕ) → length (b ∷ bs) - 1 ≡ length bs
at-last b bs = omega arith

-- a text that ends with a line feed has as many lines
pub lines_closed : (xs : List ℕ) → 0 < length xs → get_or xs (length xs - 1) 0 ≡ 10 → count_by (λ b. b == 10) xs ≡ length (lines_of xs)
lines_closed [] some last = absurd (omega arith)
lines_closed (b ∷ bs) some last =
    let here : get_or (b ∷ bs) (length bs) 0 ≡ 10 = rw (← at-last b bs) last in
    let counted = lines-by-last 0 b bs (fed (get_or (b ∷ bs) (length bs) 0) here) in
    omega (arith, counted, feeds-counted (b ∷ bs))

-- any other has one more
pub lines_unclosed : (xs : List ℕ) → 0 < length xs → get_or xs (length xs - 1) 0 ≢ 10 → count_by (λ b. b == 10) xs + 1 ≡ length (lines_of xs)
lines_unclosed [] some last = absurd (omega arith)
lines_unclosed (b ∷ bs) some last =
    let here : get_or (b ∷ bs) (length bs) 0 ≢ 10 = rw (← at-last b bs) last in
    let counted = lines-by-last 1 b bs (unfed (get_or (b ∷ bs) (length bs) 0) here) in
    omega (arith, counted, feeds-counted (b ∷ bs))
