-- Where the reader of durations as Go writes them finds its faults.
use Rattle.std.proofs.Common.{◌≡◌, ℕ, zero, suc, ◌+◌, ◌-◌, ◌*◌, ◌^◌, ◌<◌, ◌≤◌, ◌==◌, true, false, if◌then◌else◌, inl, inr, List, [], ◌∷◌, length, length-append, arith, refl, sym, ap, ◌∙◌, Result, Ok, Err}
use Rattle.std.proofs.lemmas.Bool.{eqb-true, eq-eqb, ne_eqb}
use Rattle.schedule_text.specs.Numbers.{is_digit, begins_with_digit, number_from, behind_digits, billionths_from, behind_billionths, first_weight}
use Rattle.schedule_text.specs.Reading.{◌>>=◌}
use Rattle.schedule_text.specs.GoDurations.{unit_with_s, unit_behind_m, unit_behind_mu, unit_at, begins_with_point, behind_first, literal_at, term_nanos, term_at, terms_from, sum_at, behind_sign}
use Rattle.schedule_text.proofs.Sums.{is_or}
use Rattle.schedule_text.proofs.MomentTexts.{weight_of, weight_next, some_weight}
use Rattle.schedule_text.proofs.GoTerms.{Reads, Fails, TermView, term_view, term_length}
use Rattle.schedule_text.proofs.Places.{Placed, Fine, SomeText, after, first_refused, nothing_there}

-- ---- terms, one by one

pub terms_step : (most sum : ℕ) (text : List ℕ) (nanos : ℕ) (rest : List ℕ) → 0 < length text → term_at false text ≡ Ok (nanos, rest) → terms_from false (suc most) sum text ≡ terms_from false most (sum + nanos) rest
unfolding terms_from
terms_step most sum [] nanos rest some is = absurd (omega arith)
terms_step most sum (b ∷ bs) nanos rest some is = rw is refl

pub terms_stop : (most sum : ℕ) (text : List ℕ) (left : ℕ) → 0 < length text → term_at false text ≡ Err left → terms_from false (suc most) sum text ≡ Err left
unfolding terms_from
terms_stop most sum [] left some is = absurd (omega arith)
terms_stop most sum (b ∷ bs) left some is = rw is refl

pub terms_end : (most sum : ℕ) → terms_from false most sum [] ≡ Ok sum
unfolding terms_from
terms_end zero sum = refl
terms_end (suc most) sum = refl

same_pair : (x z : ℕ × List ℕ) (r : Result (ℕ × List ℕ) ℕ) → r ≡ Ok x → r ≡ Ok z → x ≡ z
same_pair x z r first second = cc

same_rest : (n m : ℕ) (s t : List ℕ) (r : Result (ℕ × List ℕ) ℕ) → r ≡ Ok (n, s) → r ≡ Ok (m, t) → s ≡ t
same_rest n m s t r first second = ap (λ (x : ℕ × List ℕ). x.1) (same_pair (n, s) (m, t) r first second)

no_rest : (n : ℕ) (s : List ℕ) (left : ℕ) (r : Result (ℕ × List ℕ) ℕ) → r ≡ Ok (n, s) → r ≡ Err left → ⊥
no_rest n s left r first second = cc

-- a term has a byte
shorter : (text : List ℕ) (nanos : ℕ) (rest : List ℕ) → term_at false text ≡ Ok (nanos, rest) → TermView text → length rest < length text
shorter text nanos rest is (Reads n s z term read at) =
    let same = same_rest nanos n rest z (term_at false text) is read in
    let some = term_length n s term in
    omega (arith, ap length at, length-append s z, ap length same)
shorter text nanos rest is (Fails left fault) = absurd (no_rest nanos rest left (term_at false text) is fault)

enough_by : (most k sum b : ℕ) (bs : List ℕ) → ((n : ℕ) (rest : List ℕ) → length rest ≤ most → length rest ≤ k → terms_from false most n rest ≡ terms_from false k n rest) → length (b ∷ bs) ≤ suc most → length (b ∷ bs) ≤ suc k → TermView (b ∷ bs) → terms_from false (suc most) sum (b ∷ bs) ≡ terms_from false (suc k) sum (b ∷ bs)
enough_by most k sum b bs more first second (Fails left fault) = terms_stop most sum (b ∷ bs) left (omega arith) fault ∙ sym (terms_stop k sum (b ∷ bs) left (omega arith) fault)
enough_by most k sum b bs more first second (Reads nanos s rest term read is) =
    let less = shorter (b ∷ bs) nanos rest read (term_view (b ∷ bs)) in
    terms_step most sum (b ∷ bs) nanos rest (omega arith) read ∙ more (sum + nanos) rest (omega arith) (omega arith) ∙ sym (terms_step k sum (b ∷ bs) nanos rest (omega arith) read)

-- any number of terms that isn't below the number of bytes is enough
enough : (most k sum : ℕ) (text : List ℕ) → length text ≤ most → length text ≤ k → terms_from false most sum text ≡ terms_from false k sum text
enough most k sum [] first second = terms_end most sum ∙ sym (terms_end k sum)
enough zero k sum (b ∷ bs) first second = absurd (omega arith)
enough (suc most) zero sum (b ∷ bs) first second = absurd (omega arith)
enough (suc most) (suc k) sum (b ∷ bs) first second = enough_by most k sum b bs (λ n rest less few. enough most k n rest less few) first second (term_view (b ∷ bs))

-- terms up to the text's end, or none
terms : ℕ → List ℕ → Result ℕ ℕ
terms sum text = terms_from false (length text) sum text

terms_none : (sum : ℕ) → terms sum [] ≡ Ok sum
unfolding terms
terms_none sum = terms_end 0 sum

-- a unit and further terms behind a literal
abbrev unit_on : ℕ → ℕ × ℕ → List ℕ → Result ℕ ℕ
unit_on sum literal text = unit_at text >>= λ unit. terms (sum + term_nanos false literal unit.0) unit.1

term_fault : (text : List ℕ) (left : ℕ) → literal_at false text ≡ Err left → term_at false text ≡ Err left
unfolding term_at
term_fault text left is = rw is refl

term_unit_fault : (text : List ℕ) (literal : (ℕ × ℕ) × List ℕ) (left : ℕ) → literal_at false text ≡ Ok literal → unit_at literal.1 ≡ Err left → term_at false text ≡ Err left
unfolding term_at
term_unit_fault text literal left is behind = rw (is, behind) refl

term_is : (text : List ℕ) (literal : (ℕ × ℕ) × List ℕ) (unit : ℕ × List ℕ) → literal_at false text ≡ Ok literal → unit_at literal.1 ≡ Ok unit → term_at false text ≡ Ok (term_nanos false literal.0 unit.0, unit.1)
unfolding term_at
term_is text literal unit is behind = rw (is, behind) refl

next_unit : (sum b : ℕ) (y : List ℕ) (literal : (ℕ × ℕ) × List ℕ) → literal_at false (b ∷ y) ≡ Ok literal → (unit : Result (ℕ × List ℕ) ℕ) → unit_at literal.1 ≡ unit → terms sum (b ∷ y) ≡ (unit >>= λ unit. terms (sum + term_nanos false literal.0 unit.0) unit.1)
unfolding terms
next_unit sum b y literal is (Err left) at = terms_stop (length y) sum (b ∷ y) left (omega arith) (term_unit_fault (b ∷ y) literal left is at)
next_unit sum b y literal is (Ok unit) at =
    let read = term_is (b ∷ y) literal unit is at in
    let less = shorter (b ∷ y) (term_nanos false literal.0 unit.0) unit.1 read (term_view (b ∷ y)) in
    terms_step (length y) sum (b ∷ y) (term_nanos false literal.0 unit.0) unit.1 (omega arith) read ∙ enough (length y) (length unit.1) (sum + term_nanos false literal.0 unit.0) unit.1 (omega arith) (omega arith)

next_literal : (sum b : ℕ) (y : List ℕ) (literal : Result ((ℕ × ℕ) × List ℕ) ℕ) → literal_at false (b ∷ y) ≡ literal → terms sum (b ∷ y) ≡ (literal >>= λ literal. unit_on sum literal.0 literal.1)
unfolding terms
next_literal sum b y (Err left) is = terms_stop (length y) sum (b ∷ y) left (omega arith) (term_fault (b ∷ y) left is)
next_literal sum b y (Ok literal) is = next_unit sum b y literal is (unit_at literal.1) refl

terms_next : (sum b : ℕ) (y : List ℕ) → terms sum (b ∷ y) ≡ (literal_at false (b ∷ y) >>= λ literal. unit_on sum literal.0 literal.1)
terms_next sum b y = next_literal sum b y (literal_at false (b ∷ y)) refl

-- ---- what is read behind each byte

-- behind some digits
abbrev digits_on : ℕ → ℕ → List ℕ → Result ℕ ℕ
digits_on sum n text =
    if begins_with_point (behind_digits text)
    then unit_on sum (number_from false n text, billionths_from first_weight 0 (behind_first (behind_digits text))) (behind_billionths first_weight (behind_first (behind_digits text)))
    else unit_on sum (number_from false n text, 0) (behind_digits text)

-- behind a point with no digit before it
abbrev point_on : ℕ → List ℕ → Result ℕ ℕ
point_on sum text = if begins_with_digit text then unit_on sum (0, billionths_from first_weight 0 text) (behind_billionths first_weight text) else Err (length text)

-- behind a point and a digit, with room for that many digits more
abbrev fraction_on : ℕ → ℕ → ℕ → ℕ → List ℕ → Result ℕ ℕ
fraction_on sum whole places n text = unit_on sum (whole, billionths_from (weight_of places) n text) (behind_billionths (weight_of places) text)

-- behind the first byte of a unit
abbrev with_s_on : ℕ → ℕ × ℕ → ℕ → List ℕ → Result ℕ ℕ
with_s_on sum literal nanos text = unit_with_s nanos text >>= λ unit. terms (sum + term_nanos false literal unit.0) unit.1

abbrev m_on : ℕ → ℕ × ℕ → List ℕ → Result ℕ ℕ
m_on sum literal text = unit_behind_m text >>= λ unit. terms (sum + term_nanos false literal unit.0) unit.1

abbrev mu_on : ℕ → ℕ × ℕ → ℕ → List ℕ → Result ℕ ℕ
mu_on sum literal second text = unit_behind_mu second text >>= λ unit. terms (sum + term_nanos false literal unit.0) unit.1

terms_digit : (sum b : ℕ) (y : List ℕ) → is_digit b ≡ true → terms sum (b ∷ y) ≡ digits_on sum (0 * 10 + (b - 48)) y
terms_digit sum b y digit = elim (is_or (begins_with_point (behind_digits y))) [
  | inl point ↦ terms_next sum b y ∙ rw (digit, point) refl
  | inr none ↦ terms_next sum b y ∙ rw (digit, none) refl
]

terms_point : (sum : ℕ) (y : List ℕ) → terms sum (46 ∷ y) ≡ point_on sum y
terms_point sum y = elim (is_or (begins_with_digit y)) [
  | inl digit ↦ terms_next sum 46 y ∙ rw digit refl
  | inr none ↦ terms_next sum 46 y ∙ rw none refl
]

terms_bad : (sum b : ℕ) (y : List ℕ) → is_digit b ≡ false → (b == 46) ≡ false → terms sum (b ∷ y) ≡ Err (length (b ∷ y))
terms_bad sum b y no_digit no_point = terms_next sum b y ∙ rw (no_digit, no_point) refl

digits_digit : (sum n b : ℕ) (y : List ℕ) → is_digit b ≡ true → digits_on sum n (b ∷ y) ≡ digits_on sum (n * 10 + (b - 48)) y
digits_digit sum n b y digit = rw digit refl

digits_other : (sum n b : ℕ) (y : List ℕ) → is_digit b ≡ false → (b == 46) ≡ false → digits_on sum n (b ∷ y) ≡ unit_on sum (n, 0) (b ∷ y)
digits_other sum n b y no_digit no_point = rw (no_digit, no_point) refl

fraction_digit : (sum whole places n b : ℕ) (y : List ℕ) → is_digit b ≡ true → fraction_on sum whole (suc places) n (b ∷ y) ≡ fraction_on sum whole places (n + (b - 48) * 10 ^ places) y
fraction_digit sum whole places n b y digit = rw (digit, some_weight places, weight_next places) refl

fraction_other : (sum whole places n b : ℕ) (y : List ℕ) → is_digit b ≡ false → fraction_on sum whole places n (b ∷ y) ≡ unit_on sum (whole, n) (b ∷ y)
fraction_other sum whole places n b y no_digit = rw no_digit refl

fraction_last : (sum whole n b : ℕ) (y : List ℕ) → fraction_on sum whole 0 n (b ∷ y) ≡ unit_on sum (whole, n) (b ∷ y)
fraction_last sum whole n b y = elim (is_or (is_digit b)) [ inl digit ↦ rw digit refl | inr other ↦ rw other refl ]

-- ---- each of them can be finished

terms_some : (sum : ℕ) → SomeText ℕ (terms sum)
terms_some sum = record { a = sum; z = []; reads = terms_none sum }

digits_some : (sum n : ℕ) → SomeText ℕ (digits_on sum n)
digits_some sum n = record { a = sum + term_nanos false (n, 0) 1000000000; z = 115 ∷ []; reads = terms_none (sum + term_nanos false (n, 0) 1000000000) }

point_some : (sum : ℕ) → SomeText ℕ (point_on sum)
point_some sum = record { a = sum + term_nanos false (0, 0) 1000000000; z = 48 ∷ 115 ∷ []; reads = terms_none (sum + term_nanos false (0, 0) 1000000000) }

fraction_some : (sum whole places n : ℕ) → SomeText ℕ (fraction_on sum whole places n)
fraction_some sum whole places n = record { a = sum + term_nanos false (whole, n) 1000000000; z = 115 ∷ []; reads = terms_none (sum + term_nanos false (whole, n) 1000000000) }

with_s_some : (sum : ℕ) (literal : ℕ × ℕ) (nanos : ℕ) → SomeText ℕ (with_s_on sum literal nanos)
with_s_some sum literal nanos = record { a = sum + term_nanos false literal nanos; z = 115 ∷ []; reads = terms_none (sum + term_nanos false literal nanos) }

m_some : (sum : ℕ) (literal : ℕ × ℕ) → SomeText ℕ (m_on sum literal)
m_some sum literal = record { a = sum + term_nanos false literal 60000000000; z = []; reads = terms_none (sum + term_nanos false literal 60000000000) }

mu_some : (sum : ℕ) (literal : ℕ × ℕ) (second : ℕ) → SomeText ℕ (mu_on sum literal second)
mu_some sum literal second = record { a = sum + term_nanos false literal 1000; z = second ∷ 115 ∷ []; reads = rw (eq-eqb second second refl) (terms_none (sum + term_nanos false literal 1000)) }

-- ---- the places of their faults

record All (text : List ℕ) : Type 0 where
  pub of_terms : (sum : ℕ) → Placed ℕ (terms sum) text
  pub of_digits : (sum n : ℕ) → Placed ℕ (digits_on sum n) text
  pub of_point : (sum : ℕ) → Placed ℕ (point_on sum) text
  pub of_fraction : (sum whole places n : ℕ) → Placed ℕ (fraction_on sum whole places n) text
  pub of_s : (sum : ℕ) (literal : ℕ × ℕ) (nanos : ℕ) → Placed ℕ (with_s_on sum literal nanos) text
  pub of_m : (sum : ℕ) (literal : ℕ × ℕ) → Placed ℕ (m_on sum literal) text
  pub of_mu : (sum : ℕ) (literal : ℕ × ℕ) (second : ℕ) → Placed ℕ (mu_on sum literal second) text

module _ (q : List ℕ → Result ℕ ℕ) (some : SomeText ℕ q) (b : ℕ) (bs : List ℕ) (more : All bs) where
  terms_byte : (sum : ℕ) → ((y : List ℕ) → q (b ∷ y) ≡ terms sum (b ∷ y)) → Placed ℕ q (b ∷ bs)
  terms_byte sum same = elim (is_or (is_digit b)) [
    | inl digit ↦ after (digits_on sum (0 * 10 + (b - 48))) q b (λ y. same y ∙ terms_digit sum b y digit) bs (more.of_digits sum (0 * 10 + (b - 48)))
    | inr no_digit ↦ elim (is_or (b == 46)) [
      | inl is ↦ let point = eqb-true b 46 is in after (point_on sum) q b (λ y. same y ∙ ap (λ (c : ℕ). terms sum (c ∷ y)) point ∙ terms_point sum y) bs (more.of_point sum)
      | inr no_point ↦ first_refused q some b bs (λ y. same y ∙ terms_bad sum b y no_digit no_point)
    ]
  ]

  unit_byte : (sum : ℕ) (literal : ℕ × ℕ) → ((y : List ℕ) → q (b ∷ y) ≡ unit_on sum literal (b ∷ y)) → Placed ℕ q (b ∷ bs)
  unit_byte sum literal same = elim (is_or (b == 104)) [
    | inl is ↦ behind_unit 3600000000000 104 (eqb-true b 104 is) (λ y. refl)
    | inr h ↦ elim (is_or (b == 109)) [
      | inl is ↦ after (m_on sum literal) q b (as_byte 109 (eqb-true b 109 is)) bs (more.of_m sum literal)
      | inr m ↦ elim (is_or (b == 115)) [
        | inl is ↦ behind_unit 1000000000 115 (eqb-true b 115 is) (λ y. refl)
        | inr s ↦ elim (is_or (b == 110)) [
          | inl is ↦ after (with_s_on sum literal 1) q b (as_byte 110 (eqb-true b 110 is)) bs (more.of_s sum literal 1)
          | inr n ↦ elim (is_or (b == 117)) [
            | inl is ↦ after (with_s_on sum literal 1000) q b (as_byte 117 (eqb-true b 117 is)) bs (more.of_s sum literal 1000)
            | inr u ↦ elim (is_or (b == 194)) [
              | inl is ↦ after (mu_on sum literal 181) q b (as_byte 194 (eqb-true b 194 is)) bs (more.of_mu sum literal 181)
              | inr sign ↦ elim (is_or (b == 206)) [
                | inl is ↦ after (mu_on sum literal 188) q b (as_byte 206 (eqb-true b 206 is)) bs (more.of_mu sum literal 188)
                | inr greek ↦ first_refused q some b bs (λ y. same y ∙ rw (h, m, s, n, u, sign, greek) refl)
              ]
            ]
          ]
        ]
      ]
    ]
  ]
    where
      as_byte : (c : ℕ) → b ≡ c → (y : List ℕ) → q (b ∷ y) ≡ unit_on sum literal (c ∷ y)
      as_byte c is y = same y ∙ ap (λ (d : ℕ). unit_on sum literal (d ∷ y)) is

      behind_unit : (nanos c : ℕ) → b ≡ c → ((y : List ℕ) → unit_on sum literal (c ∷ y) ≡ terms (sum + term_nanos false literal nanos) y) → Placed ℕ q (b ∷ bs)
      behind_unit nanos c is goes = after (terms (sum + term_nanos false literal nanos)) q b (λ y. as_byte c is y ∙ goes y) bs (more.of_terms (sum + term_nanos false literal nanos))

  digits_byte : (sum n : ℕ) → ((y : List ℕ) → q (b ∷ y) ≡ digits_on sum n (b ∷ y)) → Placed ℕ q (b ∷ bs)
  digits_byte sum n same = elim (is_or (is_digit b)) [
    | inl digit ↦ after (digits_on sum (n * 10 + (b - 48))) q b (λ y. same y ∙ digits_digit sum n b y digit) bs (more.of_digits sum (n * 10 + (b - 48)))
    | inr no_digit ↦ elim (is_or (b == 46)) [
      | inl is ↦ let point = eqb-true b 46 is in after (fraction_on sum n 9 0) q b (λ y. same y ∙ ap (λ (c : ℕ). digits_on sum n (c ∷ y)) point) bs (more.of_fraction sum n 9 0)
      | inr no_point ↦ unit_byte sum (n, 0) (λ y. same y ∙ digits_other sum n b y no_digit no_point)
    ]
  ]

point_digit : (sum b : ℕ) (y : List ℕ) → is_digit b ≡ true → point_on sum (b ∷ y) ≡ fraction_on sum 0 8 (0 + (b - 48) * 10 ^ 8) y
point_digit sum b y digit = rw digit refl

point_byte : (b : ℕ) (bs : List ℕ) → All bs → (sum : ℕ) → Placed ℕ (point_on sum) (b ∷ bs)
point_byte b bs more sum = elim (is_or (is_digit b)) [
  | inl digit ↦ after (fraction_on sum 0 8 (0 + (b - 48) * 10 ^ 8)) (point_on sum) b (λ y. point_digit sum b y digit) bs (more.of_fraction sum 0 8 (0 + (b - 48) * 10 ^ 8))
  | inr no_digit ↦ first_refused (point_on sum) (point_some sum) b bs (λ y. rw no_digit refl)
]

fraction_byte : (b : ℕ) (bs : List ℕ) → All bs → (sum whole places n : ℕ) → Placed ℕ (fraction_on sum whole places n) (b ∷ bs)
fraction_byte b bs more sum whole zero n = unit_byte (fraction_on sum whole 0 n) (fraction_some sum whole 0 n) b bs more sum (whole, n) (λ y. fraction_last sum whole n b y)
fraction_byte b bs more sum whole (suc places) n = elim (is_or (is_digit b)) [
  | inl digit ↦
      after (fraction_on sum whole places (n + (b - 48) * 10 ^ places)) (fraction_on sum whole (suc places) n) b (λ y. fraction_digit sum whole places n b y digit) bs
      (more.of_fraction sum whole places (n + (b - 48) * 10 ^ places))
  | inr no_digit ↦ unit_byte (fraction_on sum whole (suc places) n) (fraction_some sum whole (suc places) n) b bs more sum (whole, n) (λ y. fraction_other sum whole (suc places) n b y no_digit)
]

s_byte : (b : ℕ) (bs : List ℕ) → All bs → (sum : ℕ) (literal : ℕ × ℕ) (nanos : ℕ) → Placed ℕ (with_s_on sum literal nanos) (b ∷ bs)
s_byte b bs more sum literal nanos = elim (is_or (b == 115)) [
  | inl is ↦ after (terms (sum + term_nanos false literal nanos)) (with_s_on sum literal nanos) b (λ y. rw is refl) bs (more.of_terms (sum + term_nanos false literal nanos))
  | inr other ↦ first_refused (with_s_on sum literal nanos) (with_s_some sum literal nanos) b bs (λ y. rw other refl)
]

m_byte : (b : ℕ) (bs : List ℕ) → All bs → (sum : ℕ) (literal : ℕ × ℕ) → Placed ℕ (m_on sum literal) (b ∷ bs)
m_byte b bs more sum literal = elim (is_or (b == 115)) [
  | inl is ↦ after (terms (sum + term_nanos false literal 1000000)) (m_on sum literal) b (λ y. rw is refl) bs (more.of_terms (sum + term_nanos false literal 1000000))
  | inr other ↦ terms_byte (m_on sum literal) (m_some sum literal) b bs more (sum + term_nanos false literal 60000000000) (λ y. rw other refl)
]

mu_byte : (b : ℕ) (bs : List ℕ) → All bs → (sum : ℕ) (literal : ℕ × ℕ) (second : ℕ) → Placed ℕ (mu_on sum literal second) (b ∷ bs)
mu_byte b bs more sum literal second = elim (is_or (b == second)) [
  | inl is ↦ after (with_s_on sum literal 1000) (mu_on sum literal second) b (λ y. rw is refl) bs (more.of_s sum literal 1000)
  | inr other ↦ first_refused (mu_on sum literal second) (mu_some sum literal second) b bs (λ y. rw other refl)
]

all : (text : List ℕ) → All text
all [] =
    record {
      of_terms = λ sum. Fine sum (terms_none sum);
      of_digits = λ sum n. nothing_there (digits_on sum n) (digits_some sum n) refl;
      of_point = λ sum. nothing_there (point_on sum) (point_some sum) refl;
      of_fraction = λ sum whole places n. nothing_there (fraction_on sum whole places n) (fraction_some sum whole places n) refl;
      of_s = λ sum literal nanos. nothing_there (with_s_on sum literal nanos) (with_s_some sum literal nanos) refl;
      of_m = λ sum literal. Fine (sum + term_nanos false literal 60000000000) (terms_none (sum + term_nanos false literal 60000000000));
      of_mu = λ sum literal second. nothing_there (mu_on sum literal second) (mu_some sum literal second) refl;
    }
all (b ∷ bs) =
    let more = all bs in
    record {
      of_terms = λ sum. terms_byte (terms sum) (terms_some sum) b bs more sum (λ y. refl);
      of_digits = λ sum n. digits_byte (digits_on sum n) (digits_some sum n) b bs more sum n (λ y. refl);
      of_point = point_byte b bs more;
      of_fraction = fraction_byte b bs more;
      of_s = s_byte b bs more;
      of_m = m_byte b bs more;
      of_mu = mu_byte b bs more;
    }

-- ---- whole texts

-- the sum behind the sign
abbrev pub go_at : List ℕ → Result ℕ ℕ
go_at text = sum_at false (behind_sign text)

more_left : (n : ℕ) → (suc n == 0) ≡ false
more_left n = ne_eqb (suc n) 0 (λ none. omega arith)

sum_at-terms : (b : ℕ) (y : List ℕ) → (b == 48) ≡ false → sum_at false (b ∷ y) ≡ terms 0 (b ∷ y)
unfolding terms
sum_at-terms b y other = rw (other, more_left (length y)) refl

-- behind a `0` at the start
abbrev zero_on : List ℕ → Result ℕ ℕ
zero_on text = if length text == 0 then Ok 0 else digits_on 0 0 text

sum_at-more : (c : ℕ) (y : List ℕ) → sum_at false (48 ∷ c ∷ y) ≡ terms 0 (48 ∷ c ∷ y)
unfolding terms
sum_at-more c y = rw (more_left (length y), more_left (suc (length y))) refl

sum_at-zero : (y : List ℕ) → sum_at false (48 ∷ y) ≡ zero_on y
sum_at-zero [] = refl
sum_at-zero (c ∷ y) = sum_at-more c y ∙ terms_digit 0 48 (c ∷ y) refl ∙ rw (more_left (length y)) refl

zero_placed : (text : List ℕ) → Placed ℕ zero_on text
zero_placed [] = Fine 0 refl
zero_placed (c ∷ cs) = digits_byte zero_on (record { a = 0; z = []; reads = refl }) c cs (all cs) 0 0 (λ y. rw (more_left (length y)) refl)

sum_some : SomeText ℕ (sum_at false)
sum_some = record { a = 0; z = 48 ∷ []; reads = refl }

module _ (q : List ℕ → Result ℕ ℕ) (some : SomeText ℕ q) (b : ℕ) (bs : List ℕ) (same : (y : List ℕ) → q (b ∷ y) ≡ sum_at false (b ∷ y)) where
  sum_byte : Placed ℕ q (b ∷ bs)
  sum_byte = elim (is_or (b == 48)) [
    | inl is ↦ let digit = eqb-true b 48 is in after zero_on q b (λ y. same y ∙ ap (λ (c : ℕ). sum_at false (c ∷ y)) digit ∙ sum_at-zero y) bs (zero_placed bs)
    | inr other ↦ terms_byte q some b bs (all bs) 0 (λ y. same y ∙ sum_at-terms b y other)
  ]

sum_placed : (text : List ℕ) → Placed ℕ (sum_at false) text
sum_placed [] = nothing_there (sum_at false) sum_some refl
sum_placed (b ∷ bs) = sum_byte (sum_at false) sum_some b bs (λ y. refl)

go_some : SomeText ℕ go_at
go_some = record { a = 0; z = 48 ∷ []; reads = refl }

pub go_placed : (text : List ℕ) → Placed ℕ go_at text
go_placed [] = nothing_there go_at go_some refl
go_placed (b ∷ bs) = elim (is_or (b == 43)) [
  | inl is ↦ after (sum_at false) go_at b (λ y. rw is refl) bs (sum_placed bs)
  | inr plus ↦ elim (is_or (b == 45)) [
    | inl is ↦ after (sum_at false) go_at b (λ y. rw (plus, is) refl) bs (sum_placed bs)
    | inr minus ↦ sum_byte go_at go_some b bs (λ y. rw (plus, minus) refl)
  ]
]
