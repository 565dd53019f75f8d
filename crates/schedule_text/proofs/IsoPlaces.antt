-- Where the readers of durations and periods of ISO 8601 find their faults.
use Rattle.std.proofs.Common.{◌≡◌, ℕ, suc, ◌+◌, ◌-◌, ◌*◌, ◌==◌, ◌&&◌, ◌||◌, Bool, true, false, if◌then◌else◌, inl, inr, ◌⊎◌, List, [], ◌∷◌, length, arith, refl, ap, ◌∙◌, Result, Ok, Err}
use Rattle.std.proofs.lemmas.Bool.{eqb-true, eq-eqb, ne_eqb}
use Rattle.schedule_text.specs.Numbers.{is_digit, begins_with_digit, number_from, behind_digits}
use Rattle.schedule_text.specs.Reading.{◌>>=◌}
use Rattle.schedule_text.specs.GoDurations.{behind_first}
use Rattle.schedule_text.specs.IsoDurations.{begins_with, has_field, field_number, behind_field, left_at, time_at, amounts_at, duration_at}
use Rattle.schedule_text.proofs.Sums.{is_or}
use Rattle.schedule_text.proofs.MomentFields.{digit_range}
use Rattle.schedule_text.proofs.IsoFields.{or_second}
use Rattle.schedule_text.proofs.Places.{Placed, Fine, SomeText, after, first_refused, nothing_there, as_same, turned}

-- ---- fields

-- what was read of the fields so far, the last one first: whether it is there, and its number
abbrev Fields : Type 0
Fields = List (Bool × ℕ)

abbrev any : Fields → Bool
any [] = false
any (x ∷ xs) = any xs || x.0

abbrev last : Fields → Bool
last [] = false
last (x ∷ xs) = x.0

-- further fields, none of which is there
abbrev skip : List ℕ → Fields → Fields
skip [] xs = xs
skip (l ∷ ls) xs = skip ls ((false, 0) ∷ xs)

or_none : (a : Bool) → (a || false) ≡ a
or_none true = refl
or_none false = refl

any_skip : (ls : List ℕ) (xs : Fields) → any (skip ls xs) ≡ any xs
any_skip [] xs = refl
any_skip (l ∷ ls) xs = any_skip ls ((false, 0) ∷ xs) ∙ or_none (any xs)

abbrev AreLetters : List ℕ → Type 0
AreLetters [] = Unit {0}
AreLetters (l ∷ ls) = (is_digit l ≡ false) × AreLetters ls

-- a reader goes on behind a byte
record Goes (A : Type 0) (k : List ℕ → Result A ℕ) (b : ℕ) : Type 0 where
  pub p : List ℕ → Result A ℕ
  pub same : (y : List ℕ) → k (b ∷ y) ≡ p y
  pub placed : (text : List ℕ) → Placed A p text

module _ {A : Type 0} (K : Fields → List ℕ → Result A ℕ) where
  -- fields in the order of their letters, and then what `K` reads
  abbrev chain : List ℕ → Fields → List ℕ → Result A ℕ
  chain [] xs text = K xs text
  chain (l ∷ ls) xs text = chain ls ((has_field l text, field_number false l text) ∷ xs) (behind_field l text)

  -- the same behind some digits of a number
  abbrev pend : List ℕ → Fields → ℕ → List ℕ → Result A ℕ
  pend [] xs n text = Err (length (behind_digits text))
  pend (l ∷ ls) xs n text =
      if begins_with l (behind_digits text)
      then chain ls ((true, number_from false n text) ∷ xs) (behind_first (behind_digits text))
      else pend ls ((false, 0) ∷ xs) n text

  chain_skip : (ls : List ℕ) (xs : Fields) (text : List ℕ) → begins_with_digit text ≡ false → chain ls xs text ≡ K (skip ls xs) text
  chain_skip [] xs text stop = refl
  chain_skip (l ∷ ls) xs text stop = rw stop (chain_skip ls ((false, 0) ∷ xs) text stop)

  pend_digit : (ls : List ℕ) (xs : Fields) (n b : ℕ) (y : List ℕ) → is_digit b ≡ true → pend ls xs n (b ∷ y) ≡ pend ls xs (n * 10 + (b - 48)) y
  pend_digit [] xs n b y digit = rw digit refl
  pend_digit (l ∷ ls) xs n b y digit = rw (digit, pend_digit ls ((false, 0) ∷ xs) n b y digit) refl

  pend_nothing : (ls : List ℕ) (xs : Fields) (n : ℕ) → pend ls xs n [] ≡ Err 0
  pend_nothing [] xs n = refl
  pend_nothing (l ∷ ls) xs n = pend_nothing ls ((false, 0) ∷ xs) n

  pend_found : (l : ℕ) (ls : List ℕ) (xs : Fields) (n : ℕ) (y : List ℕ) → is_digit l ≡ false → pend (l ∷ ls) xs n (l ∷ y) ≡ chain ls ((true, n) ∷ xs) y
  pend_found l ls xs n y no_digit = rw (no_digit, eq-eqb l l refl) refl

  pend_other : (l : ℕ) (ls : List ℕ) (xs : Fields) (n b : ℕ) (y : List ℕ) → is_digit b ≡ false → (b == l) ≡ false → pend (l ∷ ls) xs n (b ∷ y) ≡ pend ls ((false, 0) ∷ xs) n (b ∷ y)
  pend_other l ls xs n b y no_digit other = rw (no_digit, other) refl

  pend_none : (xs : Fields) (n b : ℕ) (y : List ℕ) → is_digit b ≡ false → pend [] xs n (b ∷ y) ≡ Err (length (b ∷ y))
  pend_none xs n b y no_digit = rw no_digit refl

  module _
      (ends : (xs : Fields) → any xs ≡ true → (a : A) × (K xs [] ≡ Ok a))
      (lacks : (xs : Fields) → any xs ≡ false → K xs [] ≡ Err 0)
      (last_digit : (xs : Fields) (b : ℕ) (y : List ℕ) → last xs ≡ true → is_digit b ≡ true → K xs (b ∷ y) ≡ Err (length (b ∷ y)))
      (digits : (xs : Fields) (b : ℕ) (y : List ℕ) → last xs ≡ false → is_digit b ≡ true → K xs (b ∷ y) ≡ Err (length (behind_digits y)))
      (stops : (xs : Fields) (b : ℕ) → is_digit b ≡ false → Goes A (K xs) b ⊎ ((y : List ℕ) → K xs (b ∷ y) ≡ Err (length (b ∷ y)))) where
    pend_step : (l : ℕ) (ls : List ℕ) (xs : Fields) (d : ℕ) (y : List ℕ) → is_digit d ≡ true → chain ls ((false, 0) ∷ xs) (d ∷ y) ≡ pend ls ((false, 0) ∷ xs) (0 * 10 + (d - 48)) y → chain (l ∷ ls) xs (d ∷ y) ≡ pend (l ∷ ls) xs (0 * 10 + (d - 48)) y
    pend_step l ls xs d y digit more = elim (is_or (begins_with l (behind_digits y))) [
      | inl is ↦ rw (digit, is) refl
      | inr other ↦ rw (digit, other) more
    ]

    pend_is : (ls : List ℕ) (xs : Fields) (d : ℕ) (y : List ℕ) → is_digit d ≡ true → last xs ≡ false → chain ls xs (d ∷ y) ≡ pend ls xs (0 * 10 + (d - 48)) y
    pend_is [] xs d y digit none = digits xs d y none digit
    pend_is (l ∷ ls) xs d y digit none = pend_step l ls xs d y digit (pend_is ls ((false, 0) ∷ xs) d y digit refl)

    pend_first : (l : ℕ) (ls : List ℕ) (xs : Fields) (d : ℕ) (y : List ℕ) → is_digit d ≡ true → chain (l ∷ ls) xs (d ∷ y) ≡ pend (l ∷ ls) xs (0 * 10 + (d - 48)) y
    pend_first l ls xs d y digit = pend_step l ls xs d y digit (pend_is ls ((false, 0) ∷ xs) d y digit refl)

    -- a text ends with a field that is there
    chain_ends : (ls : List ℕ) (xs : Fields) → any xs ≡ true → (a : A) × (chain ls xs [] ≡ Ok a)
    chain_ends ls xs some =
        let end_ = ends (skip ls xs) (any_skip ls xs ∙ some) in
        (end_.0, chain_skip ls xs [] refl ∙ end_.1)

    chain_lacks : (ls : List ℕ) (xs : Fields) → any xs ≡ false → chain ls xs [] ≡ Err 0
    chain_lacks ls xs none = chain_skip ls xs [] refl ∙ lacks (skip ls xs) (any_skip ls xs ∙ none)

    pend_some : (l : ℕ) (ls : List ℕ) (xs : Fields) (n : ℕ) → is_digit l ≡ false → SomeText A (pend (l ∷ ls) xs n)
    pend_some l ls xs n no_digit =
        let end_ = chain_ends ls ((true, n) ∷ xs) (or_second (any xs) true refl) in
        record { a = end_.0; z = l ∷ []; reads = pend_found l ls xs n [] no_digit ∙ end_.1 }

    -- at the start there is no field yet; behind it there is one, and it is the last one if no letter is left
    data Ready (ls : List ℕ) (xs : Fields) : Type 0 where
      Start : (l : ℕ) (more : List ℕ) → ls ≡ l ∷ more → is_digit l ≡ false → Ready ls xs
      Behind : any xs ≡ true → last xs ≡ true → Ready ls xs

    chain_some : (ls : List ℕ) (xs : Fields) → Ready ls xs → SomeText A (chain ls xs)
    chain_some ls xs (Start l more is no_digit) =
        let some = pend_some l more xs (0 * 10 + (48 - 48)) no_digit in
        rw is (record { a = some.a; z = 48 ∷ some.z; reads = pend_first l more xs 48 some.z refl ∙ some.reads })
    chain_some ls xs (Behind some is_last) = let end_ = chain_ends ls xs some in record { a = end_.0; z = []; reads = end_.1 }

    -- the letter behind a number is one of those that are left, or none of them
    data Letter (ls : List ℕ) (xs : Fields) (n b : ℕ) : Type 0 where
      Found : (more : List ℕ) (ys : Fields) → AreLetters more → Ready more ys → ((y : List ℕ) → pend ls xs n (b ∷ y) ≡ chain more ys y) → Letter ls xs n b
      Unknown : ((y : List ℕ) → pend ls xs n (b ∷ y) ≡ Err (length (b ∷ y))) → Letter ls xs n b

    letter_on : (l : ℕ) (ls : List ℕ) (xs : Fields) (n b : ℕ) → is_digit b ≡ false → (b == l) ≡ false → Letter ls ((false, 0) ∷ xs) n b → Letter (l ∷ ls) xs n b
    letter_on l ls xs n b no_digit other (Found more ys are ready goes) = Found more ys are ready (λ y. pend_other l ls xs n b y no_digit other ∙ goes y)
    letter_on l ls xs n b no_digit other (Unknown goes) = Unknown (λ y. pend_other l ls xs n b y no_digit other ∙ goes y)

    letter_found : (l : ℕ) (ls : List ℕ) (xs : Fields) (n : ℕ) → is_digit l ≡ false → AreLetters ls → Letter (l ∷ ls) xs n l
    letter_found l ls xs n no_digit are = Found ls ((true, n) ∷ xs) are (Behind (or_second (any xs) true refl) refl) (λ y. pend_found l ls xs n y no_digit)

    letter : (ls : List ℕ) (xs : Fields) (n b : ℕ) → AreLetters ls → is_digit b ≡ false → Letter ls xs n b
    letter [] xs n b are no_digit = Unknown (λ y. pend_none xs n b y no_digit)
    letter (l ∷ ls) xs n b are no_digit = elim (is_or (b == l)) [
      | inl is ↦ let same = eqb-true b l is in rw same (letter_found l ls xs n are.0 are.1)
      | inr other ↦ letter_on l ls xs n b no_digit other (letter ls ((false, 0) ∷ xs) n b are.1 no_digit)
    ]

    record Both (text : List ℕ) : Type 0 where
      pub before : (ls : List ℕ) (xs : Fields) → AreLetters ls → Ready ls xs → Placed A (chain ls xs) text
      pub pending : (l : ℕ) (ls : List ℕ) (xs : Fields) (n : ℕ) → AreLetters (l ∷ ls) → Placed A (pend (l ∷ ls) xs n) text

    before_nothing : (ls : List ℕ) (xs : Fields) → Ready ls xs → Placed A (chain ls xs) []
    before_nothing ls xs ready = elim (is_or (any xs)) [
      | inl some ↦ let end_ = chain_ends ls xs some in Fine end_.0 end_.1
      | inr none ↦ nothing_there (chain ls xs) (chain_some ls xs ready) (chain_lacks ls xs none)
    ]

    not_start : (xs : Fields) → Ready [] xs → last xs ≡ true
    not_start xs (Start l more is no_digit) = absurd (cc)
    not_start xs (Behind some is_last) = is_last

    before_digit : (b : ℕ) (bs : List ℕ) → is_digit b ≡ true → Both bs → (ls : List ℕ) (xs : Fields) → AreLetters ls → Ready ls xs → Placed A (chain ls xs) (b ∷ bs)
    before_digit b bs digit more [] xs are ready = first_refused (chain [] xs) (chain_some [] xs ready) b bs (λ y. last_digit xs b y (not_start xs ready) digit)
    before_digit b bs digit more (l ∷ ls) xs are ready = after (pend (l ∷ ls) xs (0 * 10 + (b - 48))) (chain (l ∷ ls) xs) b (λ y. pend_first l ls xs b y digit) bs (more.pending l ls xs (0 * 10 + (b - 48)) are)

    before_byte : (b : ℕ) (bs : List ℕ) → is_digit b ≡ false → (ls : List ℕ) (xs : Fields) → Ready ls xs → Placed A (chain ls xs) (b ∷ bs)
    before_byte b bs no_digit ls xs ready = elim (stops (skip ls xs) b no_digit) [
      | inl goes ↦ after goes.p (chain ls xs) b (λ y. chain_skip ls xs (b ∷ y) no_digit ∙ goes.same y) bs (goes.placed bs)
      | inr stop ↦ first_refused (chain ls xs) (chain_some ls xs ready) b bs (λ y. chain_skip ls xs (b ∷ y) no_digit ∙ stop y)
    ]

    pending_by : (l : ℕ) (ls : List ℕ) (xs : Fields) (n b : ℕ) (bs : List ℕ) → AreLetters (l ∷ ls) → Both bs → Letter (l ∷ ls) xs n b → Placed A (pend (l ∷ ls) xs n) (b ∷ bs)
    pending_by l ls xs n b bs are more (Found left ys letters ready goes) = after (chain left ys) (pend (l ∷ ls) xs n) b goes bs (more.before left ys letters ready)
    pending_by l ls xs n b bs are more (Unknown goes) = first_refused (pend (l ∷ ls) xs n) (pend_some l ls xs n are.0) b bs goes

    both : (text : List ℕ) → Both text
    both [] =
        record {
          before = λ ls xs are ready. before_nothing ls xs ready;
          pending = λ l ls xs n are. nothing_there (pend (l ∷ ls) xs n) (pend_some l ls xs n are.0) (pend_nothing (l ∷ ls) xs n);
        }
    both (b ∷ bs) =
        let more = both bs in
        elim (is_or (is_digit b)) [
          | inl digit ↦
              record {
                before = before_digit b bs digit more;
                pending = λ l ls xs n are. after (pend (l ∷ ls) xs (n * 10 + (b - 48))) (pend (l ∷ ls) xs n) b (λ y. pend_digit (l ∷ ls) xs n b y digit) bs (more.pending l ls xs (n * 10 + (b - 48)) are);
              }
          | inr no_digit ↦
              record {
                before = λ ls xs are ready. before_byte b bs no_digit ls xs ready;
                pending = λ l ls xs n are. pending_by l ls xs n b bs are more (letter (l ∷ ls) xs n b are no_digit);
              }
        ]

    chain_placed : (l : ℕ) (ls : List ℕ) → AreLetters (l ∷ ls) → (text : List ℕ) → Placed A (chain (l ∷ ls) []) text
    chain_placed l ls are text = (both text).before (l ∷ ls) [] are (Start l ls refl are.0)

-- ---- a time

more_left : (n : ℕ) → (suc n == 0) ≡ false
more_left n = ne_eqb (suc n) 0 (λ none. omega arith)

abbrev time_sum : Fields → ℕ
time_sum (s ∷ m ∷ h ∷ []) = h.1 * 3600000000000 + m.1 * 60000000000 + s.1 * 1000000000
time_sum xs = 0

abbrev time_end : Fields → List ℕ → Result ℕ ℕ
time_end xs text = if (length text == 0) && any xs then Ok (time_sum xs) else Err (left_at (last xs) text)

time_ends : (xs : Fields) → any xs ≡ true → (a : ℕ) × (time_end xs [] ≡ Ok a)
time_ends xs some = (time_sum xs, rw some refl)

nothing_left : (is_last : Bool) → left_at is_last [] ≡ 0
nothing_left true = refl
nothing_left false = refl

time_lacks : (xs : Fields) → any xs ≡ false → time_end xs [] ≡ Err 0
time_lacks xs none = rw none (ap (λ (n : ℕ). Err n) (nothing_left (last xs)))

time_last : (xs : Fields) (b : ℕ) (y : List ℕ) → last xs ≡ true → is_digit b ≡ true → time_end xs (b ∷ y) ≡ Err (length (b ∷ y))
time_last xs b y is_last digit = rw (more_left (length y), is_last) refl

time_digits : (xs : Fields) (b : ℕ) (y : List ℕ) → last xs ≡ false → is_digit b ≡ true → time_end xs (b ∷ y) ≡ Err (length (behind_digits y))
time_digits xs b y is_last digit = rw (more_left (length y), is_last, digit) refl

byte_left : (is_last : Bool) (b : ℕ) (y : List ℕ) → is_digit b ≡ false → left_at is_last (b ∷ y) ≡ length (b ∷ y)
byte_left true b y no_digit = refl
byte_left false b y no_digit = rw no_digit refl

time_stop : (xs : Fields) (b : ℕ) (y : List ℕ) → is_digit b ≡ false → time_end xs (b ∷ y) ≡ Err (length (b ∷ y))
time_stop xs b y no_digit = rw (more_left (length y)) (ap (λ (n : ℕ). Err n) (byte_left (last xs) b y no_digit))

time_at-chain : (text : List ℕ) → time_at false text ≡ chain time_end (72 ∷ 77 ∷ 83 ∷ []) [] text
unfolding time_at
time_at-chain text = refl

time_placed : (text : List ℕ) → Placed ℕ (time_at false) text
time_placed text =
    as_same (chain time_end (72 ∷ 77 ∷ 83 ∷ []) []) (time_at false) time_at-chain text
    (chain_placed time_end time_ends time_lacks time_last time_digits (λ xs b no_digit. inr (λ y. time_stop xs b y no_digit)) 72 (77 ∷ 83 ∷ []) (refl, (refl, (refl, tt))) text)

-- ---- a date and a time

abbrev date_months : Fields → ℕ
date_months (d ∷ w ∷ m ∷ y ∷ []) = y.1 * 12 + m.1
date_months xs = 0

abbrev date_days : Fields → ℕ
date_days (d ∷ w ∷ m ∷ y ∷ []) = w.1 * 604800000000000 + d.1 * 86400000000000
date_days xs = 0

abbrev with_time : Fields → ℕ → ℕ × ℕ
with_time xs time = (date_months xs, date_days xs + time)

abbrev date_only : Fields → List ℕ → Result (ℕ × ℕ) ℕ
date_only xs text = if (length text == 0) && any xs then Ok (date_months xs, date_days xs) else Err (left_at (last xs) text)

abbrev date_end : Fields → List ℕ → Result (ℕ × ℕ) ℕ
date_end xs text = if begins_with 84 text then (time_at false (behind_first text) >>= λ time. Ok (with_time xs time)) else date_only xs text

date_ends : (xs : Fields) → any xs ≡ true → (a : ℕ × ℕ) × (date_end xs [] ≡ Ok a)
date_ends xs some = ((date_months xs, date_days xs), rw some refl)

date_lacks : (xs : Fields) → any xs ≡ false → date_end xs [] ≡ Err 0
date_lacks xs none = rw none (ap (λ (n : ℕ). Err n) (nothing_left (last xs)))

no_t : (b : ℕ) → is_digit b ≡ true → (b == 84) ≡ false
no_t b digit = let range = digit_range b digit in ne_eqb b 84 (λ same. omega (arith, range))

date_last : (xs : Fields) (b : ℕ) (y : List ℕ) → last xs ≡ true → is_digit b ≡ true → date_end xs (b ∷ y) ≡ Err (length (b ∷ y))
date_last xs b y is_last digit = rw (no_t b digit, more_left (length y), is_last) refl

date_digits : (xs : Fields) (b : ℕ) (y : List ℕ) → last xs ≡ false → is_digit b ≡ true → date_end xs (b ∷ y) ≡ Err (length (behind_digits y))
date_digits xs b y is_last digit = rw (no_t b digit, more_left (length y), is_last, digit) refl

date_stop : (xs : Fields) (b : ℕ) (y : List ℕ) → (b == 84) ≡ false → is_digit b ≡ false → date_end xs (b ∷ y) ≡ Err (length (b ∷ y))
date_stop xs b y other no_digit = rw (other, more_left (length y)) (ap (λ (n : ℕ). Err n) (byte_left (last xs) b y no_digit))

date_timed : (xs : Fields) → Goes (ℕ × ℕ) (date_end xs) 84
date_timed xs = record { p = λ text. time_at false text >>= λ time. Ok (with_time xs time); same = λ y. refl; placed = λ text. turned (time_at false) (with_time xs) text (time_placed text) }

date_byte : (xs : Fields) (b : ℕ) → is_digit b ≡ false → Goes (ℕ × ℕ) (date_end xs) b ⊎ ((y : List ℕ) → date_end xs (b ∷ y) ≡ Err (length (b ∷ y)))
date_byte xs b no_digit = elim (is_or (b == 84)) [
  | inl is ↦ let same = eqb-true b 84 is in inl (rw same (date_timed xs))
  | inr other ↦ inr (λ y. date_stop xs b y other no_digit)
]

amounts_at-chain : (text : List ℕ) → amounts_at false text ≡ chain date_end (89 ∷ 77 ∷ 87 ∷ 68 ∷ []) [] text
unfolding amounts_at
amounts_at-chain text = refl

amounts_placed : (text : List ℕ) → Placed (ℕ × ℕ) (amounts_at false) text
amounts_placed text =
    as_same (chain date_end (89 ∷ 77 ∷ 87 ∷ 68 ∷ []) []) (amounts_at false) amounts_at-chain text
    (chain_placed date_end date_ends date_lacks date_last date_digits date_byte 89 (77 ∷ 87 ∷ 68 ∷ []) (refl, (refl, (refl, (refl, tt)))) text)

-- ---- durations and periods

pub no_days : SomeText (ℕ × ℕ) (duration_at false)
unfolding amounts_at
no_days = record { a = (0, 0); z = 80 ∷ 48 ∷ 68 ∷ []; reads = refl }

pub duration_placed : (text : List ℕ) → Placed (ℕ × ℕ) (duration_at false) text
duration_placed [] = nothing_there (duration_at false) no_days refl
duration_placed (b ∷ bs) = elim (is_or (b == 80)) [
  | inl is ↦ let same = eqb-true b 80 is in rw same (after (amounts_at false) (duration_at false) 80 (λ y. refl) bs (amounts_placed bs))
  | inr other ↦ first_refused (duration_at false) no_days b bs (λ y. rw other refl)
]

-- the amounts behind a count, whose number is left out
abbrev pub counted_at : List ℕ → Result (ℕ × ℕ) ℕ
counted_at text = if has_field 47 text then duration_at false (behind_field 47 text) else Err (length (behind_digits text))

abbrev count_on : List ℕ → Result (ℕ × ℕ) ℕ
count_on text = if begins_with 47 (behind_digits text) then duration_at false (behind_first (behind_digits text)) else Err (length (behind_digits text))

abbrev pub period_at : List ℕ → Result (ℕ × ℕ) ℕ
period_at text = if begins_with 82 text then counted_at (behind_first text) else duration_at false text

count_some : SomeText (ℕ × ℕ) count_on
count_some = record { a = no_days.a; z = 47 ∷ no_days.z; reads = no_days.reads }

counted_digit : (b : ℕ) (y : List ℕ) → is_digit b ≡ true → counted_at (b ∷ y) ≡ count_on y
counted_digit b y digit = elim (is_or (begins_with 47 (behind_digits y))) [ inl is ↦ rw (digit, is) refl | inr other ↦ rw (digit, other) refl ]

counted_some : SomeText (ℕ × ℕ) counted_at
counted_some = record { a = no_days.a; z = 48 ∷ 47 ∷ no_days.z; reads = counted_digit 48 (47 ∷ no_days.z) refl ∙ no_days.reads }

count_placed : (text : List ℕ) → Placed (ℕ × ℕ) count_on text
count_placed [] = nothing_there count_on count_some refl
count_placed (b ∷ bs) = elim (is_or (is_digit b)) [
  | inl digit ↦ after count_on count_on b (λ y. rw digit refl) bs (count_placed bs)
  | inr no_digit ↦ elim (is_or (b == 47)) [
    | inl is ↦ let same = eqb-true b 47 is in rw same (after (duration_at false) count_on 47 (λ y. refl) bs (duration_placed bs))
    | inr other ↦ first_refused count_on count_some b bs (λ y. rw (no_digit, other) refl)
  ]
]

counted_placed : (text : List ℕ) → Placed (ℕ × ℕ) counted_at text
counted_placed [] = nothing_there counted_at counted_some refl
counted_placed (b ∷ bs) = elim (is_or (is_digit b)) [
  | inl digit ↦ after count_on counted_at b (λ y. counted_digit b y digit) bs (count_placed bs)
  | inr no_digit ↦ first_refused counted_at counted_some b bs (λ y. rw no_digit refl)
]

period_some : SomeText (ℕ × ℕ) period_at
period_some = record { a = counted_some.a; z = 82 ∷ counted_some.z; reads = counted_some.reads }

pub period_placed : (text : List ℕ) → Placed (ℕ × ℕ) period_at text
period_placed [] = nothing_there period_at period_some refl
period_placed (b ∷ bs) = elim (is_or (b == 82)) [
  | inl is ↦ let same = eqb-true b 82 is in rw same (after counted_at period_at 82 (λ y. refl) bs (counted_placed bs))
  | inr no_count ↦ elim (is_or (b == 80)) [
    | inl is ↦ let same = eqb-true b 80 is in rw same (after (amounts_at false) period_at 80 (λ y. refl) bs (amounts_placed bs))
    | inr other ↦ first_refused period_at period_some b bs (λ y. rw (no_count, other) refl)
  ]
]
