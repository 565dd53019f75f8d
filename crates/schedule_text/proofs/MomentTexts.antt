-- What the reader of moments does at each text.
use Rattle.std.proofs.Common.{◌≡◌, ℕ, zero, suc, ◌+◌, ◌-◌, ◌*◌, ◌/◌, ◌^◌, ◌≤◌, ◌==◌, Bool, true, false, inl, inr, List, [], ◌∷◌, ◌++◌, length, arith, refl, sym, ap, ◌∙◌, subst, append-nil, Result, Ok}
use Rattle.std.proofs.lemmas.Bool.{eqb-true, ne_eqb}
use Rattle.std.proofs.lemmas.Nat.{pow-add}
use Rattle.std.proofs.Math.Nat.{pow-suc, one-le-pow}
use Rattle.schedule_text.specs.Calendar.{CivilDate, days_to}
use Rattle.schedule_text.specs.Numbers.{is_digit, billionths_from, behind_billionths}
use Rattle.schedule_text.specs.Reading.{◌>>=◌}
use Rattle.schedule_text.specs.Moments.{either_at, date_at, minutes_at, clock_at, subsecond_at, ending, offset_at, zone_at, utc_seconds, instant_at, two_digits}
use Rattle.schedule_text.specs.Grammar.{AreDigits, value_of, IsJoint, FractionText, Whole, Fraction, ZoneText, Utc, SmallUtc, Ahead, Behind, MomentText}
use Rattle.schedule_text.proofs.Outcomes.{Ending, Read, Lacks, Refuses, Excludes, bind_ending, ending_after}
use Rattle.schedule_text.proofs.Sums.{is_or}
use Rattle.schedule_text.proofs.MomentFields.{DateText, date_outcome, MinutesText, minutes_outcome, ClockText, clock_outcome}

-- ---- offsets

abbrev NothingMore : {A : Type 0} → A → A → List ℕ → Type 0
NothingMore x y s = (y ≡ x) × (s ≡ [])

more_left : (n : ℕ) → (suc n == 0) ≡ false
more_left n = ne_eqb (suc n) 0 (λ none. omega arith)

nothing_more : {A : Type 0} (x : A) (text : List ℕ) → Ending A (ending x) (NothingMore x) text
nothing_more x [] = Read x (refl, refl) refl
nothing_more x (b ∷ rest) = Refuses x [] b rest [] (refl, refl) (λ y. rw (more_left (length y)) refl) refl

abbrev OffsetText : Bool → Bool × ℕ → List ℕ → Type 0
OffsetText behind offset s = (hour : ℕ) × (minute : ℕ) × (hour ≤ 23) × (minute ≤ 59) × (offset ≡ (behind, hour * 3600 + minute * 60)) × (s ≡ two_digits hour ++ 58 ∷ two_digits minute)

offset_join : (behind : Bool) (minutes : ℕ) (offset : Bool × ℕ) (s z : List ℕ) → MinutesText minutes s → NothingMore (behind, minutes) offset z → OffsetText behind offset (s ++ z)
offset_join behind minutes offset s z first last =
    (first.0, first.1, first.2, first.3, last.0 ∙ ap (λ (n : ℕ). (behind, n)) first.4, rw last.1 (append-nil s ∙ first.5))

offset_outcome : (behind : Bool) (text : List ℕ) → Ending (Bool × ℕ) (offset_at behind) (OffsetText behind) text
unfolding offset_at
offset_outcome behind text =
    bind_ending minutes_at (λ minutes. ending (behind, minutes)) MinutesText (λ minutes. NothingMore (behind, minutes)) (OffsetText behind)
    (offset_join behind)
    (λ minutes s is. ((behind, minutes), [], (refl, refl)))
    (λ minutes s is rest. nothing_more (behind, minutes) rest)
    text (minutes_outcome text)

-- ---- a reader that goes on with an offset at some bytes

module _ {A : Type 0} (q : List ℕ → Result A ℕ) (k : Bool × ℕ → A) (form : A → List ℕ → Type 0) (stops : ℕ → Bool)
    (zoned : (offset : Bool × ℕ) (s : List ℕ) → ZoneText offset s → form (k offset) s)
    (goes_on : (b : ℕ) (y : List ℕ) → stops b ≡ false → q (b ∷ y) ≡ (zone_at (b ∷ y) >>= λ zone. Ok (k zone))) where
  abbrev with_offset : Bool → List ℕ → Result A ℕ
  with_offset behind text = offset_at behind text >>= λ zone. Ok (k zone)

  abbrev OffsetForm : Bool → A → List ℕ → Type 0
  OffsetForm behind a s = (offset : Bool × ℕ) × OffsetText behind offset s × (a ≡ k offset)

  with_offset_by : (behind : Bool) (text : List ℕ) → Ending (Bool × ℕ) (offset_at behind) (OffsetText behind) text → Ending A (with_offset behind) (OffsetForm behind) text
  with_offset_by behind text (Read z is goes) = Read (k z) (z, is, refl) (rw goes refl)
  with_offset_by behind text (Lacks z more is short) = Lacks (k z) more (z, is, refl) (rw short refl)
  with_offset_by behind text (Refuses z front b rest more is goes at) = Refuses (k z) front b rest more (z, is, refl) (λ y. rw (goes y) refl) at
  with_offset_by behind text (Excludes z front b c rest more is db dc goes at) = Excludes (k z) front b c rest more (z, is, refl) db dc (λ y. rw (goes y) refl) at

  abbrev UtcForm : A → List ℕ → Type 0
  UtcForm a s = (a ≡ k (false, 0)) × (s ≡ [])

  utc_by : (text : List ℕ) → Ending A (λ text. ending (false, 0) text >>= λ zone. Ok (k zone)) UtcForm text
  utc_by [] = Read (k (false, 0)) (refl, refl) refl
  utc_by (b ∷ rest) = Refuses (k (false, 0)) [] b rest [] (refl, refl) (λ y. rw (more_left (length y)) refl) refl

  turned : (a : A) (offset : Bool × ℕ) (s : List ℕ) → a ≡ k offset → ZoneText offset s → form a s
  turned a offset s is zone = subst (λ (x : A). form x s) (sym is) (zoned offset s zone)

  module _ (free_z : stops 90 ≡ false) (free_small : stops 122 ≡ false) (free_plus : stops 43 ≡ false) (free_minus : stops 45 ≡ false) where
    some_zone : form (k (false, 0)) (90 ∷ [])
    some_zone = zoned (false, 0) (90 ∷ []) (Utc refl refl)

    zone_first : (b : ℕ) (rest : List ℕ) → stops b ≡ false → Ending A q form (b ∷ rest)
    zone_first b rest free = elim (is_or (b == 90)) [
      | inl is ↦
          let same = eqb-true b 90 is in
          rw same (ending_after (λ text. ending (false, 0) text >>= λ zone. Ok (k zone)) q 90 UtcForm form (λ y. goes_on 90 y free_z)
          (λ a s u. turned a (false, 0) (90 ∷ s) u.0 (Utc (ap (λ (t : List ℕ). 90 ∷ t) u.1) refl)) rest (utc_by rest))
      | inr no_z ↦ elim (is_or (b == 122)) [
        | inl is ↦
            let same = eqb-true b 122 is in
            rw same (ending_after (λ text. ending (false, 0) text >>= λ zone. Ok (k zone)) q 122 UtcForm form (λ y. goes_on 122 y free_small)
            (λ a s u. turned a (false, 0) (122 ∷ s) u.0 (SmallUtc (ap (λ (t : List ℕ). 122 ∷ t) u.1) refl)) rest (utc_by rest))
        | inr no_small ↦ elim (is_or (b == 43)) [
          | inl is ↦
              let same = eqb-true b 43 is in
              rw same (ending_after (with_offset false) q 43 (OffsetForm false) form (λ y. goes_on 43 y free_plus)
              (λ a s u. turned a u.0 (43 ∷ s) u.2 (Ahead u.1.0 u.1.1 u.1.2 u.1.3 (ap (λ (t : List ℕ). 43 ∷ t) u.1.5) u.1.4)) rest (with_offset_by false rest (offset_outcome false rest)))
          | inr no_plus ↦ elim (is_or (b == 45)) [
            | inl is ↦
                let same = eqb-true b 45 is in
                rw same (ending_after (with_offset true) q 45 (OffsetForm true) form (λ y. goes_on 45 y free_minus)
                (λ a s u. turned a u.0 (45 ∷ s) u.2 (Behind u.1.0 u.1.1 u.1.2 u.1.3 (ap (λ (t : List ℕ). 45 ∷ t) u.1.5) u.1.4)) rest (with_offset_by true rest (offset_outcome true rest)))
            | inr no_minus ↦ Refuses (k (false, 0)) [] b rest (90 ∷ []) some_zone (λ y. goes_on b y free ∙ rw (no_z, no_small, no_plus, no_minus) refl) refl
          ]
        ]
      ]
    ]

times : (d a b c : ℕ) → a * b ≡ c → d * a * b ≡ d * c
times d a b c is = rw (← is) (omega arith)

spread : (n d a b c rest : ℕ) → d * a * b ≡ d * c → n + d * c + rest * b ≡ n + (d * a + rest) * b
spread n d a b c rest is = omega arith

-- ---- digits behind a point

-- the weight of the next digit, if that many may follow
abbrev pub weight_of : ℕ → ℕ
weight_of zero = 0
weight_of (suc places) = 10 ^ places

pub weight_next : (places : ℕ) → 10 ^ places / 10 ≡ weight_of places
weight_next zero = refl
weight_next (suc places) = let more = pow-suc 10 places in omega (arith, more)

pub some_weight : (places : ℕ) → (10 ^ places == 0) ≡ false
some_weight places = let least = one-le-pow places 10 (omega arith) in ne_eqb (10 ^ places) 0 (λ none. omega arith)

module _ (local : ℕ) where
  -- an offset behind at most that many digits, which are added to n
  abbrev zoned_from : ℕ → ℕ → List ℕ → Result (ℕ × ℕ) ℕ
  zoned_from weight n text = zone_at (behind_billionths weight text) >>= λ zone. Ok (utc_seconds local zone, billionths_from weight n text)

  pub record DigitsText (places n : ℕ) (instant : ℕ × ℕ) (s : List ℕ) : Type 0 where
    pub digits : List ℕ
    pub zone : List ℕ
    pub offset : Bool × ℕ
    pub are_digits : AreDigits digits
    pub few : length digits ≤ places
    pub is_zone : ZoneText offset zone
    pub text_is : s ≡ digits ++ zone
    pub instant_is : instant ≡ (utc_seconds local offset, n + value_of digits * 10 ^ (places - length digits))

  no_digits : (places n : ℕ) (offset : Bool × ℕ) (s : List ℕ) → ZoneText offset s → DigitsText places n (utc_seconds local offset, n) s
  no_digits places n offset s zone =
      let none : n ≡ n + 0 * 10 ^ (places - 0) = omega arith in
      record { digits = []; zone = s; offset = offset; are_digits = tt; few = omega arith; is_zone = zone; text_is = refl; instant_is = ap (λ (m : ℕ). (utc_seconds local offset, m)) none }

  power : (places count : ℕ) → count ≤ places → 10 ^ count * 10 ^ (places - count) ≡ 10 ^ places
  power places count few = let whole : count + (places - count) ≡ places = omega arith in sym (pow-add 10 count (places - count)) ∙ ap (λ (k : ℕ). 10 ^ k) whole

  pub digit_value : (places n d count rest : ℕ) → count ≤ places → n + d * 10 ^ places + rest * 10 ^ (places - count) ≡ n + (d * 10 ^ count + rest) * 10 ^ (suc places - suc count)
  digit_value places n d count rest few =
      let same : suc places - suc count ≡ places - count = omega arith in
      let split = power places count few in
      let product : d * 10 ^ count * 10 ^ (places - count) ≡ d * 10 ^ places = times d (10 ^ count) (10 ^ (places - count)) (10 ^ places) split in
      rw same (spread n d (10 ^ count) (10 ^ (places - count)) (10 ^ places) rest product)

  pointed_value : (d count rest : ℕ) → count ≤ 8 → d * 100000000 + rest * 10 ^ (8 - count) ≡ (d * 10 ^ count + rest) * 10 ^ (9 - suc count)
  pointed_value d count rest few = let value = digit_value 8 0 d count rest few in omega (arith, value)

  one_digit : (places n b : ℕ) → is_digit b ≡ true → (instant : ℕ × ℕ) (s : List ℕ) → DigitsText places (n + (b - 48) * 10 ^ places) instant s → DigitsText (suc places) n instant (b ∷ s)
  one_digit places n b digit instant s is =
      record {
        digits = b ∷ is.digits;
        zone = is.zone;
        offset = is.offset;
        are_digits = (digit, is.are_digits);
        few = omega (arith, is.few);
        is_zone = is.is_zone;
        text_is = ap (λ (t : List ℕ). b ∷ t) is.text_is;
        instant_is = is.instant_is ∙ ap (λ (m : ℕ). (utc_seconds local is.offset, m)) (digit_value places n (b - 48) (length is.digits) (value_of is.digits) is.few);
      }

  abbrev DigitsAt : ℕ → ℕ → List ℕ → Type 0
  DigitsAt places n text = Ending (ℕ × ℕ) (zoned_from (weight_of places) n) (DigitsText places n) text

  last_byte : (n b : ℕ) (y : List ℕ) → zoned_from 0 n (b ∷ y) ≡ (zone_at (b ∷ y) >>= λ zone. Ok (utc_seconds local zone, n))
  last_byte n b y = elim (is_or (is_digit b)) [ inl digit ↦ rw digit refl | inr other ↦ rw other refl ]

  other_byte : (weight n b : ℕ) (y : List ℕ) → is_digit b ≡ false → zoned_from weight n (b ∷ y) ≡ (zone_at (b ∷ y) >>= λ zone. Ok (utc_seconds local zone, n))
  other_byte weight n b y other = rw other refl

  digit_byte : (places n b : ℕ) (y : List ℕ) → is_digit b ≡ true → zoned_from (10 ^ places) n (b ∷ y) ≡ zoned_from (weight_of places) (n + (b - 48) * 10 ^ places) y
  digit_byte places n b y digit = rw (digit, some_weight places, weight_next places) refl

  digits_outcome : (places n : ℕ) (text : List ℕ) → DigitsAt places n text
  digits_outcome places n [] = Lacks (utc_seconds local (false, 0), n) (90 ∷ []) (no_digits places n (false, 0) (90 ∷ []) (Utc refl refl)) refl
  digits_outcome zero n (b ∷ rest) =
      zone_first (zoned_from 0 n) (λ zone. (utc_seconds local zone, n)) (DigitsText 0 n) (λ b. false) (no_digits 0 n) (λ b y free. last_byte n b y) refl refl refl refl b rest refl
  digits_outcome (suc places) n (b ∷ rest) = elim (is_or (is_digit b)) [
    | inl digit ↦
        ending_after (zoned_from (weight_of places) (n + (b - 48) * 10 ^ places)) (zoned_from (10 ^ places) n) b (DigitsText places (n + (b - 48) * 10 ^ places)) (DigitsText (suc places) n)
        (λ y. digit_byte places n b y digit) (one_digit places n b digit) rest (digits_outcome places (n + (b - 48) * 10 ^ places) rest)
    | inr other ↦
        zone_first (zoned_from (10 ^ places) n) (λ zone. (utc_seconds local zone, n)) (DigitsText (suc places) n) is_digit (no_digits (suc places) n) (λ b y free. other_byte (10 ^ places) n b y free) refl refl refl refl b rest other
  ]

  -- ---- a fraction, if there is one, and an offset

  abbrev tail_at : List ℕ → Result (ℕ × ℕ) ℕ
  tail_at text = subsecond_at text >>= λ subsecond. zone_at subsecond.1 >>= λ zone. Ok (utc_seconds local zone, subsecond.0)

  pub record TailText (instant : ℕ × ℕ) (s : List ℕ) : Type 0 where
    pub nanos : ℕ
    pub offset : Bool × ℕ
    pub fraction : List ℕ
    pub zone : List ℕ
    pub is_fraction : FractionText nanos fraction
    pub is_zone : ZoneText offset zone
    pub text_is : s ≡ fraction ++ zone
    pub instant_is : instant ≡ (utc_seconds local offset, nanos)

  whole_second : (offset : Bool × ℕ) (s : List ℕ) → ZoneText offset s → TailText (utc_seconds local offset, 0) s
  whole_second offset s zone = record { nanos = 0; offset = offset; fraction = []; zone = s; is_fraction = Whole refl refl; is_zone = zone; text_is = refl; instant_is = refl }

  pointed : (b : ℕ) → is_digit b ≡ true → (instant : ℕ × ℕ) (s : List ℕ) → DigitsText 8 ((b - 48) * 100000000) instant s → TailText instant (46 ∷ b ∷ s)
  pointed b digit instant s is =
      record {
        nanos = value_of (b ∷ is.digits) * 10 ^ (9 - length (b ∷ is.digits));
        offset = is.offset;
        fraction = 46 ∷ b ∷ is.digits;
        zone = is.zone;
        is_fraction = Fraction (b ∷ is.digits) (digit, is.are_digits) (omega arith) (omega (arith, is.few)) refl refl;
        is_zone = is.is_zone;
        text_is = ap (λ (t : List ℕ). 46 ∷ b ∷ t) is.text_is;
        instant_is = is.instant_is ∙ ap (λ (m : ℕ). (utc_seconds local is.offset, m)) (pointed_value (b - 48) (length is.digits) (value_of is.digits) is.few);
      }

  point_digit : (b : ℕ) (y : List ℕ) → is_digit b ≡ true → tail_at (46 ∷ b ∷ y) ≡ zoned_from (weight_of 8) (0 + (b - 48) * 100000000) y
  point_digit b y digit = rw digit refl

  from_zero : (n : ℕ) → 0 + n ≡ n
  from_zero n = omega arith

  some_tail : TailText (utc_seconds local (false, 0), 0) (46 ∷ 48 ∷ 90 ∷ [])
  some_tail = pointed 48 refl (utc_seconds local (false, 0), 0) (90 ∷ []) (no_digits 8 0 (false, 0) (90 ∷ []) (Utc refl refl))

  behind_point : (text : List ℕ) → Ending (ℕ × ℕ) tail_at TailText (46 ∷ text)
  behind_point [] = Lacks (utc_seconds local (false, 0), 0) (48 ∷ 90 ∷ []) some_tail refl
  behind_point (b ∷ rest) = elim (is_or (is_digit b)) [
    | inl digit ↦
        ending_after (λ text. tail_at (46 ∷ text)) tail_at 46 (λ instant s. TailText instant (46 ∷ s)) TailText (λ y. refl) (λ instant s is. is) (b ∷ rest)
        (ending_after (zoned_from (weight_of 8) ((b - 48) * 100000000)) (λ text. tail_at (46 ∷ text)) b (DigitsText 8 ((b - 48) * 100000000)) (λ instant s. TailText instant (46 ∷ s))
        (λ y. point_digit b y digit ∙ ap (λ (n : ℕ). zoned_from (weight_of 8) n y) (from_zero ((b - 48) * 100000000))) (pointed b digit) rest (digits_outcome 8 ((b - 48) * 100000000) rest))
    | inr other ↦ Refuses (utc_seconds local (false, 0), 0) (46 ∷ []) b rest (48 ∷ 90 ∷ []) some_tail (λ y. rw other refl) refl
  ]

  pub tail_outcome : (text : List ℕ) → Ending (ℕ × ℕ) tail_at TailText text
  tail_outcome [] = Lacks (utc_seconds local (false, 0), 0) (90 ∷ []) (whole_second (false, 0) (90 ∷ []) (Utc refl refl)) refl
  tail_outcome (b ∷ rest) = elim (is_or (b == 46)) [
    | inl is ↦ let same = eqb-true b 46 is in rw same (behind_point rest)
    | inr other ↦ zone_first tail_at (λ zone. (utc_seconds local zone, 0)) TailText (λ b. b == 46) whole_second (λ b y free. rw free refl) refl refl refl refl b rest other
  ]

-- ---- whole texts

module _ (date : CivilDate) where
  abbrev local_at : ℕ → ℕ
  local_at seconds = days_to date.year date.month date.day * 86400 + seconds

  abbrev time_reader : List ℕ → Result (ℕ × ℕ) ℕ
  time_reader text = clock_at text >>= λ clock. tail_at (local_at clock.0) clock.1

  pub record TimeText (instant : ℕ × ℕ) (s : List ℕ) : Type 0 where
    pub seconds : ℕ
    pub clock : List ℕ
    pub rest : List ℕ
    pub is_clock : ClockText seconds clock
    pub is_rest : TailText (local_at seconds) instant rest
    pub text_is : s ≡ clock ++ rest

  time_outcome : (text : List ℕ) → Ending (ℕ × ℕ) time_reader TimeText text
  time_outcome text =
      bind_ending clock_at (λ seconds. tail_at (local_at seconds)) ClockText (λ seconds. TailText (local_at seconds)) TimeText
      (λ seconds instant s z first last. record { seconds = seconds; clock = s; rest = z; is_clock = first; is_rest = last; text_is = refl })
      (λ seconds s is. ((utc_seconds (local_at seconds) (false, 0), 0), 90 ∷ [], whole_second (local_at seconds) (false, 0) (90 ∷ []) (Utc refl refl)))
      (λ seconds s is rest. tail_outcome (local_at seconds) rest)
      text (clock_outcome text)

  some_time : TimeText (utc_seconds (local_at 0) (false, 0), 0) (two_digits 0 ++ 58 ∷ two_digits 0 ++ 58 ∷ two_digits 0 ++ 90 ∷ [])
  some_time =
      record {
        seconds = 0;
        clock = two_digits 0 ++ 58 ∷ two_digits 0 ++ 58 ∷ two_digits 0;
        rest = 90 ∷ [];
        is_clock = (0, 0, 0, omega arith, omega arith, omega arith, refl, refl);
        is_rest = whole_second (local_at 0) (false, 0) (90 ∷ []) (Utc refl refl);
        text_is = refl;
      }

  abbrev joint_reader : List ℕ → Result (ℕ × ℕ) ℕ
  joint_reader text = either_at 84 116 text >>= λ rest. time_reader rest

  pub record JointText (instant : ℕ × ℕ) (s : List ℕ) : Type 0 where
    pub joint : ℕ
    pub rest : List ℕ
    pub is_joint : IsJoint joint
    pub is_rest : TimeText instant rest
    pub text_is : s ≡ joint ∷ rest

  joined : (joint : ℕ) → IsJoint joint → (instant : ℕ × ℕ) (s : List ℕ) → TimeText instant s → JointText instant (joint ∷ s)
  joined joint is instant s time = record { joint = joint; rest = s; is_joint = is; is_rest = time; text_is = refl }

  some_joint : JointText (utc_seconds (local_at 0) (false, 0), 0) (84 ∷ (two_digits 0 ++ 58 ∷ two_digits 0 ++ 58 ∷ two_digits 0 ++ 90 ∷ []))
  some_joint = joined 84 (inl refl) (utc_seconds (local_at 0) (false, 0), 0) (two_digits 0 ++ 58 ∷ two_digits 0 ++ 58 ∷ two_digits 0 ++ 90 ∷ []) some_time

  joint_outcome : (text : List ℕ) → Ending (ℕ × ℕ) joint_reader JointText text
  joint_outcome [] = Lacks (utc_seconds (local_at 0) (false, 0), 0) (84 ∷ (two_digits 0 ++ 58 ∷ two_digits 0 ++ 58 ∷ two_digits 0 ++ 90 ∷ [])) some_joint refl
  joint_outcome (b ∷ rest) = elim (is_or (b == 84)) [
    | inl is ↦
        let same = eqb-true b 84 is in
        rw same (ending_after time_reader joint_reader 84 TimeText JointText (λ y. refl) (joined 84 (inl refl)) rest (time_outcome rest))
    | inr no_large ↦ elim (is_or (b == 116)) [
      | inl is ↦
          let same = eqb-true b 116 is in
          rw same (ending_after time_reader joint_reader 116 TimeText JointText (λ y. refl) (joined 116 (inr refl)) rest (time_outcome rest))
      | inr no_small ↦
          Refuses (utc_seconds (local_at 0) (false, 0), 0) [] b rest (84 ∷ (two_digits 0 ++ 58 ∷ two_digits 0 ++ 58 ∷ two_digits 0 ++ 90 ∷ [])) some_joint (λ y. rw (no_large, no_small) refl) refl
    ]
  ]

moment_join : (date : CivilDate) (instant : ℕ × ℕ) (s z : List ℕ) → DateText date s → JointText date instant z → MomentText instant (s ++ z)
moment_join date instant s z first last =
    let time = last.is_rest in
    let clock = time.is_clock in
    let tail = time.is_rest in
    record {
      date = date;
      hour = clock.0;
      minute = clock.1;
      second = clock.2;
      nanos = tail.nanos;
      offset = tail.offset;
      joint = last.joint;
      fraction = tail.fraction;
      zone = tail.zone;
      is_date = first.0;
      is_hour = clock.3;
      is_minute = clock.4;
      is_second = clock.5;
      is_joint = last.is_joint;
      is_fraction = tail.is_fraction;
      is_zone = tail.is_zone;
      text_is = rw (first.1, last.text_is, time.text_is, clock.7, tail.text_is) refl;
      instant_is = tail.instant_is ∙ ap (λ (seconds : ℕ). (utc_seconds (days_to date.year date.month date.day * 86400 + seconds) tail.offset, tail.nanos)) clock.6;
    }

pub moment_outcome : (text : List ℕ) → Ending (ℕ × ℕ) instant_at MomentText text
unfolding instant_at
moment_outcome text =
    bind_ending date_at (λ date. joint_reader date) DateText (λ date. JointText date) MomentText
    moment_join
    (λ date s is. ((utc_seconds (local_at date 0) (false, 0), 0), 84 ∷ (two_digits 0 ++ 58 ∷ two_digits 0 ++ 58 ∷ two_digits 0 ++ 90 ∷ []), some_joint date))
    (λ date s is rest. joint_outcome date rest)
    text (date_outcome text)
