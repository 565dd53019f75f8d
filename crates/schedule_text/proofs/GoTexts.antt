-- A text of a duration as Go writes it is read as its sum, and no other text is read.
use Rattle.std.proofs.Common.{◌≡◌, ℕ, zero, suc, ◌+◌, ◌-◌, ◌<◌, ◌≤◌, ◌==◌, ◌&&◌, not, Bool, true, false, if◌then◌else◌, inl, inr, ◌⊎◌, List, [], ◌∷◌, ◌++◌, length, length-append, arith, refl, sym, ap, ◌∙◌, subst, append_assoc, append-nil, Result, Ok, Err}
use Rattle.std.specs.Prelude.{nat_le}
use Rattle.std.proofs.lemmas.Bool.{eqb-true, ne_eqb}
use Rattle.schedule_text.specs.declared.error.ScheduleError.{ScheduleError}
use Rattle.schedule_text.specs.declared.error.ScheduleError.TheVariants.{BadMoment, BadDuration, Negative, ZeroRepeats, OutOfRange, OutOfMemory}
use Rattle.schedule_text.specs.Numbers.{is_digit}
use Rattle.schedule_text.specs.GoDurations.{most_nanos, term_at, terms_from, sum_at, behind_sign, is_negative, signed_sum, go_nanos}
use Rattle.schedule_text.specs.Faults.{FirstFault}
use Rattle.schedule_text.specs.Grammar.{AreDigits, LiteralText, Plain, Pointed, TermText, TermsText, Last, More, SignText, NoSign, Plus, Minus, GoText, Zero, Terms, IsGo, AnswersGo}
use Rattle.schedule_text.proofs.Sums.{is_or}
use Rattle.schedule_text.proofs.MomentFields.{digit_range}
use Rattle.schedule_text.proofs.Places.{not_both, fault_place}
use Rattle.schedule_text.proofs.GoPlaces.{terms_step, terms_stop, terms_end, go_at, go_placed}
use Rattle.schedule_text.proofs.GoTerms.{Reads, Fails, TermView, term_view, term_read, term_length, terms_start, nothing_from}

-- ---- sums

data SumView (most sum : ℕ) (text : List ℕ) : Type 0 where
  Sums : (rest : ℕ) → TermsText rest text → terms_from false most sum text ≡ Ok (sum + rest) → SumView most sum text
  Refuses : (left : ℕ) → terms_from false most sum text ≡ Err left → SumView most sum text

sum_again : (most sum nanos rest : ℕ) → sum + nanos + rest ≡ sum + (nanos + rest)
sum_again most sum nanos rest = omega arith

sums_behind : (most sum : ℕ) (text : List ℕ) (nanos : ℕ) (s rest : List ℕ) → 0 < length text → TermText nanos s → term_at false text ≡ Ok (nanos, rest) → text ≡ s ++ rest → SumView most (sum + nanos) rest → SumView (suc most) sum text
sums_behind most sum text nanos s rest some term read is (Sums more terms value) =
    Sums (nanos + more) (More nanos more s rest term terms is refl) (terms_step most sum text nanos rest some read ∙ value ∙ ap (λ (n : ℕ). Ok n) (sum_again most sum nanos more))
sums_behind most sum text nanos s rest some term read is (Refuses left fault) = Refuses left (terms_step most sum text nanos rest some read ∙ fault)

sums_last : (most sum : ℕ) (text : List ℕ) (nanos : ℕ) (s : List ℕ) → 0 < length text → TermText nanos s → term_at false text ≡ Ok (nanos, []) → text ≡ s ++ [] → SumView (suc most) sum text
sums_last most sum text nanos s some term read is =
    Sums nanos (Last (subst (λ (t : List ℕ). TermText nanos t) (sym (is ∙ append-nil s)) term)) (terms_step most sum text nanos [] some read ∙ terms_end most (sum + nanos))

sums_next : (most sum : ℕ) (text : List ℕ) (nanos : ℕ) (s rest : List ℕ) → 0 < length text → TermText nanos s → term_at false text ≡ Ok (nanos, rest) → text ≡ s ++ rest → ((c : ℕ) (cs : List ℕ) → rest ≡ c ∷ cs → SumView most (sum + nanos) (c ∷ cs)) → SumView (suc most) sum text
sums_next most sum text nanos s [] some term read is more = sums_last most sum text nanos s some term read is
sums_next most sum text nanos s (c ∷ cs) some term read is more = sums_behind most sum text nanos s (c ∷ cs) some term read is (more c cs refl)

sums_by : (most sum b : ℕ) (bs : List ℕ) → length (b ∷ bs) ≤ suc most → ((n c : ℕ) (cs : List ℕ) → length (c ∷ cs) ≤ most → SumView most n (c ∷ cs)) → TermView (b ∷ bs) → SumView (suc most) sum (b ∷ bs)
sums_by most sum b bs few more (Fails left fault) = Refuses left (terms_stop most sum (b ∷ bs) left (omega arith) fault)
sums_by most sum b bs few more (Reads nanos s rest term read is) =
    let some = term_length nanos s term in
    let whole : length (b ∷ bs) ≡ length s + length rest = ap length is ∙ length-append s rest in
    sums_next most sum (b ∷ bs) nanos s rest (omega arith) term read is (λ c cs at. more (sum + nanos) c cs (omega (arith, ap length at)))

sums_view : (most sum b : ℕ) (bs : List ℕ) → length (b ∷ bs) ≤ most → SumView most sum (b ∷ bs)
sums_view zero sum b bs few = absurd (omega arith)
sums_view (suc most) sum b bs few = sums_by most sum b bs few (λ n c cs less. sums_view most n c cs less) (term_view (b ∷ bs))

-- terms are read as their sum
sums_read : (sum : ℕ) (terms : List ℕ) → TermsText sum terms → (most before : ℕ) → length terms ≤ most → terms_from false most before terms ≡ Ok (before + sum)
sums_read sum terms (Last term) zero before few = let some = term_length sum terms term in absurd (omega arith)
sums_read sum terms (Last term) (suc most) before few =
    let text = append-nil terms in
    terms_step most before terms sum [] (term_length sum terms term) (ap (term_at false) (sym text) ∙ term_read sum terms [] term refl) ∙ terms_end most (before + sum)
sums_read sum terms (More first rest s z term more is value) zero before few =
    let some = term_length first s term in
    absurd (omega (arith, ap length is, length-append s z))
sums_read sum terms (More first rest s z term more is value) (suc most) before few =
    let some = term_length first s term in
    let whole : length terms ≡ length s + length z = ap length is ∙ length-append s z in
    let read : term_at false terms ≡ Ok (first, z) = ap (term_at false) is ∙ term_read first s z term (terms_start rest z more) in
    terms_step most before terms first z (omega arith) read ∙ sums_read rest z more most (before + first) (omega arith) ∙ ap (λ (n : ℕ). Ok n) (sum_again most before first rest ∙ ap (λ (n : ℕ). before + n) (sym value))

terms_length : (sum : ℕ) (terms : List ℕ) → TermsText sum terms → 0 < length terms
terms_length sum terms (Last term) = term_length sum terms term
terms_length sum terms (More first rest s z term more is value) = let some = term_length first s term in omega (arith, ap length is, length-append s z)

-- a duration behind its sign
data BodyText (sum : ℕ) (text : List ℕ) : Type 0 where
  Alone : text ≡ 48 ∷ [] → sum ≡ 0 → BodyText sum text
  Several : TermsText sum text → BodyText sum text

data BodyView (text : List ℕ) : Type 0 where
  Sum : (sum : ℕ) → BodyText sum text → sum_at false text ≡ Ok sum → BodyView text
  Fault : (left : ℕ) → sum_at false text ≡ Err left → BodyView text

more_left : (n : ℕ) → (suc n == 0) ≡ false
more_left n = ne_eqb (suc n) 0 (λ none. omega arith)

sum_at-terms : (b : ℕ) (bs : List ℕ) → ((b == 48) && (length bs == 0)) ≡ false → sum_at false (b ∷ bs) ≡ terms_from false (length (b ∷ bs)) 0 (b ∷ bs)
sum_at-terms b bs other = rw (other, more_left (length bs)) refl

body_by : (b : ℕ) (bs : List ℕ) → ((b == 48) && (length bs == 0)) ≡ false → SumView (length (b ∷ bs)) 0 (b ∷ bs) → BodyView (b ∷ bs)
body_by b bs other (Sums rest terms value) = Sum rest (Several terms) (sum_at-terms b bs other ∙ value ∙ ap (λ (n : ℕ). Ok n) (nothing_from rest))
body_by b bs other (Refuses left fault) = Fault left (sum_at-terms b bs other ∙ fault)

body_terms : (b : ℕ) (bs : List ℕ) → ((b == 48) && (length bs == 0)) ≡ false → BodyView (b ∷ bs)
body_terms b bs other = body_by b bs other (sums_view (length (b ∷ bs)) 0 b bs (omega arith))

and_false : (a b : Bool) → b ≡ false → (a && b) ≡ false
and_false true b is = is
and_false false b is = refl

body_view : (text : List ℕ) → BodyView text
body_view [] = Fault 0 refl
body_view (b ∷ []) = elim (is_or (b == 48)) [
  | inl is ↦ let same = eqb-true b 48 is in rw same (Sum 0 (Alone refl refl) refl)
  | inr other ↦ body_terms b [] (rw other refl)
]
body_view (b ∷ c ∷ bs) = body_terms b (c ∷ bs) (and_false (b == 48) (length (c ∷ bs) == 0) (more_left (length bs)))

zero_alone : term_at false (48 ∷ []) ≡ Err 0
unfolding term_at
zero_alone = refl

-- `0` alone has no unit
alone_is_no_term : (sum : ℕ) → TermsText sum (48 ∷ []) → ⊥
alone_is_no_term sum terms =
    let read = sums_read sum (48 ∷ []) terms 1 0 (omega arith) in
    let fault : terms_from false 1 0 (48 ∷ []) ≡ Err 0 = terms_stop 0 0 (48 ∷ []) 0 (omega arith) zero_alone in
    let both : Ok (0 + sum) ≡ Err 0 = sym read ∙ fault in
    cc

body_read_terms : (sum : ℕ) (text : List ℕ) → TermsText sum text → sum_at false text ≡ Ok sum
body_read_terms sum [] terms = let some = terms_length sum [] terms in absurd (omega arith)
body_read_terms sum (b ∷ []) terms = elim (is_or (b == 48)) [
  | inl is ↦ let same = eqb-true b 48 is in absurd (alone_is_no_term sum (rw same at terms))
  | inr other ↦ sum_at-terms b [] (rw other refl) ∙ sums_read sum (b ∷ []) terms 1 0 (omega arith) ∙ ap (λ (n : ℕ). Ok n) (nothing_from sum)
]
body_read_terms sum (b ∷ c ∷ bs) terms =
    sum_at-terms b (c ∷ bs) (and_false (b == 48) (length (c ∷ bs) == 0) (more_left (length bs))) ∙ sums_read sum (b ∷ c ∷ bs) terms (length (b ∷ c ∷ bs)) 0 (omega arith) ∙ ap (λ (n : ℕ). Ok n) (nothing_from sum)

body_read : (sum : ℕ) (text : List ℕ) → BodyText sum text → sum_at false text ≡ Ok sum
body_read sum text (Alone is value) = rw (is, value) refl
body_read sum text (Several terms) = body_read_terms sum text terms

-- ---- signs

go_text : (negative : Bool) (sum : ℕ) (sign body text : List ℕ) → SignText negative sign → text ≡ sign ++ body → BodyText sum body → GoText negative sum text
go_text negative sum sign body text signed is (Alone alone value) = Zero sign signed (is ∙ ap (λ (t : List ℕ). sign ++ t) alone) value
go_text negative sum sign body text signed is (Several terms) = Terms sign body signed terms is

data GoView (text : List ℕ) : Type 0 where
  Duration : (negative : Bool) (sum : ℕ) → GoText negative sum text → go_nanos text ≡ signed_sum negative sum → GoView text
  NoDuration : (left : ℕ) → go_at text ≡ Err left → go_nanos text ≡ Err (BadDuration (length text - left)) → GoView text

go_nanos-sum : (text body : List ℕ) (negative : Bool) (sum : ℕ) → behind_sign text ≡ body → is_negative text ≡ negative → sum_at false body ≡ Ok sum → go_nanos text ≡ signed_sum negative sum
unfolding go_nanos
go_nanos-sum text body negative sum behind sign is = rw (behind, sign, is) refl

go_nanos-fault : (text body : List ℕ) (left : ℕ) → behind_sign text ≡ body → sum_at false body ≡ Err left → go_nanos text ≡ Err (BadDuration (length text - left))
unfolding go_nanos
go_nanos-fault text body left behind is = rw (behind, is) refl

go_by : (text sign body : List ℕ) (negative : Bool) → SignText negative sign → text ≡ sign ++ body → behind_sign text ≡ body → is_negative text ≡ negative → BodyView body → GoView text
go_by text sign body negative signed is behind negative_is (Sum sum form read) = Duration negative sum (go_text negative sum sign body text signed is form) (go_nanos-sum text body negative sum behind negative_is read)
go_by text sign body negative signed is behind negative_is (Fault left fault) = NoDuration left (ap (sum_at false) behind ∙ fault) (go_nanos-fault text body left behind fault)

go_view : (text : List ℕ) → GoView text
go_view [] = go_by [] [] [] false (NoSign refl refl) refl refl refl (body_view [])
go_view (b ∷ bs) = elim (is_or (b == 43)) [
  | inl is ↦ let same = eqb-true b 43 is in rw same (go_by (43 ∷ bs) (43 ∷ []) bs false (Plus refl refl) refl refl refl (body_view bs))
  | inr plus ↦ elim (is_or (b == 45)) [
    | inl is ↦ let same = eqb-true b 45 is in rw same (go_by (45 ∷ bs) (45 ∷ []) bs true (Minus refl refl) refl refl refl (body_view bs))
    | inr minus ↦ go_by (b ∷ bs) [] (b ∷ bs) false (NoSign refl refl) refl (rw (plus, minus) refl) minus (body_view (b ∷ bs))
  ]
]

-- what stands behind a sign begins with a digit or a point
abbrev IsUnsigned : List ℕ → Type 0
IsUnsigned text = (behind_sign text ≡ text) × (is_negative text ≡ false)

digit_unsigned : (b : ℕ) (rest : List ℕ) → is_digit b ≡ true → IsUnsigned (b ∷ rest)
digit_unsigned b rest digit =
    let range = digit_range b digit in
    let plus : (b == 43) ≡ false = ne_eqb b 43 (λ same. omega (arith, range)) in
    let minus : (b == 45) ≡ false = ne_eqb b 45 (λ same. omega (arith, range)) in
    (rw (plus, minus) refl, minus)

literal_unsigned : (whole fraction literal rest : List ℕ) → AreDigits whole → LiteralText whole fraction literal → IsUnsigned (literal ++ rest)
literal_unsigned [] fraction literal rest are (Plain is none some) = absurd (omega arith)
literal_unsigned (b ∷ whole) fraction literal rest are (Plain is none some) = rw is (digit_unsigned b (whole ++ rest) are.0)
literal_unsigned [] fraction literal rest are (Pointed is some few) = rw is (refl, refl)
literal_unsigned (b ∷ whole) fraction literal rest are (Pointed is some few) = rw is (digit_unsigned b ((whole ++ 46 ∷ fraction) ++ rest) are.0)

term_unsigned : (nanos : ℕ) (term rest : List ℕ) → TermText nanos term → IsUnsigned (term ++ rest)
term_unsigned nanos term rest is =
    let text : term ++ rest ≡ is.literal ++ (is.unit_text ++ rest) = ap (λ (t : List ℕ). t ++ rest) is.text_is ∙ append_assoc is.literal is.unit_text rest in
    subst (λ (t : List ℕ). IsUnsigned t) (sym text) (literal_unsigned is.whole is.fraction is.literal (is.unit_text ++ rest) is.are_digits.0 is.is_literal)

terms_unsigned : (sum : ℕ) (terms : List ℕ) → TermsText sum terms → IsUnsigned terms
terms_unsigned sum terms (Last term) = subst (λ (t : List ℕ). IsUnsigned t) (append-nil terms) (term_unsigned sum terms [] term)
terms_unsigned sum terms (More first rest s z term more is value) = subst (λ (t : List ℕ). IsUnsigned t) (sym is) (term_unsigned first s z term)

body_unsigned : (sum : ℕ) (body : List ℕ) → BodyText sum body → IsUnsigned body
body_unsigned sum body (Alone is value) = rw is (refl, refl)
body_unsigned sum body (Several terms) = terms_unsigned sum body terms

sign_read : (negative : Bool) (sum : ℕ) (sign body text : List ℕ) → SignText negative sign → BodyText sum body → text ≡ sign ++ body → go_nanos text ≡ signed_sum negative sum
sign_read negative sum sign body text (NoSign none is) form at =
    let unsigned = body_unsigned sum body form in
    let same : text ≡ body = at ∙ ap (λ (t : List ℕ). t ++ body) none in
    go_nanos-sum text body negative sum (ap behind_sign same ∙ unsigned.0) (ap is_negative same ∙ unsigned.1 ∙ sym is) (body_read sum body form)
sign_read negative sum sign body text (Plus plus is) form at =
    let same : text ≡ 43 ∷ body = at ∙ ap (λ (t : List ℕ). t ++ body) plus in
    go_nanos-sum text body negative sum (ap behind_sign same) (ap is_negative same ∙ sym is) (body_read sum body form)
sign_read negative sum sign body text (Minus minus is) form at =
    let same : text ≡ 45 ∷ body = at ∙ ap (λ (t : List ℕ). t ++ body) minus in
    go_nanos-sum text body negative sum (ap behind_sign same) (ap is_negative same ∙ sym is) (body_read sum body form)

pub go_nanos-form : (negative : Bool) (sum : ℕ) (text : List ℕ) → GoText negative sum text → go_nanos text ≡ signed_sum negative sum
go_nanos-form negative sum text (Zero sign signed is value) = sign_read negative sum sign (48 ∷ []) text signed (Alone refl value) is
go_nanos-form negative sum text (Terms sign terms signed form is) = sign_read negative sum sign terms text signed (Several form) is

signed_by : (negative bad : Bool) (sum at : ℕ) → (if negative then Err Negative else (if bad then Ok sum else Err OutOfRange)) ≡ Err (BadDuration at) → ⊥
signed_by true bad sum at is = cc
signed_by false true sum at is = cc
signed_by false false sum at is = cc

signed-no_fault : (negative : Bool) (sum at : ℕ) → signed_sum negative sum ≡ Err (BadDuration at) → ⊥
signed-no_fault negative sum at is = signed_by (negative && not (sum == 0)) (nat_le sum most_nanos) sum at is

-- ---- the place of a fault

sound_by : (text : List ℕ) (sum : ℕ) → go_at text ≡ Ok sum → GoView text → IsGo text
sound_by text sum ok (Duration negative value form is) = (negative, value, form)
sound_by text sum ok (NoDuration left fault is) = absurd (not_both sum left (go_at text) ok fault)

go_or : (r : Result ℕ ℕ) → ((sum : ℕ) × (r ≡ Ok sum)) ⊎ ((left : ℕ) × (r ≡ Err left))
go_or (Ok sum) = inl (sum, refl)
go_or (Err left) = inr (left, refl)

complete : (text : List ℕ) → IsGo text → (sum : ℕ) × (go_at text ≡ Ok sum)
complete text form = elim (go_or (go_at text)) [
  | inl ok ↦ ok
  | inr fault ↦ absurd (signed-no_fault form.0 form.1 (length text - fault.0) (sym (go_nanos-form form.0 form.1 text form.2) ∙ go_nanos-fault text (behind_sign text) fault.0 refl fault.1))
]

fault_at : (text : List ℕ) (left : ℕ) → go_at text ≡ Err left → FirstFault IsGo text (length text - left)
fault_at text left fault = fault_place go_at IsGo (λ text sum ok. sound_by text sum ok (go_view text)) complete text left fault (go_placed text)

answered : (text : List ℕ) (negative : Bool) (sum : ℕ) (answer : Result ℕ ScheduleError) → GoText negative sum text → answer ≡ signed_sum negative sum → AnswersGo text answer
answered text negative sum (Ok n) form is = (negative, sum, form, is)
answered text negative sum (Err (BadMoment at)) form is = (negative, sum, form, is)
answered text negative sum (Err (BadDuration at)) form is = absurd (signed-no_fault negative sum at (sym is))
answered text negative sum (Err Negative) form is = (negative, sum, form, is)
answered text negative sum (Err ZeroRepeats) form is = (negative, sum, form, is)
answered text negative sum (Err OutOfRange) form is = (negative, sum, form, is)
answered text negative sum (Err OutOfMemory) form is = (negative, sum, form, is)

answers_by : (text : List ℕ) → GoView text → AnswersGo text (go_nanos text)
answers_by text (Duration negative sum form is) = answered text negative sum (go_nanos text) form is
answers_by text (NoDuration left fault is) = rw is (fault_at text left fault)

pub go_nanos-answers : (text : List ℕ) → AnswersGo text (go_nanos text)
go_nanos-answers text = answers_by text (go_view text)
