-- Texts, moments and lists of operations that fit their fields.
use Rattle.std.proofs.Common.{◌≡◌, ◌<◌, ◌≤◌, ℕ, ◌+◌, zero, suc, List, [], ◌∷◌, length, take, get_or, Option, Some, subst, arith}
use Rattle.std.specs.Str.{IsUtf8}
use Rattle.std.proofs.lemmas.Bool.{lt-ltb}
use Rattle.std.proofs.lemmas.Str.{is_utf8-from_IsUtf8}
use Rattle.schedule_text.specs.Range.{end_of_time}
use Rattle.wire_fields.specs.Fields.{Field, number16, number64, number128, in_any_order, AllFit}
use Rattle.wire_fields.specs.Records.{text, moment}

pub text_fits : (bytes : List ℕ) → length bytes ≤ 65535 → IsUtf8 bytes → text.Fits bytes
unfolding text number16
text_fits bytes short utf8 = (omega arith, is_utf8-from_IsUtf8 bytes utf8)

pub moment_fits : (n : ℕ) → n < end_of_time → moment.Fits n
unfolding moment number128 number64
moment_fits n early = ((omega arith, omega arith), lt-ltb n end_of_time early)

next_fits : {A : Type 0} (f : Field A) (before : Option A) (xs : List A) (i : ℕ) (x : A) → i < length xs → x ≡ get_or xs i x → f.Fits x
    → AllFit (in_any_order f) before (take i xs) → AllFit (in_any_order f) before (take (suc i) xs)
next_fits f before [] i x lt is fits all = absurd (omega arith)
next_fits f before (y ∷ ys) zero x lt is fits all = (subst f.Fits is fits, tt)
next_fits f before (y ∷ ys) (suc i) x lt is fits all = (all.0, next_fits f (Some y) ys i x (omega arith) is fits all.1)

-- one more value fits, whatever is before it
pub fits_more : {A : Type 0} (f : Field A) (before : Option A) (xs : List A) (i : ℕ) (x : A) → i < length xs → x ≡ get_or xs i x → f.Fits x
    → AllFit (in_any_order f) before (take i xs) → AllFit (in_any_order f) before (take (i + 1) xs)
fits_more {A = A} f before xs i x lt is fits all =
    let e : suc i ≡ i + 1 = omega arith in subst (λ (n : ℕ). AllFit (in_any_order f) before (take n xs)) e (next_fits f before xs i x lt is fits all)
