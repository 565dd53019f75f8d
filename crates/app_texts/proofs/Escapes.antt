-- The bytes that a part of a path escapes.
use Rattle.std.proofs.Common.{◌≡◌, refl, ℕ, ◌<◌, ◌≤◌, nat_lt, Bool, true, false, not, ◌||◌, List, [], ◌∷◌, ◌++◌, arith, if◌then◌else◌}
use Rattle.std.proofs.Math.Path.{ap₂}
use Rattle.std.proofs.lemmas.Bool.{agree_below, agree_below_at}
use Rattle.std.proofs.lemmas.Bool.Decides.{nat_tests}
use Rattle.std.specs.Char.{is_ascii}
use Rattle.percent_encoding.specs.AsciiSet.{contains, should_percent_encode}
use Rattle.percent_encoding.specs.Percent.{encode_byte, percent_encode_byte, percent_encode}
use Rattle.app_texts.specs.declared.escaping.TheConstants.{PART}
use Rattle.app_texts.specs.Texts.{is_unreserved, escape, escaped}

ascii_bytes : agree_below (should_percent_encode PART) (λ b. not (is_unreserved b)) 128 ≡ true
unfolding should_percent_encode
ascii_bytes = refl

other_bytes : (b : ℕ) → 128 ≤ b → should_percent_encode PART b ≡ not (is_unreserved b)
unfolding should_percent_encode
other_bytes b high = grind (arith, nat_tests)

escapes_by : (b : ℕ) (low : Bool) → nat_lt b 128 ≡ low → should_percent_encode PART b ≡ not (is_unreserved b)
escapes_by b true e = agree_below_at (should_percent_encode PART) (λ n. not (is_unreserved n)) 128 b ascii_bytes (grind (arith, nat_tests))
escapes_by b false e = other_bytes b (grind (arith, nat_tests))

as_escaped : (b : ℕ) (kept escapes : Bool) → is_unreserved b ≡ kept → should_percent_encode PART b ≡ escapes → escapes ≡ not kept → encode_byte PART b ≡ (if is_unreserved b then b ∷ [] else escape b)
unfolding percent_encode_byte
as_escaped b true true e f g = cc
as_escaped b true false e f g = rw (e, f) refl
as_escaped b false true e f g = rw (e, f) refl
as_escaped b false false e f g = cc

pub percent_encode_part : (bytes : List ℕ) → percent_encode PART bytes ≡ escaped bytes
unfolding percent_encode
percent_encode_part [] = refl
percent_encode_part (b ∷ bs) = ap₂ (λ (x y : List ℕ). x ++ y) (as_escaped b (is_unreserved b) (should_percent_encode PART b) refl refl (escapes_by b (nat_lt b 128) refl)) (percent_encode_part bs)
