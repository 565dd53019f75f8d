-- Bytes that are UTF-8.
use Rattle.std.proofs.Common.{◌≡◌, ℕ, Bool, true, false, List, refl, sym}
use Rattle.std.specs.Str.{IsUtf8, is_utf8}
use Rattle.std.proofs.lemmas.Str.{IsUtf8-from_is_utf8, is_utf8-from_IsUtf8}

not_tested : (bs : List ℕ) (test : Bool) → is_utf8 bs ≡ test → ¬ (IsUtf8 bs) → false ≡ test
not_tested bs true is not_utf8 = absurd (not_utf8 (IsUtf8-from_is_utf8 bs is))
not_tested bs false is not_utf8 = refl

pub tested_not_utf8 : (bs : List ℕ) → ¬ (IsUtf8 bs) → false ≡ is_utf8 bs
tested_not_utf8 bs not_utf8 = not_tested bs (is_utf8 bs) refl not_utf8

pub tested_utf8 : (bs : List ℕ) → IsUtf8 bs → true ≡ is_utf8 bs
tested_utf8 bs utf8 = sym (is_utf8-from_IsUtf8 bs utf8)
