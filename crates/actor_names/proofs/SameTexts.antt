-- Texts with the same bytes are equal in order.
use Rattle.std.proofs.Common.{◌≡◌, ◌∙◌, refl, true, List, ℕ}
use Rattle.std.specs.declared.cmp.Ordering.{Ordering}
use Rattle.std.specs.declared.cmp.Ordering.TheVariants.{Less, Equal, Greater}
use Rattle.std.specs.Cmp.Lexicographic.{slice_cmp}
use Rattle.std.specs.Ordering.{nat_cmp, is_eq}
use Rattle.std.specs.Str.{bytes_eq}
use Rattle.std.proofs.lemmas.Map.Text.{is_eq-slice_cmp}

equal_of : (o : Ordering) → is_eq o ≡ true → Equal ≡ o
equal_of Less p = absurd (cc)
equal_of Equal p = refl
equal_of Greater p = absurd (cc)

pub same_texts_equal : (a b : List ℕ) → bytes_eq a b ≡ true → Equal ≡ slice_cmp nat_cmp a b
same_texts_equal a b e = equal_of (slice_cmp nat_cmp a b) (is_eq-slice_cmp a b ∙ e)
