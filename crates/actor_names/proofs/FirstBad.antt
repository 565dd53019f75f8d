-- The loop that looks for the first byte that fails a test.
use Rattle.std.proofs.Common.{◌≡◌, ℕ, ◌+◌, Bool, List, drop, Option, Some, None, option_map, refl, ap, arith}
use Rattle.actor_names.specs.Names.{first_bad}

-- the rest of the search at `i`, its place counted in the whole text
abbrev pub found_from : (ℕ → Bool) → List ℕ → ℕ → Option ℕ
found_from ok text i = option_map (λ n. i + n) (first_bad ok (drop i text))

moved_by_none : (found : Option ℕ) → option_map (λ n. 0 + n) found ≡ found
moved_by_none None = refl
moved_by_none (Some n) = ap Some (omega arith)

pub found_from-start : (ok : ℕ → Bool) (text : List ℕ) → found_from ok text 0 ≡ first_bad ok text
found_from-start ok text = moved_by_none (first_bad ok text)
