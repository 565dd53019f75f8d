-- An index of calls is a map from numbers.
use Rattle.std.proofs.Common.{◌≡◌, ℕ, List, [], ◌∷◌, Option, refl, sym, ◌∙◌, ap, Bor, if◌then◌else◌}
use Rattle.std.specs.Prelude.{◌==◌, cond, option_copied}
use Rattle.std.specs.Ordering.{nat_cmp, is_eq}
use Rattle.std.specs.BTreeMap.{is_at}
use Rattle.std.specs.Cmp.{unsigned_tied, nat_eq_equiv}
use Rattle.std.specs.Map.{lookup}
use Rattle.part_cells.specs.Slots.{slot_of}

tied : (a b : ℕ) → is_eq (nat_cmp a b) ≡ (a == b)
tied a b = unsigned_tied a b

pub slot_of-lookup : (es : List (ℕ × ℕ)) (n : ℕ) → slot_of es n ≡ lookup (is_at (nat_cmp n)) es
slot_of-lookup [] n = refl
slot_of-lookup (e ∷ es) n = rw (tied n e.0, slot_of-lookup es n) refl

turned : (a b : ℕ) → is_eq (nat_cmp a b) ≡ (b == a)
turned a b = tied a b ∙ (let e = nat_eq_equiv in e.symm a b)

-- a key that is noted or forgotten under a call
pub updated : (call : ℕ) (key : Option ℕ) (es fs : List (ℕ × ℕ))
    → ((q : ℕ) → lookup (is_at (nat_cmp q)) fs ≡ cond (is_at (nat_cmp call) q) key (lookup (is_at (nat_cmp q)) es))
    → (n : ℕ) → slot_of fs n ≡ (if n == call then key else slot_of es n)
updated call key es fs h n = slot_of-lookup fs n ∙ h n ∙ (λ i. cond (turned call n i) key (sym (slot_of-lookup es n) i))

-- what a look-up lent, by its value
pub as_copied : (lent shown : Option (Bor ℕ)) (found : Option ℕ) → lent ≡ shown → option_copied lent ≡ found → option_copied shown ≡ found
as_copied lent shown found e h = ap option_copied (sym e) ∙ h
