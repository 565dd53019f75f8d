-- Binary search: how often the remaining points can be halved, and where the search ends.
use Rattle.std.specs.Prelude.{◌≡◌, ℕ, ◌+◌, ◌-◌, ◌*◌, ◌^◌, ◌<◌, ◌≤◌, true, false, nat_le, List, length, Some, None, slice_get}
use Rattle.std.proofs.Common.{sym, ◌∙◌, ap, subst, arith, get_or}
use Rattle.std.specs.List.{find, position_or_len}
use Rattle.std.specs.List.Sorted.{IsNonDecreasingBy}
use Rattle.std.specs.Option.{option_or}
use Rattle.std.proofs.Math.Nat.{mul-le-mul_left}
use Rattle.std.proofs.lemmas.Grind.{pow_more}
use Rattle.std.proofs.lemmas.List.{get_or_default}
use Rattle.std.proofs.lemmas.List.Folds.{find_at}
use Rattle.place_table.specs.declared.table.Slot.{Slot}
use Rattle.place_table.specs.Tables.{next_slot}

twice : (p more : ℕ) → (p * 2) * more ≡ p * (more + more)
twice p more = grind arith

-- if at most half of the w points remain, twice the factor p fits
halved : (p w more n : ℕ) → 0 < w → more + more ≤ w → p * w ≤ n → ((p * 2) * more ≤ n) × (p * 2 ≤ 2 * n + 2)
halved p w more n some half few =
    let a : p * (more + more) ≤ p * w = mul-le-mul_left p half in
    let b : (p * 2) * more ≡ p * (more + more) = twice p more in
    let one : 1 ≤ w = omega arith in
    let c : p * 1 ≤ p * w = mul-le-mul_left p one in (
      omega arith,
      omega arith,
    )

-- one more look; s is the count at the start
pub one_look : (s now next w more n : ℕ) → next ≡ now + 1 → s ≤ now → 0 < w → more + more ≤ w → 2 ^ (now - s) * w ≤ n → (2 ^ (next - s) * more ≤ n) × (2 ^ (next - s) ≤ 2 * n + 2)
one_look s now next w more n counted began some half few =
    let later : next - s ≡ (now - s) + 1 = omega arith in
    let doubled : 2 ^ (next - s) ≡ 2 ^ (now - s) * 2 = ap (λ k. 2 ^ k) later ∙ pow_more 2 (now - s) in
    subst (λ (p : ℕ). (p * more ≤ n) × (p ≤ 2 * n + 2)) (sym doubled) (halved (2 ^ (now - s)) w more n some half few)

-- in order of place, a point in front of one that is before the place is before the place too
pub rises_before : (slots : List Slot) (place k mid : ℕ) (d e : Slot) → IsNonDecreasingBy (λ (s : Slot). s.place) slots → k ≤ mid → mid < length slots → nat_le place (get_or slots mid e).place ≡ false → nat_le place (get_or slots k d).place ≡ false
rises_before slots place k mid d e up low within seen =
    let far : (get_or slots k d).place ≤ (get_or slots mid d).place = up k mid d low within in
    let same : nat_le place (get_or slots mid d).place ≡ false = ap (λ (s : Slot). nat_le place s.place) (get_or_default slots mid d e within) ∙ seen in
    grind arith

-- and a point after one that is at or after the place is at or after it too
pub rises_from : (slots : List Slot) (place k mid : ℕ) (d e : Slot) → IsNonDecreasingBy (λ (s : Slot). s.place) slots → mid ≤ k → mid < length slots → k < length slots → nat_le place (get_or slots mid e).place ≡ true → nat_le place (get_or slots k d).place ≡ true
rises_from slots place k mid d e up low inside within seen =
    let far : (get_or slots mid d).place ≤ (get_or slots k d).place = up mid k d low within in
    let same : nat_le place (get_or slots mid d).place ≡ true = ap (λ (s : Slot). nat_le place s.place) (get_or_default slots mid d e inside) ∙ seen in
    grind arith

pub some_next : (slots : List Slot) (place i : ℕ) (slot : Slot) → i ≡ position_or_len (λ (s : Slot). nat_le place s.place) slots → slice_get slots i ≡ Some slot → Some slot ≡ next_slot slots place
some_next slots place i slot first e =
    let found : find (λ (s : Slot). nat_le place s.place) slots ≡ Some slot = find_at (λ (s : Slot). nat_le place s.place) slots ∙ ap (slice_get slots) (sym first) ∙ e in
    sym (ap (λ o. option_or o (slice_get slots 0)) found)

pub none_next : (slots : List Slot) (place i : ℕ) → i ≡ position_or_len (λ (s : Slot). nat_le place s.place) slots → slice_get slots i ≡ None → slice_get slots 0 ≡ next_slot slots place
none_next slots place i first e =
    let found : find (λ (s : Slot). nat_le place s.place) slots ≡ None = find_at (λ (s : Slot). nat_le place s.place) slots ∙ ap (slice_get slots) (sym first) ∙ e in
    sym (ap (λ o. option_or o (slice_get slots 0)) found)
