-- The number at the head of a text.
use Rattle.std.proofs.Common.{◌≡◌, ℕ, zero, suc, ◌+◌, ◌-◌, ◌<◌, ◌≤◌, ◌==◌, nat_le, Bool, true, false, List, [], ◌∷◌, length, take, drop, arith, length-drop, Option, Some, None, option_map, if◌then◌else◌, refl, ap, sym, ◌∙◌}
use Rattle.std.specs.Prelude.{take_while}
use Rattle.std.specs.List.{prefix_len}
use Rattle.std.proofs.lemmas.Bool.Decides.{nat_tests}
use Rattle.std.proofs.lemmas.Bool.{leb-true, eqb-true, le-leb, ne_eqb}
use Rattle.std.proofs.Math.Seq.{take-length}
use Rattle.actor_names.specs.declared.error.NameError.TheVariants.{BadByte}
use Rattle.actor_names.specs.Names.{placed_from}
use Rattle.lists_and_limits.specs.Decimals.{is_digit, number_of}
use Rattle.actor_names.specs.Numerals.{numeral_of, ended_fault, number_fault}

-- the number's digits are the text's first bytes
take_again : (n : ℕ) (text : List ℕ) → take (length (take n text)) text ≡ take n text
take_again zero text = refl
take_again (suc n) [] = refl
take_again (suc n) (b ∷ bs) = ap (λ xs. b ∷ xs) (take_again n bs)

digits-take : (p : ℕ → Bool) (text : List ℕ) → take (length (take_while p text)) text ≡ take_while p text
digits-take p text = take_again (prefix_len p text) text

head_take : (b : ℕ) (bs : List ℕ) (test : Bool) → take (length (if test then b ∷ [] else take_while is_digit (b ∷ bs))) (b ∷ bs) ≡ (if test then b ∷ [] else take_while is_digit (b ∷ bs))
head_take b bs true = refl
head_take b bs false = digits-take is_digit (b ∷ bs)

pub take-numeral_of : (text : List ℕ) → take (length (numeral_of text)) text ≡ numeral_of text
take-numeral_of [] = refl
take-numeral_of (b ∷ bs) = head_take b bs (b == 48)

ended_some : (low end n m : ℕ) (least ends : Bool) → nat_le low m ≡ least → (end == n) ≡ ends → (if least then (if ends then None else Some (BadByte end)) else Some (BadByte 0)) ≡ None → (low ≤ m) × (end ≡ n)
ended_some low end n m true true lower same sound = (leb-true low m lower, eqb-true end n same)
ended_some low end n m true false lower same sound = cc
ended_some low end n m false ends lower same sound = cc

-- the whole text is a number in its range
pub record IsNumber (low most : ℕ) (text : List ℕ) : Type 0 where
  pub value : ℕ
  pub reads : number_of most text ≡ Some value
  pub least : low ≤ value

whole : (low most : ℕ) (text : List ℕ) (found : Option ℕ) → number_of most (numeral_of text) ≡ found → ended_fault low (length (numeral_of text)) (length text) found ≡ None → IsNumber low most text
whole low most text None is sound = cc
whole low most text (Some m) is sound =
    let parts : (low ≤ m) × (length (numeral_of text) ≡ length text) = ended_some low (length (numeral_of text)) (length text) m (nat_le low m) (length (numeral_of text) == length text) refl refl sound in
    let same : numeral_of text ≡ text = sym (take-numeral_of text) ∙ ap (λ n. take n text) parts.1 ∙ take-length text in
    record { value = m; reads = ap (number_of most) (sym same) ∙ is; least = parts.0 }

pub number_fault-none : (low most : ℕ) (text : List ℕ) → number_fault low most text ≡ None → IsNumber low most text
number_fault-none low most text sound = whole low most text (number_of most (numeral_of text)) refl sound

-- a number that was read from `start` to `end` is the one at the head of the text from `start` on
pub number_of-piece : (most start end : ℕ) (text : List ℕ) (found : Option ℕ) → end ≡ start + length (numeral_of (drop start text)) → found ≡ number_of most (take (end - start) (drop start text)) → number_of most (numeral_of (drop start text)) ≡ found
number_of-piece most start end text found ends is =
    let size : length (numeral_of (drop start text)) ≡ end - start = omega arith in
    let piece : numeral_of (drop start text) ≡ take (end - start) (drop start text) = sym (take-numeral_of (drop start text)) ∙ ap (λ n. take n (drop start text)) size in
    ap (number_of most) piece ∙ sym is

-- the fault of a number from `start` to `end`
pub number_fault-piece : (low most start end : ℕ) (text : List ℕ) (found : Option ℕ) → end ≡ start + length (numeral_of (drop start text)) → found ≡ number_of most (take (end - start) (drop start text)) → number_fault low most (drop start text) ≡ ended_fault low (end - start) (length text - start) found
number_fault-piece low most start end text found ends is =
    let size : length (numeral_of (drop start text)) ≡ end - start = omega arith in
    let read : number_of most (numeral_of (drop start text)) ≡ found = number_of-piece most start end text found ends is in
    let left : length (drop start text) ≡ length text - start = length-drop start text in
    ap (ended_fault low (length (numeral_of (drop start text))) (length (drop start text))) read
    ∙ ap (λ e. ended_fault low e (length (drop start text)) found) size
    ∙ ap (λ n. ended_fault low (end - start) n found) left

-- a number in its range that ends before the text is a fault at the byte after it
pub placed_late : (low start end n number : ℕ) → low ≤ number → start ≤ end → end < n → Some (BadByte end) ≡ option_map (placed_from start) (ended_fault low (end - start) (n - start) (Some number))
placed_late low start end n number least after before =
    let lower : nat_le low number ≡ true = le-leb low number least in
    let ends : (end - start == n - start) ≡ false = ne_eqb (end - start) (n - start) (λ same. omega arith) in
    let place : end ≡ start + (end - start) = omega arith in
    rw (lower, ends) (ap (λ k. Some (BadByte k)) place)

-- a number below its range is a fault at its first digit
pub placed_low : (low start end n number : ℕ) → number < low → Some (BadByte start) ≡ option_map (placed_from start) (ended_fault low (end - start) (n - start) (Some number))
placed_low low start end n number below =
    let lower : nat_le low number ≡ false = grind (arith, nat_tests) in
    let place : start ≡ start + 0 = omega arith in
    rw lower (ap (λ k. Some (BadByte k)) place)

pub placed_none : (low start end n : ℕ) → Some (BadByte start) ≡ option_map (placed_from start) (ended_fault low (end - start) (n - start) None)
placed_none low start end n = let place : start ≡ start + 0 = omega arith in ap (λ k. Some (BadByte k)) place
