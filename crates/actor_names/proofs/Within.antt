-- A fault's place is within its text.
use Rattle.std.proofs.Common.{◌≡◌, ℕ, zero, suc, ◌+◌, ◌-◌, ◌<◌, ◌≤◌, ◌==◌, nat_lt, nat_le, Bool, List, [], ◌∷◌, length, take, drop, arith, length-drop, Option, Some, None, option_map, subst, inl, inr}
use Rattle.std.proofs.lemmas.Bool.{cond_both, cases_lt}
use Rattle.actor_names.specs.declared.error.NameError.{NameError}
use Rattle.actor_names.specs.declared.error.NameError.TheVariants.{Empty, TooLong, BadByte, OutOfMemory}
use Rattle.actor_names.specs.Names.{first_bad, text_fault, placed_from, first_of_two, second_fault, before_slash, after_slash, is_type_byte, is_node_byte, is_id_byte, actor_id_fault, local_key_fault}
use Rattle.lists_and_limits.specs.Decimals.{number_of}
use Rattle.lists_and_limits.specs.Limits.{last_number}
use Rattle.actor_names.specs.Numerals.{numeral_of, ended_fault, boot_fault, local_member_fault}
use Rattle.actor_names.proofs.Slashes.{after_slash-some, after_slash-none, length-before_slash-le}
use Rattle.actor_names.proofs.Numerals.{take-numeral_of}

abbrev pub IsWithin : ℕ → Option NameError → Type 0
IsWithin n None = Unit {0}
IsWithin n (Some (BadByte at)) = at ≤ n
IsWithin n (Some Empty) = Unit {0}
IsWithin n (Some (TooLong most)) = Unit {0}
IsWithin n (Some OutOfMemory) = Unit {0}

abbrev IsPlace : ℕ → Option ℕ → Type 0
IsPlace n None = Unit {0}
IsPlace n (Some at) = at < n

next_place : (n : ℕ) (o : Option ℕ) → IsPlace n o → IsPlace (suc n) (option_map (λ k. k + 1) o)
next_place n None is = tt
next_place n (Some at) is = omega arith

first_bad_place : (ok : ℕ → Bool) (text : List ℕ) → IsPlace (length text) (first_bad ok text)
first_bad_place ok [] = tt
first_bad_place ok (b ∷ bs) = cond_both (ok b) _ _ (IsPlace (suc (length bs))) (λ _. next_place _ _ (first_bad_place ok bs)) (λ _. (let h : 0 < suc (length bs) = omega arith in h))

bad_within : (n : ℕ) (o : Option ℕ) → IsPlace n o → IsWithin n (option_map (λ k. BadByte k) o)
bad_within n None is = tt
bad_within n (Some at) is = omega arith

text_within : (ok : ℕ → Bool) (most : ℕ) (text : List ℕ) → IsWithin (length text) (text_fault ok most text)
text_within ok most text =
    cond_both (length text == 0) _ _ (IsWithin (length text)) (λ _. tt)
    (λ _. cond_both (nat_lt most (length text)) _ _ (IsWithin (length text)) (λ _. tt) (λ _. bad_within _ _ (first_bad_place ok text)))

placed_within : (start n : ℕ) (o : Option NameError) → IsWithin n o → IsWithin (start + n) (option_map (placed_from start) o)
placed_within start n None is = tt
placed_within start n (Some (BadByte at)) is = omega arith
placed_within start n (Some Empty) is = tt
placed_within start n (Some (TooLong most)) is = tt
placed_within start n (Some OutOfMemory) is = tt

wider : (n m : ℕ) (o : Option NameError) → n ≤ m → IsWithin n o → IsWithin m o
wider n m None le is = tt
wider n m (Some (BadByte at)) le is = omega arith
wider n m (Some Empty) le is = tt
wider n m (Some (TooLong most)) le is = tt
wider n m (Some OutOfMemory) le is = tt

first_within : (n : ℕ) (a b : Option NameError) → IsWithin n a → IsWithin n b → IsWithin n (first_of_two a b)
first_within n None b x y = y
first_within n (Some e) b x y = x

second_within : (fault : List ℕ → Option NameError) → ((t : List ℕ) → IsWithin (length t) (fault t)) → (text : List ℕ) → IsWithin (length text) (second_fault fault text (after_slash text))
second_within fault each text = elim (cases_lt (length (before_slash text)) (length text)) [
  | inl below ↦
      let n = length (before_slash text) in
      let rest = drop (n + 1) text in
      let there : IsWithin ((n + 1) + length rest) (option_map (placed_from (n + 1)) (fault rest)) = placed_within (n + 1) (length rest) (fault rest) (each rest) in
      let long : length rest ≡ length text - (n + 1) = length-drop (n + 1) text in
      (rw (after_slash-some text below) (wider _ (length text) _ (omega arith) there))
  | inr past ↦ (rw (after_slash-none text past) (let h : length text ≤ length text = omega arith in h))
]

pub local_key_within : (text : List ℕ) → IsWithin (length text) (local_key_fault text)
local_key_within text =
    first_within (length text) _ _ (wider _ (length text) _ (length-before_slash-le text) (text_within is_type_byte 64 (before_slash text)))
    (second_within actor_id_fault (text_within is_id_byte 128) text)

pub length-take-le-all : (n : ℕ) (text : List ℕ) → length (take n text) ≤ length text
length-take-le-all zero text = omega arith
length-take-le-all (suc n) [] = omega arith
length-take-le-all (suc n) (b ∷ bs) = let h = length-take-le-all n bs in omega arith

take-le : (n : ℕ) (text xs : List ℕ) → take n text ≡ xs → length xs ≤ length text
take-le n text xs is = subst (λ (z : List ℕ). length z ≤ length text) is (length-take-le-all n text)

ended_within : (low end n : ℕ) (o : Option ℕ) → end ≤ n → IsWithin n (ended_fault low end n o)
ended_within low end n None le = let h : 0 ≤ n = omega arith in h
ended_within low end n (Some m) le =
    cond_both (nat_le low m) _ _ (IsWithin n) (λ _. cond_both (end == n) _ _ (IsWithin n) (λ _. tt) (λ _. le)) (λ _. (let h : 0 ≤ n = omega arith in h))

boot_within : (text : List ℕ) → IsWithin (length text) (boot_fault text)
boot_within text = ended_within 1 (length (numeral_of text)) (length text) (number_of last_number (numeral_of text)) (take-le _ text (numeral_of text) (take-numeral_of text))

pub local_member_within : (text : List ℕ) → IsWithin (length text) (local_member_fault text)
local_member_within text =
    first_within (length text) _ _ (wider _ (length text) _ (length-before_slash-le text) (text_within is_node_byte 64 (before_slash text)))
    (second_within boot_fault boot_within text)
