-- Which of two files is live.
use Rattle.std.proofs.Common.{◌≡◌, ◌≢◌, inl, inr, ℕ, ◌≤◌, Bool, true, false, cond, List, [], ◌∷◌, ◌++◌, length, take, drop, Some, None, refl, sym, ◌∙◌, ap, arith, append_assoc, take-append-drop}
use Rattle.std.specs.Prelude.{not, ◌&&◌, ◌||◌, nat_lt, ◌==◌}
use Rattle.std.specs.List.{AllByRecursion}
use Rattle.std.specs.Int.{w32, w64, from_be_bytes, to_be_bytes}
use Rattle.std.proofs.lemmas.Bool.{le-ltb, lt-ltb}
use Rattle.std.proofs.lemmas.Bool.Decides.{nat_tests}
use Rattle.std.proofs.lemmas.List.{take_at, take-take, take-append-le}
use Rattle.std.proofs.lemmas.Nat.{from_be_bytes-to_be_bytes_4}
use Rattle.tx_journal.specs.declared.format.Format.{Format}
use Rattle.tx_journal.specs.declared.format.Format.TheVariants.{Two}
use Rattle.tx_journal.specs.File.{same_bytes, framed, records, IsShort, is_made}
use Rattle.tx_journal.specs.Pair.{generation_kind, is_generation, generation_in, first_generation, generation_at, file_generation, number, is_second_live, live_file}
use Rattle.tx_journal.specs.Journal.{IsAtRest}
use Rattle.tx_journal.specs.Sound.{Yields}

pub same_refl : (xs : List ℕ) → same_bytes xs xs ≡ true
same_refl [] = refl
same_refl (x ∷ xs) = ap (λ (b : Bool). b && same_bytes xs xs) (same_nat x) ∙ same_refl xs
  where
    same_nat : (n : ℕ) → (n == n) ≡ true
    same_nat n = grind (arith, nat_tests)

and_left : (a b : Bool) → (a && b) ≡ true → a ≡ true
and_left true b both = refl
and_left false b both = absurd (let e : false ≡ true = both in cc)

and_right : (a b : Bool) → (a && b) ≡ true → b ≡ true
and_right true b both = both
and_right false b both = absurd (let e : false ≡ true = both in cc)

nat_same : (m n : ℕ) → (m == n) ≡ true → m ≡ n
nat_same m n is = grind (arith, nat_tests)

nat_other : (m n : ℕ) → m ≢ n → (m == n) ≡ false
nat_other m n other = grind (arith, nat_tests)

pub same_eq : (xs ys : List ℕ) → same_bytes xs ys ≡ true → xs ≡ ys
same_eq [] [] same = refl
same_eq [] (y ∷ ys) same = absurd (let e : false ≡ true = same in cc)
same_eq (x ∷ xs) [] same = absurd (let e : false ≡ true = same in cc)
same_eq (x ∷ xs) (y ∷ ys) same =
    ap (λ (k : ℕ). k ∷ xs) (nat_same x y (and_left (x == y) (same_bytes xs ys) same)) ∙ ap (λ (l : List ℕ). y ∷ l) (same_eq xs ys (and_right (x == y) (same_bytes xs ys) same))

and_false : (b : Bool) → (b && false) ≡ false
and_false true = refl
and_false false = refl

or_true : (b : Bool) → (b || true) ≡ true
or_true true = refl
or_true false = refl

-- a closed gate isn't the start of a Generation
shut_none : (gate : ℕ) (rest : List ℕ) → gate ≢ 1 → generation_at (gate ∷ rest) ≡ None
shut_none gate rest shut =
    ap (λ (b : Bool). cond (length (gate ∷ rest) == 22 && (b && same_bytes (take 13 rest) (0 ∷ 0 ∷ 0 ∷ 17 ∷ generation_kind))) (Some (from_be_bytes w64 (drop 14 (gate ∷ rest)))) None) (nat_other gate 1 shut)
    ∙ ap (λ (b : Bool). cond b (Some (from_be_bytes w64 (drop 14 (gate ∷ rest)))) None) (and_false (length (gate ∷ rest) == 22))

-- the test of a record from its gate on, against the test of its payload
abbrev front_test : List ℕ → Bool
front_test front = length front == 22 && same_bytes (take 14 front) (1 ∷ 0 ∷ 0 ∷ 0 ∷ 17 ∷ generation_kind)

module _ (payload behind : List ℕ) (short : IsShort payload) where
  abbrev front : List ℕ
  front = take 22 (1 ∷ (framed payload ++ behind))

  front_is : front ≡ 1 ∷ (to_be_bytes w32 (length payload) ++ take 17 (payload ++ behind))
  front_is = refl

  -- a Generation is seen
  seen : is_generation payload ≡ true → (front_test front ≡ true) × (drop 14 front ≡ drop 9 payload)
  seen is =
      let size : length payload ≡ 17 = nat_same (length payload) 17 (and_left (length payload == 17) (same_bytes (take 9 payload) generation_kind) is) in
      let kind : take 9 payload ≡ generation_kind = same_eq (take 9 payload) generation_kind (and_right (length payload == 17) (same_bytes (take 9 payload) generation_kind) is) in
      let whole : front ≡ 1 ∷ (to_be_bytes w32 17 ++ payload) =
      ap (λ (k : ℕ). 1 ∷ (to_be_bytes w32 k ++ take 17 (payload ++ behind))) size ∙ ap (λ (l : List ℕ). 1 ∷ (to_be_bytes w32 17 ++ l)) (take_at payload behind 17 size) in
      let split : payload ≡ generation_kind ++ drop 9 payload = sym (take-append-drop 9 payload) ∙ ap (λ (l : List ℕ). l ++ drop 9 payload) kind in
      let spelled_ : front ≡ (1 ∷ 0 ∷ 0 ∷ 0 ∷ 17 ∷ generation_kind) ++ drop 9 payload = whole ∙ ap (λ (l : List ℕ). 1 ∷ (to_be_bytes w32 17 ++ l)) split in
      let long : length front ≡ 22 = omega (arith, ap length whole, size) in (
        ap (λ (n : ℕ). n == 22 && same_bytes (take 14 front) (1 ∷ 0 ∷ 0 ∷ 0 ∷ 17 ∷ generation_kind)) long
            ∙ ap (λ (l : List ℕ). same_bytes (take 14 l) (1 ∷ 0 ∷ 0 ∷ 0 ∷ 17 ∷ generation_kind)) spelled_ ∙ same_refl (1 ∷ 0 ∷ 0 ∷ 0 ∷ 17 ∷ generation_kind),
        ap (drop 14) spelled_,
      )

  -- what is seen is a Generation
  told : front_test front ≡ true → is_generation payload ≡ true
  told test =
      let same : take 14 front ≡ 1 ∷ 0 ∷ 0 ∷ 0 ∷ 17 ∷ generation_kind = same_eq (take 14 front) (1 ∷ 0 ∷ 0 ∷ 0 ∷ 17 ∷ generation_kind) (and_right (length front == 22) _ test) in
      let long : length front ≡ 22 = nat_same (length front) 22 (and_left (length front == 22) _ test) in
      let spelling : to_be_bytes w32 (length payload) ≡ to_be_bytes w32 17 = ap (λ (l : List ℕ). take 4 (drop 1 l)) same in
      let size : length payload ≡ 17 = sym (from_be_bytes-to_be_bytes_4 (length payload) (omega (arith, short))) ∙ ap (from_be_bytes w32) spelling in
      let kind : take 9 payload ≡ generation_kind = sym (take-append-le 9 payload behind (omega (arith, size))) ∙ sym (take-take 9 17 (payload ++ behind) (omega arith)) ∙ ap (λ (l : List ℕ). drop 5 l) same in
      ap (λ (n : ℕ). n == 17 && same_bytes (take 9 payload) generation_kind) size ∙ ap (λ (l : List ℕ). same_bytes l generation_kind) kind ∙ same_refl generation_kind

  either_way : (a b : Bool) → front_test front ≡ a → is_generation payload ≡ b → generation_at front ≡ generation_in payload
  either_way true true test is = ap (λ (b : Bool). cond b (Some (from_be_bytes w64 (drop 14 front))) None) test ∙ ap (λ (l : List ℕ). Some (from_be_bytes w64 l)) (seen is).1 ∙ ap (λ (b : Bool). cond b (Some (from_be_bytes w64 (drop 9 payload))) None) (sym is)
  either_way false false test is = ap (λ (b : Bool). cond b (Some (from_be_bytes w64 (drop 14 front))) None) test ∙ ap (λ (b : Bool). cond b (Some (from_be_bytes w64 (drop 9 payload))) None) (sym is)
  either_way true false test is = absurd (let e : true ≡ false = sym (told test) ∙ is in cc)
  either_way false true test is = absurd (let e : true ≡ false = sym (seen is).0 ∙ test in cc)

  pub record_seen : generation_at front ≡ generation_in payload
  record_seen = either_way (front_test front) (is_generation payload) refl refl

-- the Generation of a file at rest is that of its first payload
rest_seen : (payloads : List (List ℕ)) (gate : ℕ) (rest : List ℕ) → AllByRecursion IsShort payloads → gate ≢ 1 → generation_at (take 22 (records payloads ++ gate ∷ rest)) ≡ first_generation payloads
rest_seen [] gate rest short shut = shut_none gate (take 21 rest) shut
rest_seen (payload ∷ payloads) gate rest short shut =
    ap (λ (l : List ℕ). generation_at (take 22 (1 ∷ l))) (append_assoc (framed payload) (records payloads) (gate ∷ rest)) ∙ record_seen payload (records payloads ++ gate ∷ rest) short.0

pub rest_generation : {format : Format} (payloads : List (List ℕ)) (end : ℕ) (bytes : List ℕ) → IsAtRest Two format payloads end bytes → file_generation bytes ≡ first_generation payloads
rest_generation payloads end bytes at_rest =
    ap file_generation at_rest.file ∙ ap (λ (b : Bool). cond b (generation_at (take 22 (records payloads ++ at_rest.gate ∷ at_rest.rest))) None) at_rest.known ∙ rest_seen payloads at_rest.gate at_rest.rest at_rest.short at_rest.shut

pub rest_made : {newest format : Format} (payloads : List (List ℕ)) (end : ℕ) (bytes : List ℕ) → IsAtRest newest format payloads end bytes → is_made bytes ≡ true
rest_made payloads end bytes at_rest = ap is_made at_rest.file

-- the live one of two files, in the order of the disks
abbrev pub live_in : Bool → List ℕ → List ℕ → List ℕ
live_in true live other = live_file other live
live_in false live other = live_file live other

-- beside a file that yields, the other is live
pub picks : (is_second_live : Bool) (live other : List ℕ) → is_made live ≡ true → Yields is_second_live (number (file_generation live)) other → live_in is_second_live live other ≡ live
picks false live other made (inl unmade) =
    ap (λ (b : Bool). cond (b && (not (is_made live) || nat_lt (number (file_generation live)) (number (file_generation other)))) other live) unmade
picks false live other made (inr less) =
    let older : nat_lt (number (file_generation live)) (number (file_generation other)) ≡ false = le-ltb _ _ (omega (arith, less)) in
    let none : (is_made other && (not (is_made live) || nat_lt (number (file_generation live)) (number (file_generation other)))) ≡ false =
    ap (λ (b : Bool). is_made other && (not b || nat_lt (number (file_generation live)) (number (file_generation other)))) made ∙ ap (λ (b : Bool). is_made other && b) older ∙ and_false (is_made other) in
    ap (λ (b : Bool). cond b other live) none
picks true live other made (inl unmade) =
    let is : (is_made live && (not (is_made other) || nat_lt (number (file_generation other)) (number (file_generation live)))) ≡ true =
    ap (λ (b : Bool). b && (not (is_made other) || nat_lt (number (file_generation other)) (number (file_generation live)))) made
    ∙ ap (λ (b : Bool). not b || nat_lt (number (file_generation other)) (number (file_generation live))) unmade in
    ap (λ (b : Bool). cond b live other) is
picks true live other made (inr less) =
    let newer : nat_lt (number (file_generation other)) (number (file_generation live)) ≡ true = lt-ltb _ _ (omega (arith, less)) in
    let is : (is_made live && (not (is_made other) || nat_lt (number (file_generation other)) (number (file_generation live)))) ≡ true =
    ap (λ (b : Bool). b && (not (is_made other) || nat_lt (number (file_generation other)) (number (file_generation live)))) made
    ∙ ap (λ (b : Bool). not (is_made other) || b) newer ∙ or_true (not (is_made other)) in
    ap (λ (b : Bool). cond b live other) is

pub yields_more : (is_second_live : Bool) (m n : ℕ) (file : List ℕ) → m ≤ n → Yields is_second_live m file → Yields is_second_live n file
yields_more is_second_live m n file less (inl unmade) = inl unmade
yields_more is_second_live m n file less (inr below) = inr (omega (arith, less, below))
