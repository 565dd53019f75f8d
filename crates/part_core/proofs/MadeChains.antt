-- A chain that a part makes has the form of a chain: at most 110 bytes, each of them visible.
use Rattle.std.proofs.Common.{◌≡◌, ℕ, ◌+◌, ◌%◌, ◌^◌, ◌<◌, ◌≤◌, Bool, true, false, ◌&&◌, ◌||◌, List, [], ◌∷◌, ◌++◌, length, Option, None, Some, refl, ap, ◌∙◌, inl, inr, arith, length-append, lit<}
use Rattle.std.specs.Prelude.{◌==◌, nat_lt, nat_le, decimal, if◌then◌else◌, option_map}
use Rattle.std.proofs.lemmas.Bool.{and_parts, and_from, or_cases, cond-true, cond-false, leb-true, le-leb, le-ltb, ne_eqb, eqb-true}
use Rattle.std.proofs.lemmas.Fmt.{decimal_by_steps, length-decimal-le}
use Rattle.actor_names.specs.declared.member.Member.{Member}
use Rattle.actor_names.specs.declared.error.NameError.TheVariants.{Empty, TooLong, BadByte}
use Rattle.actor_names.specs.Names.{is_node_byte, is_chain_byte, first_bad, node_fault, chain_id_fault, HasForm}
use Rattle.actor_names.specs.NameLengths.{most-text_fault}
use Rattle.actor_names.proofs.FormFaults.{without_fault}
use Rattle.part_model.specs.Part.{made_chain}

-- ---- bytes

-- each byte may be in a chain
abbrev AreVisible : List ℕ → Type 0
AreVisible text = first_bad is_chain_byte text ≡ None

visible_more : (b : ℕ) (bs : List ℕ) → is_chain_byte b ≡ true → AreVisible bs → AreVisible (b ∷ bs)
visible_more b bs good rest = cond-true (is_chain_byte b) _ _ good ∙ ap (λ (o : Option ℕ). option_map (λ n. n + 1) o) rest

bad_cons : (good : Bool) (found : Option ℕ) → (if good then option_map (λ n. n + 1) found else Some 0) ≡ None → (good ≡ true) × (found ≡ None)
bad_cons true None is = (refl, refl)
bad_cons true (Some n) is = cc
bad_cons false found is = cc

good_parts : (ok : ℕ → Bool) (b : ℕ) (bs : List ℕ) → first_bad ok (b ∷ bs) ≡ None → (ok b ≡ true) × (first_bad ok bs ≡ None)
good_parts ok b bs is = bad_cons (ok b) (first_bad ok bs) is

visible_both : (xs ys : List ℕ) → AreVisible xs → AreVisible ys → AreVisible (xs ++ ys)
visible_both [] ys f g = g
visible_both (x ∷ xs) ys f g = let h = good_parts is_chain_byte x xs f in visible_more x (xs ++ ys) h.0 (visible_both xs ys h.1 g)

visible_between : (low high b : ℕ) → 33 ≤ low → high ≤ 126 → (nat_le low b && nat_le b high) ≡ true → is_chain_byte b ≡ true
visible_between low high b least most e =
    let p = and_parts (nat_le low b) (nat_le b high) e in
    let l = leb-true low b p.0 in
    let h = leb-true b high p.1 in
    and_from (nat_le 33 b) (nat_le b 126) (le-leb 33 b (omega arith)) (le-leb b 126 (omega arith))

node_visible : (b : ℕ) → is_node_byte b ≡ true → is_chain_byte b ≡ true
node_visible b good =
    elim (or_cases ((nat_le 97 b && nat_le b 122) || (nat_le 48 b && nat_le b 57)) (b == 45) good) [
      | inl h ↦ elim (or_cases (nat_le 97 b && nat_le b 122) (nat_le 48 b && nat_le b 57) h) [
        | inl letter ↦ visible_between 97 122 b (omega arith) (omega arith) letter
        | inr digit ↦ visible_between 48 57 b (omega arith) (omega arith) digit
      ]
      | inr dash ↦ ap (λ (k : ℕ). is_chain_byte k) (eqb-true b 45 dash)
    ]

-- the bytes of a node
nodes_visible : (text : List ℕ) → first_bad is_node_byte text ≡ None → AreVisible text
nodes_visible [] is = refl
nodes_visible (b ∷ bs) is = let h = good_parts is_node_byte b bs is in visible_more b bs (node_visible b h.0) (nodes_visible bs h.1)

-- and those of a number
digit_visible : (d : ℕ) → d < 10 → is_chain_byte (48 + d) ≡ true
digit_visible d l = and_from (nat_le 33 (48 + d)) (nat_le (48 + d) 126) (le-leb 33 (48 + d) (omega arith)) (le-leb (48 + d) 126 (omega arith))

digits_visible : (n : ℕ) → n < 2 ^ 64 → AreVisible (decimal n)
digits_visible n fits =
    decimal_by_steps (λ m ds. AreVisible ds)
    (λ m l. visible_more (48 + m) [] (digit_visible m l) refl)
    (λ m ds l h. visible_both ds ((48 + m % 10) ∷ []) h (visible_more (48 + m % 10) [] (digit_visible (m % 10) (omega arith)) refl))
    n fits

dotted_visible : (n : ℕ) (rest : List ℕ) → n < 2 ^ 64 → AreVisible rest → AreVisible (46 ∷ (decimal n ++ rest))
dotted_visible n rest fits good = visible_more 46 (decimal n ++ rest) refl (visible_both (decimal n) rest (digits_visible n fits) good)

-- ---- lengths

dotted_length : (n most : ℕ) (rest : List ℕ) → length (decimal n) ≤ most → length (46 ∷ (decimal n ++ rest)) ≤ 1 + (most + length rest)
dotted_length n most rest few = let l = length-append (decimal n) rest in omega arith

number_length : (n : ℕ) → n < 2 ^ 64 → length (decimal n) ≤ 20
number_length n fits = let wide : 2 ^ 64 < 10 ^ 20 = lit< tt in length-decimal-le 20 n (omega arith) (omega arith) fits

part_length : (n : ℕ) → n < 2 ^ 8 → length (decimal n) ≤ 3
part_length n fits =
    let wide : 2 ^ 8 < 10 ^ 3 = lit< tt in
    let wider : 2 ^ 8 < 2 ^ 64 = lit< tt in
    length-decimal-le 3 n (omega arith) (omega arith) (omega arith)

-- ---- the form

found_none : (empty long : Bool) (n : ℕ) (found : Option ℕ) → (if empty then Some Empty else (if long then Some (TooLong n) else option_map (λ k. BadByte k) found)) ≡ None → found ≡ None
found_none true long n found is = cc
found_none false true n found is = cc
found_none false false n None is = refl
found_none false false n (Some k) is = cc

formed : (text : List ℕ) → 0 < length text → length text ≤ 128 → AreVisible text → chain_id_fault text ≡ None
formed text some few good =
    cond-false (length text == 0) _ _ (ne_eqb (length text) 0 (λ e. absurd (omega arith)))
    ∙ cond-false (nat_lt 128 (length text)) _ _ (le-ltb 128 (length text) few)
    ∙ ap (λ (o : Option ℕ). option_map (λ n. BadByte n) o) good

pub chain_formed : (m : Member) (number n : ℕ) → HasForm node_fault m.node → m.boot < 2 ^ 64 → number < 2 ^ 8 → n < 2 ^ 64 → chain_id_fault (made_chain m number n) ≡ None
chain_formed m number n form boot part last =
    let is_node : node_fault m.node ≡ None = without_fault node_fault m.node form in
    let good = found_none (length m.node == 0) (nat_lt 64 (length m.node)) (length m.node) (first_bad is_node_byte m.node) is_node in
    let small : 2 ^ 8 < 2 ^ 64 = lit< tt in
    let a = most-text_fault is_node_byte 64 m.node is_node in
    let l = length-append m.node (46 ∷ (decimal m.boot ++ (46 ∷ (decimal number ++ (46 ∷ decimal n))))) in
    let b = dotted_length m.boot 20 (46 ∷ (decimal number ++ (46 ∷ decimal n))) (number_length m.boot boot) in
    let c = dotted_length number 3 (46 ∷ decimal n) (part_length number part) in
    let d = number_length n last in
    formed (made_chain m number n) (omega arith) (omega arith)
    (visible_both m.node (46 ∷ (decimal m.boot ++ (46 ∷ (decimal number ++ (46 ∷ decimal n))))) (nodes_visible m.node good)
    (dotted_visible m.boot (46 ∷ (decimal number ++ (46 ∷ decimal n))) boot
    (dotted_visible number (46 ∷ decimal n) (omega arith)
    (visible_more 46 (decimal n) refl (digits_visible n last)))))
