-- What a file of records stands for.
use Rattle.std.proofs.Common.{◌≡◌, ◌≢◌, ℕ, zero, suc, ◌+◌, ◌-◌, ◌≤◌, Bool, true, false, cond, ◌||◌, List, [], ◌∷◌, ◌++◌, length, take, drop, Result, Ok, Err, refl, ◌∙◌, ap, arith, append_assoc, length-append}
use Rattle.std.specs.Prelude.{nat_lt}
use Rattle.std.proofs.lemmas.Bool.{le-ltb}
use Rattle.std.proofs.lemmas.Bool.Decides.{nat_tests}
use Rattle.std.proofs.lemmas.List.{take_at, drop_at}
use Rattle.std.proofs.lemmas.Nat.{from_be_bytes-to_be_bytes_4}
use Rattle.std.specs.List.{AllByRecursion}
use Rattle.std.specs.Int.{w32, to_be_bytes}
use Rattle.tx_journal.specs.declared.format.Format.{Format}
use Rattle.tx_journal.specs.File.{name, framed, records, spelled, longest, IsShort, with_front, length_of, is_cut, payloads_from, is_known, file_payloads}

pub length-framed : (payload : List ℕ) → length (framed payload) ≡ 4 + length payload
length-framed payload = length-append (to_be_bytes w32 (length payload)) payload

pub length_is : (payload rest : List ℕ) → IsShort payload → length_of (framed payload ++ rest) ≡ length payload
length_is payload rest short = from_be_bytes-to_be_bytes_4 (length payload) (omega (arith, short))

not_cut : (rest : List ℕ) (n : ℕ) → length_of rest ≡ n → n ≤ longest → 4 + n ≤ length rest → is_cut rest ≡ false
not_cut rest n is short long =
    let a : nat_lt (length rest) 4 ≡ false = le-ltb _ _ (omega (arith, long)) in
    let b : nat_lt longest (length_of rest) ≡ false = le-ltb _ _ (omega (arith, is, short)) in
    let c : nat_lt (length rest) (4 + length_of rest) ≡ false = le-ltb _ _ (omega (arith, is, long)) in
    ap (λ (x : Bool). x || nat_lt longest (length_of rest) || nat_lt (length rest) (4 + length_of rest)) a
    ∙ ap (λ (x : Bool). x || nat_lt (length rest) (4 + length_of rest)) b ∙ c

-- one whole record
pub record_step : (most at : ℕ) (rest payload behind : List ℕ) (n : ℕ) → length_of rest ≡ n → is_cut rest ≡ false → take n (drop 4 rest) ≡ payload → drop (4 + n) rest ≡ behind → payloads_from (suc most) at (1 ∷ rest) ≡ with_front payload (payloads_from most (at + 5 + n) behind)
record_step most at rest payload behind n len cut front back =
    ap (λ (b : Bool). cond b (Err (at + 1)) (with_front (take (length_of rest) (drop 4 rest)) (payloads_from most (at + 5 + length_of rest) (drop (4 + length_of rest) rest)))) cut
    ∙ ap (λ (k : ℕ). with_front (take k (drop 4 rest)) (payloads_from most (at + 5 + k) (drop (4 + k) rest))) len
    ∙ ap (λ (l : List ℕ). with_front l (payloads_from most (at + 5 + n) (drop (4 + n) rest))) front
    ∙ ap (λ (l : List ℕ). with_front payload (payloads_from most (at + 5 + n) l)) back

pub one_record : (most at : ℕ) (payload rest : List ℕ) → IsShort payload → payloads_from (suc most) at (1 ∷ framed payload ++ rest) ≡ with_front payload (payloads_from most (at + 5 + length payload) rest)
one_record most at payload rest short =
    let whole : framed payload ++ rest ≡ to_be_bytes w32 (length payload) ++ (payload ++ rest) = append_assoc (to_be_bytes w32 (length payload)) payload rest in
    let body : drop 4 (framed payload ++ rest) ≡ payload ++ rest = ap (λ (l : List ℕ). drop 4 l) whole in
    record_step most at (framed payload ++ rest) payload rest (length payload)
    (length_is payload rest short)
    (not_cut (framed payload ++ rest) (length payload) (length_is payload rest short) short (omega (arith, length-append (framed payload) rest, length-framed payload)))
    (ap (λ (l : List ℕ). take (length payload) l) body ∙ take_at payload rest (length payload) refl)
    (drop_at (framed payload) rest (4 + length payload) (length-framed payload))

abbrev pub with_fronts : List (List ℕ) → Result (List (List ℕ)) ℕ → Result (List (List ℕ)) ℕ
with_fronts [] read = read
with_fronts (payload ∷ payloads) read = with_front payload (with_fronts payloads read)

-- this number, raised by one for each payload
abbrev pub up : List (List ℕ) → ℕ → ℕ
up [] more = more
up (payload ∷ payloads) more = suc (up payloads more)

pub up_is : (payloads : List (List ℕ)) (more : ℕ) → up payloads more ≡ length payloads + more
up_is [] more = omega arith
up_is (payload ∷ payloads) more = omega (arith, up_is payloads more)

-- whole records, and what follows them
pub all_records : (payloads : List (List ℕ)) (more at : ℕ) (rest : List ℕ) → AllByRecursion IsShort payloads → payloads_from (up payloads more) at (records payloads ++ rest) ≡ with_fronts payloads (payloads_from more (at + length (records payloads)) rest)
all_records [] more at rest short = let e : at ≡ at + 0 = omega arith in ap (λ (k : ℕ). payloads_from more k rest) e
all_records (payload ∷ payloads) more at rest short =
    let whole : records (payload ∷ payloads) ++ rest ≡ 1 ∷ (framed payload ++ (records payloads ++ rest)) = ap (λ (l : List ℕ). 1 ∷ l) (append_assoc (framed payload) (records payloads) rest) in
    let size : at + 5 + length payload + length (records payloads) ≡ at + length (records (payload ∷ payloads)) = omega (arith, length-append (framed payload) (records payloads), length-framed payload) in
    ap (λ (l : List ℕ). payloads_from (suc (up payloads more)) at l) whole
    ∙ one_record (up payloads more) at payload (records payloads ++ rest) short.0
    ∙ ap (with_front payload) (all_records payloads more (at + 5 + length payload) rest short.1)
    ∙ ap (λ (k : ℕ). with_front payload (with_fronts payloads (payloads_from more k rest))) size

pub count_records : (payloads : List (List ℕ)) → length payloads ≤ length (records payloads)
count_records [] = omega arith
count_records (payload ∷ payloads) = omega (arith, count_records payloads, length-append (framed payload) (records payloads))

-- a made file with a known name stands for its records and what follows them
pub image_split : (newest format : Format) (payloads : List (List ℕ)) (rest : List ℕ) → is_known newest (name format) ≡ true → AllByRecursion IsShort payloads
    → (more : ℕ) × (1 ≤ more) × (file_payloads newest (spelled format payloads ++ rest) ≡ with_fronts payloads (payloads_from more (length (spelled format payloads)) rest))
image_split newest format payloads rest known short =
    let file = spelled format payloads ++ rest in
    let more = suc (length file) - length payloads in
    let size : length file ≡ 8 + length (records payloads) + length rest = omega (arith, length-append (records payloads) rest) in
    let most : suc (length file) ≡ up payloads more = omega (arith, up_is payloads more, count_records payloads, size) in (
      more,
      omega (arith, count_records payloads, size),
      ap (λ (b : Bool). cond b (payloads_from (suc (length file)) 8 (records payloads ++ rest)) (Err 1)) known
          ∙ ap (λ (k : ℕ). payloads_from k 8 (records payloads ++ rest)) most ∙ all_records payloads more 8 rest short ∙ ap (λ (k : ℕ). with_fronts payloads (payloads_from more k rest)) (omega arith),
    )

pub fronts_end : (payloads : List (List ℕ)) → with_fronts payloads (Ok []) ≡ Ok payloads
fronts_end [] = refl
fronts_end (payload ∷ payloads) = ap (with_front payload) (fronts_end payloads)

pub fronts_fail : (payloads : List (List ℕ)) (offset : ℕ) → with_fronts payloads (Err offset) ≡ Err offset
fronts_fail [] offset = refl
fronts_fail (payload ∷ payloads) offset = ap (with_front payload) (fronts_fail payloads offset)

pub shut_end : (more at gate : ℕ) (rest : List ℕ) → 1 ≤ more → gate ≢ 1 → payloads_from more at (gate ∷ rest) ≡ Ok []
shut_end zero at gate rest some shut = absurd (omega arith)
shut_end (suc more) at gate rest some shut = grind (arith, nat_tests)

-- a closed gate ends them, whatever follows it
pub image_closed : (newest format : Format) (payloads : List (List ℕ)) (gate : ℕ) (rest : List ℕ) → is_known newest (name format) ≡ true → AllByRecursion IsShort payloads → gate ≢ 1 → file_payloads newest (spelled format payloads ++ gate ∷ rest) ≡ Ok payloads
image_closed newest format payloads gate rest known short shut =
    let split = image_split newest format payloads (gate ∷ rest) known short in
    split.2 ∙ ap (with_fronts payloads) (shut_end split.0 (length (spelled format payloads)) gate rest split.1 shut) ∙ fronts_end payloads
