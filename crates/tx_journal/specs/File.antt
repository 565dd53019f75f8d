-- The file of a journal and the payloads that it stands for: own.
use Rattle.std.specs.Prelude.{◌≡◌, ◌≤◌, ◌⊎◌, ℕ, zero, suc, ◌+◌, Bool, true, false, ◌&&◌, ◌||◌, List, [], ◌∷◌, ◌++◌, length, take, drop, Result, Ok, Err, nat_lt, ◌==◌, if◌then◌else◌}
use Rattle.std.specs.Int.{w32, from_be_bytes, to_be_bytes}
use Rattle.tx_journal.specs.declared.format.Format.{Format}
use Rattle.tx_journal.specs.declared.format.Format.TheVariants.{One, Two}

-- the digit that ends the name of a file of this format
abbrev pub digit : Format → ℕ
digit One = 49
digit Two = 50

-- the seven characters ACTJRN1 or ACTJRN2
abbrev pub name : Format → List ℕ
name format = 65 ∷ 67 ∷ 84 ∷ 74 ∷ 82 ∷ 78 ∷ digit format ∷ []

-- the file's own gate, open, and then the name
abbrev pub head : Format → List ℕ
head format = 1 ∷ name format

-- a payload behind its length
abbrev pub framed : List ℕ → List ℕ
framed payload = to_be_bytes w32 (length payload) ++ payload

-- records of these payloads, each behind its open gate
abbrev pub records : List (List ℕ) → List ℕ
records [] = []
records (payload ∷ payloads) = 1 ∷ framed payload ++ records payloads

-- a file of these payloads, up to but without the gate behind the last one
abbrev pub spelled : Format → List (List ℕ) → List ℕ
spelled format payloads = head format ++ records payloads

-- how long a file of these payloads is, up to and with the closed gate behind the last one
abbrev pub file_length : List (List ℕ) → ℕ
file_length [] = 9
file_length (payload ∷ payloads) = file_length payloads + 5 + length payload

-- the most bytes of a payload
abbrev pub longest : ℕ
longest = 5242880

-- the most bytes of a file
abbrev pub most_bytes : ℕ
most_bytes = 1073741824

-- the payload isn't too long for a record
abbrev pub IsShort : List ℕ → Type 0
IsShort payload = length payload ≤ longest

-- whether these are the same bytes
abbrev pub same_bytes : List ℕ → List ℕ → Bool
same_bytes [] [] = true
same_bytes [] (y ∷ ys) = false
same_bytes (x ∷ xs) [] = false
same_bytes (x ∷ xs) (y ∷ ys) = x == y && same_bytes xs ys

-- this payload in front of those that were read
abbrev pub with_front : List ℕ → Result (List (List ℕ)) ℕ → Result (List (List ℕ)) ℕ
with_front payload (Ok payloads) = Ok (payload ∷ payloads)
with_front payload (Err offset) = Err offset

-- the length that is written behind a gate
abbrev pub length_of : List ℕ → ℕ
length_of rest = from_be_bytes w32 (take 4 rest)

-- behind a gate there is no whole length, or one that is too great or passes the end
abbrev pub is_cut : List ℕ → Bool
is_cut rest = nat_lt (length rest) 4 || nat_lt longest (length_of rest) || nat_lt (length rest) (4 + length_of rest)

-- The payloads from the gate at this offset on, up to the first gate that isn't 1; or the offset of a gate that is
-- missing, or of a length that is cut, too great or past the end. The first number is the most gates to look at.
abbrev pub payloads_from : ℕ → ℕ → List ℕ → Result (List (List ℕ)) ℕ
payloads_from zero at bytes = Err at
payloads_from (suc most) at [] = Err at
payloads_from (suc most) at (gate ∷ rest) =
    if gate == 1 then
    (if is_cut rest then Err (at + 1) else with_front (take (length_of rest) (drop 4 rest)) (payloads_from most (at + 5 + length_of rest) (drop (4 + length_of rest) rest)))
    else
    Ok []

-- a file is made if it has at least two bytes and the first is 1
abbrev pub is_made : List ℕ → Bool
is_made [] = false
is_made (gate ∷ []) = false
is_made (gate ∷ next ∷ rest) = gate == 1

-- the same as a proposition
abbrev pub FileMade : List ℕ → Type 0
FileMade file = is_made file ≡ true

-- a file with its gate open
abbrev pub opened : List ℕ → List ℕ
opened [] = []
opened (gate ∷ rest) = 1 ∷ rest

-- whether a journal that knows the formats up to this one knows this name; one that knows the second knows the first
abbrev pub is_known : Format → List ℕ → Bool
is_known One text = same_bytes text (name One)
is_known Two text = same_bytes text (name One) || same_bytes text (name Two)

-- The payloads that a file stands for to a journal that knows the formats up to this one, or the offset at which it is
-- damaged: 0 if it isn't made, 1 if it has another name.
abbrev pub file_payloads : Format → List ℕ → Result (List (List ℕ)) ℕ
file_payloads newest file =
    if is_made file then
    (if is_known newest (take 7 (drop 1 file)) then payloads_from (suc (length file)) 8 (drop 8 file) else Err 1)
    else
    Err 0

-- a file as it is read: the format that its name tells, and its payloads
pub record Image : Type 0 where
  pub format : Format
  pub payloads : List (List ℕ)

abbrev pub image : Format → List (List ℕ) → Image
image format payloads = record { format = format; payloads = payloads }

-- the same with one more payload
abbrev pub with_payload : List ℕ → Image → Image
with_payload payload i = image i.format (i.payloads ++ payload ∷ [])

-- the format of which a known name is
abbrev pub format_of : List ℕ → Format
format_of text = if same_bytes text (name Two) then Two else One

-- payloads that were read of a file of this format
abbrev pub in_format : Format → Result (List (List ℕ)) ℕ → Result Image ℕ
in_format format (Ok payloads) = Ok (image format payloads)
in_format format (Err offset) = Err offset

-- what a file stands for to a journal that knows the formats up to this one, or the offset at which it is damaged
abbrev pub file_image : Format → List ℕ → Result Image ℕ
file_image newest file = in_format (format_of (take 7 (drop 1 file))) (file_payloads newest file)

-- the payloads of a file of its own, which has the first format
abbrev pub journal_payloads : List ℕ → Result (List (List ℕ)) ℕ
journal_payloads file = file_payloads One file

-- the file stands for these payloads
abbrev pub JournalImage : Format → List (List ℕ) → List ℕ → Type 0
JournalImage newest payloads file = file_payloads newest file ≡ Ok payloads

-- the file stands for the payloads, with one more or without it
abbrev pub IsBeforeOrAfter : Format → List (List ℕ) → List ℕ → List ℕ → Type 0
IsBeforeOrAfter newest payloads payload file = JournalImage newest payloads file ⊎ JournalImage newest (payloads ++ payload ∷ []) file

-- the file isn't made, or it is and has no record
abbrev pub IsEmptyOrUnmade : Format → List ℕ → Type 0
IsEmptyOrUnmade newest file = (is_made file ≡ false) ⊎ JournalImage newest [] file

-- what a file of these bytes may become while it is made: it isn't made, or it is and has no record; and it isn't longer
-- than a journal takes, if it wasn't before
abbrev pub IsBeingMade : Format → List ℕ → List ℕ → Type 0
IsBeingMade newest bytes file = IsEmptyOrUnmade newest file × (length bytes ≤ most_bytes → length file ≤ most_bytes)
