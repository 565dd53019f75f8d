-- The forms of names: which bytes each may have and how many, and the first fault of a text.
-- Own; the types and ids of actors follow the Actors API reference of Dapr.
use Rattle.std.specs.Prelude.{◌≡◌, ℕ, ◌+◌, Bool, not, ◌&&◌, ◌||◌, ◌==◌, nat_lt, if◌then◌else◌, List, [], ◌∷◌, length, take, drop, codes, Option, Some, None, option_map}
use Rattle.lists_and_limits.specs.Decimals.{is_between}
use Rattle.actor_names.specs.declared.error.NameError.{NameError}
use Rattle.actor_names.specs.declared.error.NameError.TheVariants.{Empty, TooLong, BadByte, OutOfMemory}

-- a lowercase letter, a digit or `-`: nodes and application ids
abbrev pub is_node_byte : ℕ → Bool
is_node_byte b = is_between 97 122 b || is_between 48 57 b || (b == 45)

-- a letter, a digit, `-`, `_` or `.`: actor types
abbrev pub is_type_byte : ℕ → Bool
is_type_byte b = is_between 97 122 b || is_between 65 90 b || is_between 48 57 b || (b == 45) || (b == 95) || (b == 46)

-- a visible ASCII character: chains
abbrev pub is_chain_byte : ℕ → Bool
is_chain_byte b = is_between 33 126 b

-- a visible ASCII character except `/`: actor ids and the names of records
abbrev pub is_id_byte : ℕ → Bool
is_id_byte b = is_chain_byte b && not (b == 47)

-- the place, from 0, of the first byte that fails the test
abbrev pub first_bad : (ℕ → Bool) → List ℕ → Option ℕ
first_bad ok [] = None
first_bad ok (b ∷ bs) = if ok b then option_map (λ n. n + 1) (first_bad ok bs) else Some 0

-- the first fault of a text of 1 to `most` bytes that each pass the test
abbrev pub text_fault : (ℕ → Bool) → ℕ → List ℕ → Option NameError
text_fault ok most text =
    if length text == 0 then Some Empty else (
    if nat_lt most (length text) then Some (TooLong (length text)) else
    option_map (λ n. BadByte n) (first_bad ok text)
    )

abbrev pub node_fault : List ℕ → Option NameError
node_fault text = text_fault is_node_byte 64 text

abbrev pub space_fault : List ℕ → Option NameError
space_fault text = text_fault is_node_byte 64 text

abbrev pub app_id_fault : List ℕ → Option NameError
app_id_fault text = text_fault is_node_byte 64 text

abbrev pub actor_type_fault : List ℕ → Option NameError
actor_type_fault text = text_fault is_type_byte 64 text

abbrev pub actor_id_fault : List ℕ → Option NameError
actor_id_fault text = text_fault is_id_byte 128 text

abbrev pub chain_id_fault : List ℕ → Option NameError
chain_id_fault text = text_fault is_chain_byte 128 text

abbrev pub record_name_fault : List ℕ → Option NameError
record_name_fault text = text_fault is_id_byte 128 text

-- the bytes before the first `/`, or the whole text if it has none
abbrev pub before_slash : List ℕ → List ℕ
before_slash [] = []
before_slash (b ∷ bs) = if b == 47 then [] else b ∷ before_slash bs

-- the bytes after the first `/`, if there is one
abbrev pub after_slash : List ℕ → Option (List ℕ)
after_slash [] = None
after_slash (b ∷ bs) = if b == 47 then Some bs else after_slash bs

-- a fault of a piece that begins at `start`, its place counted in the whole text
abbrev pub placed_from : ℕ → NameError → NameError
placed_from start Empty = Empty
placed_from start (TooLong n) = TooLong n
placed_from start (BadByte at) = BadByte (start + at)
placed_from start OutOfMemory = OutOfMemory

-- the fault of the piece after the slash; without a slash, a byte is missing at the text's end
abbrev pub second_fault : (List ℕ → Option NameError) → List ℕ → Option (List ℕ) → Option NameError
second_fault fault text None = Some (BadByte (length text))
second_fault fault text (Some rest) = option_map (placed_from (length (before_slash text) + 1)) (fault rest)

-- the first fault of `TYPE/ID`, type before id
abbrev pub first_of_two : Option NameError → Option NameError → Option NameError
first_of_two None later = later
first_of_two (Some e) later = Some e

-- an actor's text within a space, `TYPE/ID`
abbrev pub local_key_fault : List ℕ → Option NameError
local_key_fault text = first_of_two (actor_type_fault (before_slash text)) (second_fault actor_id_fault text (after_slash text))

-- ---- a space before a colon

-- the space of everything that is named without one
abbrev pub default_space : List ℕ
default_space = codes "default"

-- the place of the colon that ends a space: the first colon, if no `/` comes before it
abbrev pub space_end : List ℕ → Option ℕ
space_end [] = None
space_end (b ∷ bs) = if b == 58 then Some 0 else (if b == 47 then None else option_map (λ n. n + 1) (space_end bs))

-- the space of a text, and what follows it
abbrev pub space_at : List ℕ → Option ℕ → List ℕ
space_at text None = default_space
space_at text (Some n) = take n text

abbrev pub local_at : List ℕ → Option ℕ → List ℕ
local_at text None = text
local_at text (Some n) = drop (n + 1) text

abbrev pub space_in : List ℕ → List ℕ
space_in text = space_at text (space_end text)

abbrev pub local_in : List ℕ → List ℕ
local_in text = local_at text (space_end text)

-- the first fault of a text that may have a space and a colon before it, the space first
abbrev pub spaced_fault_at : (List ℕ → Option NameError) → List ℕ → Option ℕ → Option NameError
spaced_fault_at fault text None = fault text
spaced_fault_at fault text (Some n) = first_of_two (space_fault (take n text)) (option_map (placed_from (n + 1)) (fault (drop (n + 1) text)))

abbrev pub spaced_fault : (List ℕ → Option NameError) → List ℕ → Option NameError
spaced_fault fault text = spaced_fault_at fault text (space_end text)

-- `TYPE/ID` or `SPACE:TYPE/ID`
abbrev pub key_fault : List ℕ → Option NameError
key_fault text = spaced_fault local_key_fault text

-- a text without a fault of its form; a definition of its own, so that proofs about other things don't unfold it
unfoldable pub HasForm : (List ℕ → Option NameError) → List ℕ → Type 0
HasForm fault text = fault text ≡ None
