-- The words of a line, read one after another, and the lines that set what holds for a whole script. Own: docs/scripts.md.
use Rattle.std.specs.Prelude.{ℕ, ◌+◌, Bool, true, ◌==◌, nat_lt, if◌then◌else◌, List, [], ◌∷◌, length, bytes_eq, codes, Option, None, Some, is_none, option_and_then, Result, Ok, Err}
use Rattle.actor_names.specs.Names.{actor_type_fault, chain_id_fault, local_key_fault}
use Rattle.lists_and_limits.specs.Decimals.{number_of}
use Rattle.script_text.specs.Lines.{Word, words_from}

abbrev pub greatest_number : ℕ
greatest_number = 999999999999

abbrev pub longest_script_line : ℕ
longest_script_line = 4096

infixl 10 ◌>>=◌
abbrev pub ◌>>=◌ : {A B : Type 0} → Result A ℕ → (A → Result B ℕ) → Result B ℕ
(Ok x) >>= f = f x
(Err column) >>= f = Err column

-- a number from 0 to 999,999,999,999
abbrev pub number_in : List ℕ → Option ℕ
number_in text = number_of greatest_number text

-- a number that isn't 0
abbrev pub some_number : ℕ → Option ℕ
some_number n = if n == 0 then None else Some n

-- a depth: 1 to 1,024
abbrev pub depth_in : List ℕ → Option ℕ
depth_in text = option_and_then some_number (number_of 1024 text)

-- a text without fault is its own value; a key is written without its space
abbrev pub key_in : List ℕ → Option (List ℕ)
key_in text = if is_none (local_key_fault text) then Some text else None

abbrev pub kind_in : List ℕ → Option (List ℕ)
kind_in text = if is_none (actor_type_fault text) then Some text else None

abbrev pub chain_in : List ℕ → Option (List ℕ)
chain_in text = if is_none (chain_id_fault text) then Some text else None

-- a word's value and the words after it; a malformed word is refused at its column
abbrev pub word_value : {A : Type 0} → Word → List Word → Option A → Result (A × List Word) ℕ
word_value word words None = Err word.column
word_value word words (Some value) = Ok (value, words)

-- the next word, read by this function; a missing word is refused one past the line's end
abbrev pub next_as : {A : Type 0} → (List ℕ → Option A) → ℕ → List Word → Result (A × List Word) ℕ
next_as read past [] = Err past
next_as read past (word ∷ words) = word_value word words (read word.text)

-- the column of the next word, or one past the line's end
abbrev pub next_column : ℕ → List Word → ℕ
next_column past [] = past
next_column past (word ∷ words) = word.column

-- nothing more may follow in the line
abbrev pub ending_with : {A : Type 0} → A → List Word → Result A ℕ
ending_with value [] = Ok value
ending_with value (word ∷ words) = Err word.column

-- one word, read by this function, and nothing more
abbrev pub only_as : {A : Type 0} → (List ℕ → Option A) → ℕ → List Word → Result A ℕ
only_as read past words = next_as read past words >>= λ value. ending_with value.0 value.1

-- nothing, or `chain` and a chain's identifier
abbrev pub chain_clause : ℕ → List Word → Result (Option (List ℕ) × List Word) ℕ
chain_clause past [] = Ok (None, [])
chain_clause past (word ∷ words) =
    if bytes_eq word.text (codes "chain") then (next_as chain_in past words >>= λ chain. Ok (Some chain.0, chain.1)) else Err word.column

-- what holds for a whole script; the column of a type is that of its word, where a second depth for it is refused
pub data Setting : Type 0 where
  Reentrant : (column : ℕ) → (kind : List ℕ) → (depth : ℕ) → Setting
  Idle : (ms : ℕ) → Setting
  Drain : (ms : ℕ) → Setting

abbrev pub reentrant_line : ℕ → List Word → Result Setting ℕ
reentrant_line past words =
    next_as kind_in past words >>= λ kind.
    next_as depth_in past kind.1 >>= λ depth.
    ending_with (Reentrant (next_column past words) kind.0 depth.0) depth.1

-- A setting by its first word; any other word isn't allowed there, not even `cluster`.
abbrev pub setting_by : ℕ → List ℕ → List Word → Result Setting ℕ
setting_by past first words =
    if bytes_eq first (codes "reentrant") then reentrant_line past words else (
    if bytes_eq first (codes "idle") then (only_as number_in past words >>= λ ms. Ok (Idle ms)) else (
    if bytes_eq first (codes "drain") then (only_as number_in past words >>= λ ms. Ok (Drain ms)) else
    Err 1))

-- Settings come before all events: a late one is refused at column 1.
abbrev pub setting_unless : Bool → ℕ → List ℕ → List Word → Result Setting ℕ
setting_unless late past first words = if late then Err 1 else setting_by past first words

-- an empty line, or one that begins with `#`
abbrev pub is_blank : List ℕ → Bool
is_blank [] = true
is_blank (b ∷ bs) = b == 35

-- a line by its first word and the words after it
abbrev pub by_first_word : {A : Type 0} → (ℕ → List ℕ → List Word → Result A ℕ) → ℕ → List Word → Result A ℕ
by_first_word line past [] = Err past
by_first_word line past (word ∷ words) = line past word.text words

-- A line's length is tested first; a blank line says nothing.
abbrev pub line_by_words : {A : Type 0} → A → (ℕ → List ℕ → List Word → Result A ℕ) → List ℕ → Result A ℕ
line_by_words blank by line =
    if nat_lt longest_script_line (length line) then Err (longest_script_line + 1) else (
    if is_blank line then Ok blank else
    by_first_word by (length line + 1) (words_from 1 line))
