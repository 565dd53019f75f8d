-- The words that only the lines of cluster scripts have. Own: docs/scripts.md.
use Rattle.std.specs.Prelude.{ℕ, ◌+◌, ◌^◌, Bool, true, not, ◌&&◌, ◌==◌, nat_le, if◌then◌else◌, List, [], ◌∷◌, length, bytes_eq, codes, Option, None, Some, is_none, unwrap_or, option_map, option_and_then, Result, Ok, Err}
use Rattle.std.specs.List.{list_any, list_all}
use Rattle.actor_names.specs.declared.actor_key.ActorKey.{ActorKey}
use Rattle.actor_names.specs.declared.member.Member.{Member}
use Rattle.actor_names.specs.Names.{node_fault, space_fault, actor_type_fault, before_slash, after_slash, default_space, space_in, local_in}
use Rattle.actor_names.specs.Numerals.{member_fault}
use Rattle.lists_and_limits.specs.Decimals.{number_of}
use Rattle.script_text.specs.Lines.{Word}
use Rattle.script_text.specs.Reading.{number_in, some_number, next_as, only_as}

abbrev pub node_in : List ℕ → Option (List ℕ)
node_in text = if is_none (node_fault text) then Some text else None

-- `NODE/BOOT` in the space `default`, or `SPACE:NODE/BOOT`; the boot is from 1 to 2^62
abbrev pub member_of : List ℕ → Option ℕ → Option Member
member_of text boot = option_map (λ n. record { space = space_in text; node = before_slash (local_in text); boot = n }) boot

abbrev pub member_in : List ℕ → Option Member
member_in text = if is_none (member_fault text) then member_of text (option_and_then (number_of (2 ^ 62)) (after_slash (local_in text))) else None

-- the key that a text `TYPE/ID` names in a space
abbrev pub key_of : List ℕ → List ℕ → ActorKey
key_of space text = record { space = space; kind = before_slash text; id = unwrap_or (after_slash text) [] }

-- the pieces between commas
abbrev pub onto_first_piece : ℕ → List (List ℕ) → List (List ℕ)
onto_first_piece b [] = (b ∷ []) ∷ []
onto_first_piece b (piece ∷ pieces) = (b ∷ piece) ∷ pieces

abbrev pub pieces_of : List ℕ → List (List ℕ)
pieces_of [] = [] ∷ []
pieces_of (b ∷ bs) = if b == 44 then [] ∷ pieces_of bs else onto_first_piece b (pieces_of bs)

abbrev pub are_different : List (List ℕ) → Bool
are_different [] = true
are_different (piece ∷ pieces) = not (list_any (bytes_eq piece) pieces) && are_different pieces

abbrev pub is_type : List ℕ → Bool
is_type text = is_none (actor_type_fault text)

-- different types, no more than 32 with the `n` before them
abbrev pub are_types_behind : ℕ → List (List ℕ) → Bool
are_types_behind n kinds = list_all is_type kinds && (are_different kinds && nat_le (n + length kinds) 32)

-- 1 to 32 different types, joined by commas
abbrev pub are_boot_types : List ℕ → Bool
are_boot_types text = are_types_behind 0 (pieces_of text)

abbrev pub boot_types_in : List ℕ → Option (List (List ℕ))
boot_types_in text = if are_boot_types text then Some (pieces_of text) else None

abbrev pub space_named : List ℕ → Option (List ℕ)
space_named text = if is_none (space_fault text) then Some text else None

-- nothing, which means the space `default`, or `space` and a space; and nothing more
abbrev pub space_clause : ℕ → List Word → Result (List ℕ) ℕ
space_clause past [] = Ok default_space
space_clause past (word ∷ words) = if bytes_eq word.text (codes "space") then only_as space_named past words else Err word.column

-- how many parts a member has: 1 to 16
abbrev pub parts_in : List ℕ → Option ℕ
parts_in text = option_and_then some_number (number_of 16 text)

-- nothing, which means 0, or `least` and a version; any other word is left for what follows
abbrev pub least_clause : ℕ → List Word → Result (ℕ × List Word) ℕ
least_clause past [] = Ok (0, [])
least_clause past (word ∷ words) = if bytes_eq word.text (codes "least") then next_as number_in past words else Ok (0, word ∷ words)
