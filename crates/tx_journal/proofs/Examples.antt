-- Worked examples of a batch.
use Rattle.std.proofs.Common.{◌≡◌, ℕ, List, [], ◌∷◌, ◌++◌, Some, None, Ok, Err, refl}
use Rattle.disk_model.specs.Disk.{overwritten}
use Rattle.tx_journal.specs.declared.format.Format.TheVariants.{One}
use Rattle.tx_journal.specs.File.{head, records, file_length, file_payloads}
use Rattle.tx_journal.specs.Pair.{generation_row}
use Rattle.tx_journal.specs.Batches.{batch_payloads, generation_with_all}

-- the payloads `a` and `bc`
abbrev pair : List (List ℕ)
pair = (97 ∷ []) ∷ (98 ∷ 99 ∷ []) ∷ []

-- a file without records
abbrev empty : List ℕ
empty = head One ++ 0 ∷ []

batch_bytes : records pair ++ 0 ∷ [] ≡ 1 ∷ 0 ∷ 0 ∷ 0 ∷ 1 ∷ 97 ∷ 1 ∷ 0 ∷ 0 ∷ 0 ∷ 2 ∷ 98 ∷ 99 ∷ 0 ∷ []
batch_bytes = refl

batch_reads_back : batch_payloads (1 ∷ 0 ∷ 0 ∷ 0 ∷ 1 ∷ 97 ∷ 1 ∷ 0 ∷ 0 ∷ 0 ∷ 2 ∷ 98 ∷ 99 ∷ 0 ∷ []) ≡ pair
batch_reads_back = refl

-- what is written behind the closed gate
abbrev text : List ℕ
text = 0 ∷ 0 ∷ 0 ∷ 1 ∷ 97 ∷ 1 ∷ 0 ∷ 0 ∷ 0 ∷ 2 ∷ 98 ∷ 99 ∷ 0 ∷ []

-- none of it counts until the first gate is open; then all of it does
closed_gate_hides_batch : file_payloads One (overwritten empty 9 text) ≡ Ok []
closed_gate_hides_batch = refl

torn_gate_hides_batch : file_payloads One (overwritten (overwritten empty 9 text) 8 (7 ∷ [])) ≡ Ok []
torn_gate_hides_batch = refl

open_gate_shows_batch : file_payloads One (overwritten (overwritten empty 9 text) 8 (1 ∷ [])) ≡ Ok pair
open_gate_shows_batch = refl

-- a gate that is opened before the records are there is damage
early_gate_is_damage : file_payloads One (head One ++ 1 ∷ []) ≡ Err 9
early_gate_is_damage = refl

-- a closed gate between the records would hide the second
closed_gate_between_hides_second : file_payloads One (head One ++ (1 ∷ 0 ∷ 0 ∷ 0 ∷ 1 ∷ 97 ∷ 0 ∷ 0 ∷ 0 ∷ 0 ∷ 2 ∷ 98 ∷ 99 ∷ 0 ∷ [])) ≡ Ok ((97 ∷ []) ∷ [])
closed_gate_between_hides_second = refl

batch_ends_at : file_length pair ≡ 22
batch_ends_at = refl

-- a batch gives its file a number only if the file has no record
generation_comes_first : generation_with_all 9 None (generation_row 3 ∷ pair) ≡ Some 3
generation_comes_first = refl

generation_comes_late : generation_with_all 15 None (generation_row 3 ∷ pair) ≡ None
generation_comes_late = refl
