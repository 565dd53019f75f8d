-- Worked bytes.
use Rattle.std.proofs.Common.{◌≡◌, ℕ, false, List, [], ◌∷◌, ◌++◌, Ok, Err, refl, lit≤}
use Rattle.disk_model.specs.Disk.{DiskState, MayLeave, fresh, changed, flushed, overwritten}
use Rattle.disk_model.specs.declared.change.Change.TheVariants.{Over}
use Rattle.tx_journal.specs.declared.format.Format.TheVariants.{One, Two}
use Rattle.tx_journal.specs.File.{image, spelled, framed, file_image, journal_payloads, is_made}

-- `hi`
abbrev hi : List ℕ
hi = 104 ∷ 105 ∷ []

-- a new file
abbrev new : List ℕ
new = 1 ∷ 65 ∷ 67 ∷ 84 ∷ 74 ∷ 82 ∷ 78 ∷ 49 ∷ 0 ∷ []

-- 014143544a524e310100000002686900
abbrev one : List ℕ
one = 1 ∷ 65 ∷ 67 ∷ 84 ∷ 74 ∷ 82 ∷ 78 ∷ 49 ∷ 1 ∷ 0 ∷ 0 ∷ 0 ∷ 2 ∷ 104 ∷ 105 ∷ 0 ∷ []

append_of_hi_leaves_these_bytes : spelled One (hi ∷ []) ++ 0 ∷ [] ≡ one
append_of_hi_leaves_these_bytes = refl

new_file_has_no_records : journal_payloads new ≡ Ok []
new_file_has_no_records = refl

one_record_is_read : journal_payloads one ≡ Ok (hi ∷ [])
one_record_is_read = refl

-- the name of a file tells its format; a file of its own has the first
first_name_tells_first : file_image Two one ≡ Ok (image One (hi ∷ []))
first_name_tells_first = refl

second_name_tells_second : file_image Two (spelled Two [] ++ 0 ∷ []) ≡ Ok (image Two [])
second_name_tells_second = refl

second_name_is_other_alone : file_image One (spelled Two [] ++ 0 ∷ []) ≡ Err 1
second_name_is_other_alone = refl

-- the four calls of the append, and the bytes that a read gives after each
first_write : overwritten new 9 (framed hi ++ 0 ∷ []) ≡ 1 ∷ 65 ∷ 67 ∷ 84 ∷ 74 ∷ 82 ∷ 78 ∷ 49 ∷ 0 ∷ 0 ∷ 0 ∷ 0 ∷ 2 ∷ 104 ∷ 105 ∷ 0 ∷ []
first_write = refl

second_write : overwritten (overwritten new 9 (framed hi ++ 0 ∷ [])) 8 (1 ∷ []) ≡ one
second_write = refl

-- anything may follow a closed gate; every gate other than 1 is closed
closed_gate_ends : journal_payloads (1 ∷ 65 ∷ 67 ∷ 84 ∷ 74 ∷ 82 ∷ 78 ∷ 49 ∷ 7 ∷ 1 ∷ 2 ∷ 3 ∷ []) ≡ Ok []
closed_gate_ends = refl

-- damaged: not made, another name, a gate that is missing, a length that is cut or that passes the end
not_made : journal_payloads (0 ∷ 65 ∷ []) ≡ Err 0
not_made = refl

one_byte_is_not_made : is_made (1 ∷ []) ≡ false
one_byte_is_not_made = refl

other_name : journal_payloads (1 ∷ 65 ∷ 67 ∷ []) ≡ Err 1
other_name = refl

first_gate_missing : journal_payloads (1 ∷ 65 ∷ 67 ∷ 84 ∷ 74 ∷ 82 ∷ 78 ∷ 49 ∷ []) ≡ Err 8
first_gate_missing = refl

length_is_cut : journal_payloads (1 ∷ 65 ∷ 67 ∷ 84 ∷ 74 ∷ 82 ∷ 78 ∷ 49 ∷ 1 ∷ 0 ∷ 0 ∷ []) ≡ Err 9
length_is_cut = refl

payload_passes_end : journal_payloads (1 ∷ 65 ∷ 67 ∷ 84 ∷ 74 ∷ 82 ∷ 78 ∷ 49 ∷ 1 ∷ 0 ∷ 0 ∷ 0 ∷ 2 ∷ 104 ∷ []) ≡ Err 9
payload_passes_end = refl

second_gate_missing : journal_payloads (1 ∷ 65 ∷ 67 ∷ 84 ∷ 74 ∷ 82 ∷ 78 ∷ 49 ∷ 1 ∷ 0 ∷ 0 ∷ 0 ∷ 2 ∷ 104 ∷ 105 ∷ []) ≡ Err 15
second_gate_missing = refl

-- the disk after a write that isn't synced: its torn range may be empty, and a crash may leave the old bytes
written : DiskState
written = changed (fresh new) (Over 9 7) (overwritten new 9 (framed hi ++ 0 ∷ []))

may_be_lost : MayLeave (changed (fresh new) (Over 9 7) (overwritten new 9 (framed hi ++ 0 ∷ []))).instant new
may_be_lost = (new, record { before = refl; after = refl; no_shorter = lit≤ tt; no_longer = lit≤ tt }, refl)

synced_stays : (flushed (changed (fresh new) (Over 9 7) one)).instant ≡ record { synced = one; pending = [] }
synced_stays = refl
