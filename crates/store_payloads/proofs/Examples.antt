-- Worked examples: rows of a snapshot made at 0, and what they lead to.
use Rattle.std.proofs.Common.{◌≡◌, ℕ, Bool, true, false, List, [], ◌∷◌, Option, Some, None, refl}
use Rattle.stamp_lanes.specs.declared.answer.LaneAnswer.TheVariants as lane_answers
use Rattle.stamp_lanes.specs.declared.answer.KeptNumber.{KeptNumber}
use Rattle.store_tables.specs.declared.row.TableRow.{TableRow}
use Rattle.store_tables.specs.declared.row.TableRow.TheVariants.{Boot, Lane, State, Reminder as ReminderRow}
use Rattle.store_tables.specs.Tables.{Tables, no_tables}
use Rattle.store_tables.specs.Rows.{table_rows, restored, is_taken, is_behind, key_of}
use Rattle.wire_fields.specs.Fields.{byte, number16, number64}
use Rattle.wire_fields.specs.Parts.{space_name, node_name, boot, flag, node_place, member}
use Rattle.store_payloads.specs.Fields.{lane_answer, kept_number, kept_numbers, boot_fields, lane_fields, table_row}
use Rattle.store_payloads.specs.Payloads.{row_payload}

-- the space `s` and the node `a`
abbrev s_ : List ℕ
s_ = 115 ∷ []

abbrev a_ : List ℕ
a_ = 97 ∷ []

-- boot 1 of the node `a` of `default`
boot_bytes :
    row_payload 0 (Boot (100 ∷ 101 ∷ 102 ∷ 97 ∷ 117 ∷ 108 ∷ 116 ∷ []) a_ 1)
    ≡ 0 ∷ 0 ∷ 0 ∷ 0 ∷ 0 ∷ 0 ∷ 0 ∷ 0 ∷ 129 ∷ 7 ∷ 100 ∷ 101 ∷ 102 ∷ 97 ∷ 117 ∷ 108 ∷ 116 ∷ 1 ∷ 97 ∷ 0 ∷ 0 ∷ 0 ∷ 0 ∷ 0 ∷ 0 ∷ 0 ∷ 1 ∷ []
unfolding table_row boot_fields node_place space_name node_name boot number64 byte
boot_bytes = refl

-- the lane of part 2 of `s:a/1`, which dropped numbers up to 3 and keeps number 4, answered Done true
abbrev lane_row : TableRow
lane_row = Lane (record { space = s_; node = a_; boot = 1 }) 2 3 (record { number = 4; answer = lane_answers.Done true } ∷ [])

lane_bytes :
    row_payload 0 lane_row
    ≡ 0 ∷ 0 ∷ 0 ∷ 0 ∷ 0 ∷ 0 ∷ 0 ∷ 0 ∷ 130 ∷ 1 ∷ 115 ∷ 1 ∷ 97 ∷ 0 ∷ 0 ∷ 0 ∷ 0 ∷ 0 ∷ 0 ∷ 0 ∷ 1 ∷ 2 ∷ 0 ∷ 0 ∷ 0 ∷ 0 ∷ 0 ∷ 0 ∷ 0 ∷ 3 ∷ 0 ∷ 1 ∷ 0 ∷ 0 ∷ 0 ∷ 0 ∷ 0 ∷ 0 ∷ 0 ∷ 4 ∷ 49 ∷ 1 ∷ []
unfolding table_row lane_fields kept_numbers kept_number lane_answer member node_place space_name node_name boot flag number16 number64 byte
lane_bytes = refl

-- one node with one lane
abbrev one_node : Tables
one_node = record no_tables { nodes = record { space = s_; node = a_; boot = 1; lanes = record { part = 2; floor = 3; kept = record { number = 4; answer = lane_answers.Done true } ∷ [] } ∷ [] } ∷ [] }

-- its rows: the boot, and then the lane
rows_of_one : table_rows one_node ≡ Boot s_ a_ 1 ∷ lane_row ∷ []
rows_of_one = refl

-- a lane isn't taken in before the boot of its node, nor if it is of another boot
lane_alone : restored lane_row no_tables ≡ None
lane_alone = refl

other_boot : is_taken lane_row (record no_tables { nodes = record { space = s_; node = a_; boot = 2; lanes = [] } ∷ [] }) ≡ false
other_boot = refl

-- a second boot of one node isn't taken in
boot_twice : is_taken (Boot s_ a_ 2) one_node ≡ false
boot_twice = refl

-- a lane comes behind a boot, and no boot behind a lane
kinds_in_order : is_behind (Some (key_of (Boot s_ a_ 1))) (key_of lane_row) ≡ true
kinds_in_order = refl

kinds_turned : is_behind (Some (key_of lane_row)) (key_of (Boot s_ (98 ∷ []) 2)) ≡ false
kinds_turned = refl

-- of one kind, the key has to be a later one
key_again : is_behind (Some (key_of (Boot s_ a_ 1))) (key_of (Boot s_ a_ 1)) ≡ false
key_again = refl
