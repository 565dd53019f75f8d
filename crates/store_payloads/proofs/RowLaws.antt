-- Rows are read as they are spelled.
use Rattle.std.proofs.Common.{◌≡◌, ℕ, List, [], ◌∷◌, refl}
use Rattle.stamp_lanes.specs.declared.answer.LaneAnswer.TheVariants as lane_answers
use Rattle.store_tables.specs.declared.row.TableRow.TheVariants.{Boot, Lane, State, Reminder as ReminderRow}
use Rattle.wire_fields.specs.Fields.{row_of, both, byte, number16, number64, maybe}
use Rattle.wire_fields.proofs.FieldLaws.{IsField, byte_law, number16_law, number64_law, both_law, seen_law, counted_law, maybe_law, row_takes, row_again, AllTake, RowsAgain, rows_take, tagged_law}
use Rattle.wire_fields.proofs.PartLaws.{boot_law, flag_law, node_place_law, member_law, actor_law, record_name_law}
use Rattle.wire_fields.proofs.RecordLaws.{text_law, blob_law, next_law, reminder_law}
use Rattle.store_payloads.specs.Fields.{answer_tag, answer_fields, AnswerFits, answer_rows, lane_answer, number_parts, number_of, kept_number, kept_numbers, boot_fields, lane_fields, entry_parts, entry_of, state_fields, reminder_fields, row_tag, row_fields, RowFits, row_kinds, table_row}

-- ---- the numbers of a lane

answer_takes : AllTake answer_tag answer_fields AnswerFits answer_rows
answer_takes = (
  row_takes answer_tag answer_fields AnswerFits 49 (λ existed. lane_answers.Done existed) flag_law (λ existed. refl) (λ existed. refl) (λ existed h. h),
  (row_takes answer_tag answer_fields AnswerFits 54 (λ n. lane_answers.NextIs n) next_law (λ n. refl) (λ n. refl) (λ n h. h), tt),
)

answer_again : RowsAgain answer_tag answer_fields AnswerFits (row_of answer_rows)
answer_again (lane_answers.Done existed) rest h = row_again (λ e. lane_answers.Done e) flag_law existed rest h
answer_again (lane_answers.NextIs n) rest h = row_again (λ m. lane_answers.NextIs m) next_law n rest h

pub lane_answer_law : IsField lane_answer
unfolding lane_answer
lane_answer_law = tagged_law answer_tag answer_fields AnswerFits (row_of answer_rows) (rows_take answer_tag answer_fields AnswerFits answer_rows answer_takes) answer_again

pub kept_number_law : IsField kept_number
unfolding kept_number
kept_number_law = seen_law number_parts number_of (both_law number64_law lane_answer_law) (λ p h. refl) (λ k. refl)

pub kept_numbers_law : IsField kept_numbers
unfolding kept_numbers
kept_numbers_law = counted_law number16_law (λ b. kept_number_law) (λ b k. refl)

-- ---- the fields of each kind

boot_fields_law : IsField boot_fields
unfolding boot_fields
boot_fields_law = both_law node_place_law boot_law

lane_fields_law : IsField lane_fields
unfolding lane_fields
lane_fields_law = both_law member_law (both_law byte_law (both_law number64_law kept_numbers_law))

state_fields_law : IsField state_fields
unfolding state_fields
state_fields_law = seen_law entry_parts entry_of (both_law actor_law (both_law text_law (both_law blob_law (maybe_law number64_law)))) (λ p h. refl) (λ e. refl)

reminder_fields_law : IsField reminder_fields
unfolding reminder_fields
reminder_fields_law = both_law actor_law (both_law record_name_law reminder_law)

-- ---- rows

row_takes_all : AllTake row_tag row_fields RowFits row_kinds
row_takes_all = (
  row_takes row_tag row_fields RowFits 129 (λ p. Boot p.0.0 p.0.1 p.1) boot_fields_law (λ p. refl) (λ p. refl) (λ p h. h),
  (
    row_takes row_tag row_fields RowFits 130 (λ p. Lane p.0 p.1.0 p.1.1.0 p.1.1.1) lane_fields_law (λ p. refl) (λ p. refl) (λ p h. h),
    (
      row_takes row_tag row_fields RowFits 131 (λ e. State e) state_fields_law (λ e. refl) (λ e. refl) (λ e h. h),
      (row_takes row_tag row_fields RowFits 132 (λ p. ReminderRow p.0 p.1.0 p.1.1) reminder_fields_law (λ p. refl) (λ p. refl) (λ p h. h), tt),
    ),
  ),
)

rows_again : RowsAgain row_tag row_fields RowFits (row_of row_kinds)
rows_again (Boot space node n) rest h = row_again (λ p. Boot p.0.0 p.0.1 p.1) boot_fields_law ((space, node), n) rest h
rows_again (Lane m part floor kept) rest h = row_again (λ p. Lane p.0 p.1.0 p.1.1.0 p.1.1.1) lane_fields_law (m, (part, (floor, kept))) rest h
rows_again (State e) rest h = row_again (λ e. State e) state_fields_law e rest h
rows_again (ReminderRow a name r) rest h = row_again (λ p. ReminderRow p.0 p.1.0 p.1.1) reminder_fields_law (a, (name, r)) rest h

pub table_row_law : IsField table_row
unfolding table_row
table_row_law = tagged_law row_tag row_fields RowFits (row_of row_kinds) (rows_take row_tag row_fields RowFits row_kinds row_takes_all) rows_again
