-- How the rows of a snapshot are spelled: a kind, and then the fields. Own.
use Rattle.std.specs.Prelude.{ℕ, List, [], ◌∷◌, Option}
use Rattle.actor_names.specs.declared.actor_key.ActorKey.{ActorKey}
use Rattle.actor_names.specs.declared.member.Member.{Member}
use Rattle.stamp_lanes.specs.declared.answer.LaneAnswer.{LaneAnswer}
use Rattle.stamp_lanes.specs.declared.answer.LaneAnswer.TheVariants as lane_answers
use Rattle.stamp_lanes.specs.declared.answer.KeptNumber.{KeptNumber}
use Rattle.state_rows.specs.declared.entry.StateEntry.{StateEntry}
use Rattle.reminder_rows.specs.declared.reminder.Reminder.{Reminder}
use Rattle.store_tables.specs.declared.row.TableRow.{TableRow}
use Rattle.store_tables.specs.declared.row.TableRow.TheVariants.{Boot, Lane, State, Reminder as ReminderRow}
use Rattle.wire_fields.specs.Fields.{Reading, Field, byte, number16, number64, both, seen, counted, in_any_order, row, row_of, tagged, maybe}
use Rattle.wire_fields.specs.Parts.{boot, flag, node_place, member, actor, record_name}
use Rattle.wire_fields.specs.Records.{text, blob, next, reminder}

-- ---- the numbers of a lane

-- the kinds of the frames that told the answers
abbrev pub answer_tag : LaneAnswer → ℕ
answer_tag (lane_answers.Done existed) = 49
answer_tag (lane_answers.NextIs n) = 54

abbrev pub answer_fields : LaneAnswer → List ℕ
answer_fields (lane_answers.Done existed) = flag.spell existed
answer_fields (lane_answers.NextIs n) = next.spell n

abbrev pub AnswerFits : LaneAnswer → Type 0
AnswerFits (lane_answers.Done existed) = flag.Fits existed
AnswerFits (lane_answers.NextIs n) = next.Fits n

abbrev pub answer_rows : List (ℕ × Reading LaneAnswer)
answer_rows = (49, row flag (λ existed. lane_answers.Done existed)) ∷ (54, row next (λ n. lane_answers.NextIs n)) ∷ []

-- an answer that a lane keeps, as its frame told it
unfoldable pub lane_answer : Field LaneAnswer
lane_answer = tagged answer_tag answer_fields AnswerFits (row_of answer_rows)

abbrev pub number_parts : KeptNumber → ℕ × LaneAnswer
number_parts k = (k.number, k.answer)

abbrev pub number_of : ℕ × LaneAnswer → KeptNumber
number_of p = record { number = p.0; answer = p.1 }

-- number, answer
unfoldable pub kept_number : Field KeptNumber
kept_number = seen (both number64 lane_answer) number_parts number_of

-- a count of two bytes, and then the numbers, in the order in which they were accepted
unfoldable pub kept_numbers : Field (List KeptNumber)
kept_numbers = counted number16 (in_any_order kept_number)

-- ---- the fields of each kind

-- space name, node name, boot
unfoldable pub boot_fields : Field ((List ℕ × List ℕ) × ℕ)
boot_fields = both node_place boot

-- member, part, floor, numbers
unfoldable pub lane_fields : Field (Member × (ℕ × (ℕ × List KeptNumber)))
lane_fields = both member (both byte (both number64 kept_numbers))

abbrev pub entry_parts : StateEntry → ActorKey × (List ℕ × (List ℕ × Option ℕ))
entry_parts e = (e.actor, (e.key, (e.value, e.absent)))

abbrev pub entry_of : ActorKey × (List ℕ × (List ℕ × Option ℕ)) → StateEntry
entry_of p = record { actor = p.0; key = p.1.0; value = p.1.1.0; absent = p.1.1.1 }

-- actor, key, value, the moment from which on it is absent, which may be missing
unfoldable pub state_fields : Field StateEntry
state_fields = seen (both actor (both text (both blob (maybe number64)))) entry_parts entry_of

-- actor, name, reminder
unfoldable pub reminder_fields : Field (ActorKey × (List ℕ × Reminder))
reminder_fields = both actor (both record_name reminder)

-- ---- rows

abbrev pub row_tag : TableRow → ℕ
row_tag (Boot space node n) = 129
row_tag (Lane m part floor kept) = 130
row_tag (State e) = 131
row_tag (ReminderRow a name r) = 132

abbrev pub row_fields : TableRow → List ℕ
row_fields (Boot space node n) = boot_fields.spell ((space, node), n)
row_fields (Lane m part floor kept) = lane_fields.spell (m, (part, (floor, kept)))
row_fields (State e) = state_fields.spell e
row_fields (ReminderRow a name r) = reminder_fields.spell (a, (name, r))

abbrev pub RowFits : TableRow → Type 0
RowFits (Boot space node n) = boot_fields.Fits ((space, node), n)
RowFits (Lane m part floor kept) = lane_fields.Fits (m, (part, (floor, kept)))
RowFits (State e) = state_fields.Fits e
RowFits (ReminderRow a name r) = reminder_fields.Fits (a, (name, r))

abbrev pub row_kinds : List (ℕ × Reading TableRow)
row_kinds =
    (129, row boot_fields (λ p. Boot p.0.0 p.0.1 p.1))
    ∷ (130, row lane_fields (λ p. Lane p.0 p.1.0 p.1.1.0 p.1.1.1))
    ∷ (131, row state_fields (λ e. State e))
    ∷ (132, row reminder_fields (λ p. ReminderRow p.0 p.1.0 p.1.1))
    ∷ []

-- a kind, and then its fields
unfoldable pub table_row : Field TableRow
table_row = tagged row_tag row_fields RowFits (row_of row_kinds)
