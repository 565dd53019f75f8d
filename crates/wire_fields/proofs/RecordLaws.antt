-- Texts, schedules, reminders and operations are read as they are spelled.
use Rattle.std.proofs.Common.{◌≡◌, ℕ, List, [], ◌∷◌, ◌++◌, Option, Some, None, Ok, refl}
use Rattle.schedule_text.specs.declared.advance.Next.TheVariants as nexts
use Rattle.state_rows.specs.declared.op.StateOp.TheVariants as ops
use Rattle.wire_fields.specs.Fields.{number16, number32, number64, number128, nothing, both, in_any_order, row_of, maybe}
use Rattle.wire_fields.specs.Parts.{record_name, actor}
use Rattle.wire_fields.specs.Records.{text, blob, moment, period_parts, period_of, period, schedule_parts, schedule_of, schedule, next_tag, next_fields, NextFits, next_rows, next, reminder_parts, reminder_of, reminder, due_key_parts, due_key_of, due_key, ttl, op_tag, op_fields, OpFits, op_rows, op, ops_list}
use Rattle.wire_fields.proofs.FieldLaws.{IsField, number16_law, number32_law, number64_law, number128_law, nothing_law, both_law, seen_law, only_law, sized_law, counted_law, maybe_law, row_takes, row_again, AllTake, RowsAgain, rows_take, tagged_law}
use Rattle.wire_fields.proofs.PartLaws.{record_name_law, actor_law}

pub text_law : IsField text
unfolding text
text_law = only_law _ (sized_law number16_law)

pub blob_law : IsField blob
unfolding blob
blob_law = sized_law number32_law

pub moment_law : IsField moment
unfolding moment
moment_law = only_law _ number128_law

pub period_law : IsField period
unfolding period
period_law = seen_law period_parts period_of (both_law number32_law number64_law) (λ p h. refl) (λ p. refl)

pub schedule_law : IsField schedule
unfolding schedule
schedule_law =
    seen_law schedule_parts schedule_of (both_law (maybe_law moment_law) (both_law (maybe_law period_law) (both_law (maybe_law number32_law) (maybe_law moment_law)))) (λ p h. refl) (λ s. refl)

-- ---- what follows a firing

at_law : IsField (both moment (maybe number32))
at_law = both_law moment_law (maybe_law number32_law)

next_takes : AllTake next_tag next_fields NextFits next_rows
next_takes = (
  row_takes next_tag next_fields NextFits 0 (λ u. nexts.Done) nothing_law (λ u. refl) (λ u. refl) (λ u h. tt),
  (
    row_takes next_tag next_fields NextFits 1 (λ p. nexts.At p.0 p.1) at_law (λ p. refl) (λ p. refl) (λ p h. h),
    (row_takes next_tag next_fields NextFits 2 (λ u. nexts.OutOfRange) nothing_law (λ u. refl) (λ u. refl) (λ u h. tt), tt),
  ),
)

next_again : RowsAgain next_tag next_fields NextFits (row_of next_rows)
next_again nexts.Done rest h = refl
next_again (nexts.At m left) rest h = row_again (λ p. nexts.At p.0 p.1) at_law (m, left) rest h
next_again nexts.OutOfRange rest h = refl

pub next_law : IsField next
unfolding next
next_law = tagged_law next_tag next_fields NextFits (row_of next_rows) (rows_take next_tag next_fields NextFits next_rows next_takes) next_again

-- ---- reminders

pub reminder_law : IsField reminder
unfolding reminder
reminder_law =
    seen_law reminder_parts reminder_of (both_law schedule_law (both_law text_law (both_law text_law (both_law text_law (maybe_law blob_law))))) (λ p h. refl) (λ r. refl)

pub due_key_law : IsField due_key
unfolding due_key
due_key_law = seen_law due_key_parts due_key_of (both_law moment_law (both_law actor_law record_name_law)) (λ p h. refl) (λ k. refl)

-- ---- operations

pub ttl_law : IsField ttl
unfolding ttl
ttl_law = only_law _ number32_law

upsert_law : IsField (both text (both blob (maybe ttl)))
upsert_law = both_law text_law (both_law blob_law (maybe_law ttl_law))

op_takes : AllTake op_tag op_fields OpFits op_rows
op_takes = (
  row_takes op_tag op_fields OpFits 1 (λ p. ops.Upsert p.0 p.1.0 p.1.1) upsert_law (λ p. refl) (λ p. refl) (λ p h. h),
  (row_takes op_tag op_fields OpFits 2 (λ key. ops.Delete key) text_law (λ k. refl) (λ k. refl) (λ k h. h), tt),
)

op_again : RowsAgain op_tag op_fields OpFits (row_of op_rows)
op_again (ops.Upsert key value t) rest h = row_again (λ p. ops.Upsert p.0 p.1.0 p.1.1) upsert_law (key, (value, t)) rest h
op_again (ops.Delete key) rest h = row_again (λ k. ops.Delete k) text_law key rest h

pub op_law : IsField op
unfolding op
op_law = tagged_law op_tag op_fields OpFits (row_of op_rows) (rows_take op_tag op_fields OpFits op_rows op_takes) op_again

pub ops_law : IsField ops_list
unfolding ops_list
ops_law = counted_law number16_law (λ b. op_law) (λ b a. refl)
