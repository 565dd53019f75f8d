-- What the records of the store are made of: moments, schedules, texts, reminders, operations. Own.
use Rattle.std.specs.Prelude.{ℕ, ◌&&◌, nat_le, nat_lt, List, [], ◌∷◌, Option}
use Rattle.std.specs.Str.{is_utf8}
use Rattle.actor_names.specs.declared.actor_key.ActorKey.{ActorKey}
use Rattle.schedule_text.specs.Range.{end_of_time}
use Rattle.schedule_text.specs.declared.advance.Period.{Period}
use Rattle.schedule_text.specs.declared.advance.Schedule.{Schedule}
use Rattle.schedule_text.specs.declared.advance.Next.{Next}
use Rattle.schedule_text.specs.declared.advance.Next.TheVariants as nexts
use Rattle.reminder_rows.specs.declared.reminder.Reminder.{Reminder}
use Rattle.reminder_rows.specs.declared.row.DueKey.{DueKey}
use Rattle.state_rows.specs.declared.op.StateOp.{StateOp}
use Rattle.state_rows.specs.declared.op.StateOp.TheVariants as ops
use Rattle.wire_fields.specs.Fields.{Reading, Field, number16, number32, number64, number128, nothing, both, seen, only, sized, counted, in_any_order, row, row_of, tagged, maybe}
use Rattle.wire_fields.specs.Parts.{within, record_name, actor}

-- ---- texts and bytes

-- UTF-8 behind its length of two bytes
unfoldable pub text : Field (List ℕ)
text = only (sized number16) is_utf8

-- any bytes behind their length of four bytes
unfoldable pub blob : Field (List ℕ)
blob = sized number32

-- ---- moments and schedules

-- nanoseconds since 1970, before 9999: a number of 16 bytes
unfoldable pub moment : Field ℕ
moment = only number128 (λ n. nat_lt n end_of_time)

abbrev pub period_parts : Period → ℕ × ℕ
period_parts p = (p.months, p.nanos)

abbrev pub period_of : ℕ × ℕ → Period
period_of p = record { months = p.0; nanos = p.1 }

-- months, nanoseconds
unfoldable pub period : Field Period
period = seen (both number32 number64) period_parts period_of

abbrev pub schedule_parts : Schedule → Option ℕ × (Option Period × (Option ℕ × Option ℕ))
schedule_parts s = (s.first, (s.period, (s.left, s.end)))

abbrev pub schedule_of : Option ℕ × (Option Period × (Option ℕ × Option ℕ)) → Schedule
schedule_of p = record { first = p.0; period = p.1.0; left = p.1.1.0; end = p.1.1.1 }

-- the first moment, the period, the firings left, the end; each may be missing
unfoldable pub schedule : Field Schedule
schedule = seen (both (maybe moment) (both (maybe period) (both (maybe number32) (maybe moment)))) schedule_parts schedule_of

abbrev pub next_tag : Next → ℕ
next_tag nexts.Done = 0
next_tag (nexts.At m left) = 1
next_tag nexts.OutOfRange = 2

abbrev pub next_fields : Next → List ℕ
next_fields nexts.Done = []
next_fields (nexts.At m left) = (both moment (maybe number32)).spell (m, left)
next_fields nexts.OutOfRange = []

abbrev pub NextFits : Next → Type 0
NextFits nexts.Done = Unit {0}
NextFits (nexts.At m left) = (both moment (maybe number32)).Fits (m, left)
NextFits nexts.OutOfRange = Unit {0}

abbrev pub next_rows : List (ℕ × Reading Next)
next_rows =
    (0, row nothing (λ u. nexts.Done))
    ∷ (1, row (both moment (maybe number32)) (λ p. nexts.At p.0 p.1))
    ∷ (2, row nothing (λ u. nexts.OutOfRange))
    ∷ []

-- what follows a firing: nothing, a moment and the firings left from it on, or a moment past the last one
unfoldable pub next : Field Next
next = tagged next_tag next_fields NextFits (row_of next_rows)

-- ---- reminders

abbrev pub reminder_parts : Reminder → Schedule × (List ℕ × (List ℕ × (List ℕ × Option (List ℕ))))
reminder_parts r = (r.schedule, (r.due, (r.period, (r.ttl, r.payload))))

abbrev pub reminder_of : Schedule × (List ℕ × (List ℕ × (List ℕ × Option (List ℕ)))) → Reminder
reminder_of p = record { schedule = p.0; due = p.1.0; period = p.1.1.0; ttl = p.1.1.1.0; payload = p.1.1.1.1 }

-- schedule, text of due, of period, of ttl, payload
unfoldable pub reminder : Field Reminder
reminder = seen (both schedule (both text (both text (both text (maybe blob))))) reminder_parts reminder_of

abbrev pub due_key_parts : DueKey → ℕ × (ActorKey × List ℕ)
due_key_parts k = (k.moment, (k.actor, k.name))

abbrev pub due_key_of : ℕ × (ActorKey × List ℕ) → DueKey
due_key_of p = record { moment = p.0; actor = p.1.0; name = p.1.1 }

-- moment, actor, name
unfoldable pub due_key : Field DueKey
due_key = seen (both moment (both actor record_name)) due_key_parts due_key_of

-- ---- operations

-- at most ten years, in seconds
unfoldable pub ttl : Field ℕ
ttl = within 1 315360000 number32

abbrev pub op_tag : StateOp → ℕ
op_tag (ops.Upsert key value t) = 1
op_tag (ops.Delete key) = 2

abbrev pub op_fields : StateOp → List ℕ
op_fields (ops.Upsert key value t) = (both text (both blob (maybe ttl))).spell (key, (value, t))
op_fields (ops.Delete key) = text.spell key

abbrev pub OpFits : StateOp → Type 0
OpFits (ops.Upsert key value t) = (both text (both blob (maybe ttl))).Fits (key, (value, t))
OpFits (ops.Delete key) = text.Fits key

abbrev pub op_rows : List (ℕ × Reading StateOp)
op_rows =
    (1, row (both text (both blob (maybe ttl))) (λ p. ops.Upsert p.0 p.1.0 p.1.1))
    ∷ (2, row text (λ key. ops.Delete key))
    ∷ []

-- 1, key, value, ttl; or 2, key
unfoldable pub op : Field StateOp
op = tagged op_tag op_fields OpFits (row_of op_rows)

-- a count of two bytes, and then the operations
unfoldable pub ops_list : Field (List StateOp)
ops_list = counted number16 (in_any_order op)
