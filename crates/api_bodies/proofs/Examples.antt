-- Worked examples of bodies, and of a reminder as it is told.
use Rattle.std.proofs.Common.{◌≡◌, ℕ, List, [], ◌∷◌, Some, None, Ok, Err, codes, refl}
use Rattle.std.specs.Fmt.{digits}
use Rattle.std.specs.Prelude.{replicate, Result}
use Rattle.std.specs.Str.{is_utf8, chars}
use Rattle.json.specs.Print.{escape_byte}
use Rattle.serde_json.proofs.OnLiterals.{serde_json_on_literals}
use Rattle.json_text.specs.Reading.{reading}
use Rattle.json_text.specs.Values.{JsonValue, natural, text, array, object, no_items, item, no_members, member}
use Rattle.schedule_text.specs.Schedules.{read_schedule}
use Rattle.schedule_text.specs.Firing.{add_period, sum_of}
use Rattle.schedule_text.specs.GoDurations.{go_nanos, term_at, terms_from}
use Rattle.schedule_text.specs.declared.error.ScheduleError.TheVariants.{Negative}
use Rattle.state_rows.specs.declared.op.StateOp.{StateOp}
use Rattle.state_rows.specs.declared.op.StateOp.TheVariants.{Upsert, Delete}
use Rattle.api_bodies.specs.declared.error.BodyError.{BodyError}
use Rattle.api_bodies.specs.declared.error.BodyError.TheVariants.{Malformed, OtherNumber, TooLarge, BadSchedule}
use Rattle.api_bodies.specs.Records.{body_reading, reminder_reading, timer_reading}
use Rattle.api_bodies.specs.Told.{reminder_body}
use Rattle.api_bodies.specs.Transactions.{ops_in, ops_reading}

-- ---- transactions

-- operations stand in their order; a value is kept as its compact text; a delete's value isn't looked at
in_order : ops_reading (codes "[{\"operation\":\"delete\",\"request\":{\"key\":\"k\",\"value\":1.5}},{\"operation\":\"upsert\",\"request\":{\"key\":\"l\",\"value\":{\"b\":[1, null],\"a\":-2},\"metadata\":{\"ttlInSeconds\":\"5\"}}}]")
    ≡ Ok (Delete (codes "k") ∷ Upsert (codes "l") (codes "{\"a\":-2,\"b\":[1,null]}") (Some 5) ∷ [])
unfolding body_reading is_utf8 chars reading serde_json_on_literals escape_byte digits
in_order = refl

no_operations : ops_reading (codes "[]") ≡ Ok []
unfolding body_reading is_utf8 chars reading serde_json_on_literals
no_operations = refl

not_json : ops_reading (codes "[") ≡ Err Malformed
unfolding body_reading is_utf8 chars reading serde_json_on_literals
not_json = refl

-- the form of all operations counts before the number of an earlier one
form_before_number : ops_reading (codes "[{\"operation\":\"upsert\",\"request\":{\"key\":\"k\",\"value\":1.5}},1]") ≡ Err Malformed
unfolding body_reading is_utf8 chars reading serde_json_on_literals
form_before_number = refl

-- numbers count before the size of an earlier key
number_before_size : ops_reading (codes "[{\"operation\":\"delete\",\"request\":{\"key\":\"\"}},{\"operation\":\"upsert\",\"request\":{\"key\":\"k\",\"value\":[1e2]}}]") ≡ Err OtherNumber
unfolding body_reading is_utf8 chars reading serde_json_on_literals
number_before_size = refl

abbrev deletion : List ℕ → JsonValue
deletion key = object (member (codes "operation") (text (codes "delete")) (member (codes "request") (object (member (codes "key") (text key) no_members)) no_members))

long_key : ops_in (array (item (deletion (replicate 256 97)) (item (deletion (replicate 257 97)) no_items))) ≡ Err (TooLarge 1)
long_key = refl

abbrev upsert_for : List ℕ → Result (List StateOp) BodyError
upsert_for seconds = ops_in (array (item (object (member (codes "operation") (text (codes "upsert")) (member (codes "request") (object
    (member (codes "key") (text (codes "k")) (member (codes "value") (natural 1) (member (codes "metadata") (object (member (codes "ttlInSeconds") (text seconds) no_members)) no_members)))) no_members))) no_items))

ten_years : upsert_for (codes "315360000") ≡ Ok (Upsert (codes "k") (codes "1") (Some 315360000) ∷ [])
unfolding digits
ten_years = refl

above_ten_years : upsert_for (codes "315360001") ≡ Err Malformed
above_ten_years = refl

no_seconds : upsert_for (codes "0") ≡ Err Malformed
no_seconds = refl

-- ---- reminders and timers

-- no body counts as `{}`: a reminder that is due now, once
no_body : reminder_reading [] 1000 ≡ Ok (record { schedule = record { first = Some 1000000000; period = None; left = None; «end» = None }; due = []; period = []; ttl = []; payload = None })
unfolding body_reading is_utf8 chars reading serde_json_on_literals read_schedule
no_body = refl

-- texts are kept as they were given; `null` is a value, and as a text it is absent
kept_as_given : timer_reading (codes "{\"callback\":\"tick\",\"dueTime\":\"3s\",\"ttl\":null,\"data\":null}") 1000
    ≡ Ok (record { schedule = record { first = Some 4000000000; period = None; left = None; «end» = None }; callback = codes "tick"; payload = Some (codes "null"); due = codes "3s"; period = [] })
unfolding body_reading is_utf8 chars reading serde_json_on_literals read_schedule go_nanos term_at terms_from add_period sum_of
kept_as_given = refl

-- form, then number, then schedule
form_first : reminder_reading (codes "{\"dueTime\":\"-3s\",\"data\":1.5,\"ttl\":1}") 1000 ≡ Err Malformed
unfolding body_reading is_utf8 chars reading serde_json_on_literals
form_first = refl

number_second : reminder_reading (codes "{\"dueTime\":\"-3s\",\"data\":1.5}") 1000 ≡ Err OtherNumber
unfolding body_reading is_utf8 chars reading serde_json_on_literals
number_second = refl

schedule_last : reminder_reading (codes "{\"dueTime\":\"-3s\",\"data\":1}") 1000 ≡ Err (BadSchedule Negative)
unfolding body_reading is_utf8 chars reading serde_json_on_literals read_schedule go_nanos term_at terms_from
schedule_last = refl

-- each member only if it was given and isn't empty
told : reminder_body (codes "3s") [] (codes "1h") (Some (codes "{\"x\":1}")) ≡ codes "{\"data\":{\"x\":1},\"dueTime\":\"3s\",\"ttl\":\"1h\"}"
unfolding escape_byte
told = refl

nothing_to_tell : reminder_body [] [] [] None ≡ codes "{}"
nothing_to_tell = refl
