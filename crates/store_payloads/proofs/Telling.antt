-- What a store tells of reminders has the forms and ranges of its frame, and so has every answer.
use Rattle.std.proofs.Common.{◌≡◌, ◌<◌, ◌≤◌, ◌+◌, ◌-◌, ◌/◌, ◌%◌, ◌*◌, ◌^◌, ℕ, zero, suc, Bool, true, false, List, [], ◌∷◌, length, Option, Some, None, refl, sym, ap, ◌∙◌, subst, arith}
use Rattle.std.specs.Prelude.{Result, Ok, Err, if◌then◌else◌, nat_lt, nat_le, ◌&&◌, ◌||◌, ◌==◌, filter, take}
use Rattle.std.proofs.lemmas.Bool.Decides.{nat_tests}
use Rattle.actor_names.specs.declared.actor_key.ActorKey.{ActorKey}
use Rattle.schedule_text.specs.declared.advance.Next.{Next}
use Rattle.schedule_text.specs.declared.advance.Schedule.{Schedule}
use Rattle.schedule_text.specs.Range.{end_of_time}
use Rattle.stamp_lanes.specs.declared.answer.LaneAnswer.TheVariants as lane_answers
use Rattle.stamp_lanes.specs.Stamps.{greatest_boot, draw_fault, after_draw}
use Rattle.state_rows.specs.Checks.{ops_fault}
use Rattle.state_rows.specs.Entries.{after_ops}
use Rattle.reminder_rows.specs.declared.reminder.Reminder.{Reminder}
use Rattle.reminder_rows.specs.declared.row.ReminderRow.{ReminderRow}
use Rattle.reminder_rows.specs.declared.row.DueKey.{DueKey}
use Rattle.reminder_rows.specs.declared.error.FiredError.{FiredError}
use Rattle.reminder_rows.specs.declared.error.FiredError.TheVariants as fired_errors
use Rattle.reminder_rows.specs.Reminders.{row_at, at_name, reminder_in, put_row, by_due, due_cmp, is_after, is_due, due_keys, next_of, fired_answer, fired_rows, IsTimely, AreTimely}
use Rattle.lists_and_limits.specs.Lists.{found}
use Rattle.wire_fields.specs.Fields.{number16, number64, both, maybe, in_any_order, AllFit, MaybeFits}
use Rattle.wire_fields.specs.Parts.{actor, record_name, at_most, boot}
use Rattle.wire_fields.specs.Records.{text, blob, moment, schedule, reminder, next, NextFits, due_key}
use Rattle.frame_wire.specs.declared.store_answer.StoreAnswer.{StoreAnswer}
use Rattle.frame_wire.specs.declared.store_answer.StoreAnswer.TheVariants.{Booted, Done, Value, NotThere, ReminderIs, DueList, NextIs, Refused}
use Rattle.frame_wire.specs.declared.store_answer.DueEntry.{DueEntry}
use Rattle.frame_wire.specs.declared.store_command.StoreCommand.{StoreCommand}
use Rattle.frame_wire.specs.declared.store_command.StoreCommand.TheVariants.{Boot, Tx, Get, PutReminder, GetReminder, DeleteReminder, Due, Fired}
use Rattle.frame_wire.specs.declared.store_refusal.StoreRefusal.TheVariants as refusals
use Rattle.frame_wire.specs.Store.{command, CommandFits, AnswerFits}
use Rattle.frame_wire.specs.StoreParts.{due_limit, due_entry, due_entries, clock}
use Rattle.store_tables.specs.Dues.{entry_of, with_entry, entries_of, entry_size, fitting, entries_room, due_list}
use Rattle.store_tables.specs.Tables.{Tables, Outcome, Told, Accepted, nanos_of, stamp_answer, accepted, boot_answer, ops_answer, reminder_answer, fired_refusal, by_fired, fired_outcome, tx_outcome, put_outcome, delete_outcome, store_outcome}
use Rattle.store_tables.specs.Contents.{Timed, outcome_of}
use Rattle.store_payloads.specs.Fields.{AnswerFits as KeptFits, reminder_fields}
use Rattle.std.specs.List.{AllByRecursion as Each}
use Rattle.store_payloads.specs.Fits.{ReminderFits, TablesFit}
use Rattle.store_payloads.specs.Laws.{MayCome, OutcomeFits, AnswersFit}
use Rattle.lists_and_limits.proofs.Each.{each_found, each_put}
use Rattle.store_payloads.proofs.Keeping.{may_draw, next_boot, firing_fits, schedule_in}
use Rattle.store_payloads.proofs.Answering.{or_fits, refused_fits, stamp_told, accepted_fits, done_fits, boot_told, no_fault, fault_told, ops_told, value_told}

-- ---- one reminder

texts_in : (e : ReminderRow) → ReminderFits e → AnswerFits (ReminderIs e.reminder.due e.reminder.period e.reminder.ttl e.reminder.payload)
unfolding reminder_fields reminder
texts_in e fits = fits.1.1.1

reminder_told : (a : ActorKey) (name : List ℕ) (es : List ReminderRow) → Each ReminderFits es → AnswerFits (reminder_answer (reminder_in (row_at a name es)))
reminder_told a name es all = go (row_at a name es) refl
  where
    go : (o : Option ReminderRow) → row_at a name es ≡ o → AnswerFits (reminder_answer (reminder_in o))
    go None is = tt
    go (Some e) is = texts_in e (each_found ReminderFits (at_name a name) es e is all)

-- ---- the moments of records

first_in : (s : Schedule) (m : ℕ) → schedule.Fits s → s.first ≡ Some m → moment.Fits m
unfolding schedule
first_in s m fits is = subst (MaybeFits moment.Fits) is fits.0

-- a record is due at a moment
abbrev KeyFits : ReminderRow → Type 0
KeyFits e = due_key.Fits e.key

key_fits : (e : ReminderRow) → ReminderFits e → IsTimely e → KeyFits e
unfolding due_key reminder_fields
key_fits e fits timely = (first_in e.reminder.schedule e.key.moment (schedule_in e fits) timely, (fits.0, fits.1.0))

keys_fit : (es : List ReminderRow) → Each ReminderFits es → AreTimely es → Each KeyFits es
keys_fit [] all timely = tt
keys_fit (e ∷ es) all timely = (key_fits e all.0 timely.0, keys_fit es all.1 timely.1)

moment_low : (m : ℕ) → moment.Fits m → m < end_of_time
unfolding moment
moment_low m fits = let test = fits.1 in grind (arith, nat_tests)

low_seconds : (m : ℕ) → m < end_of_time → nat_le (m / 1000000000) 253370764799 ≡ true
low_seconds m low = let few : m / 1000000000 ≤ 253370764799 = omega arith in grind (arith, nat_tests)

low_rest : (m : ℕ) → nat_le (m % 1000000000) 999999999 ≡ true
low_rest m = let few : m % 1000000000 ≤ 999999999 = omega arith in grind (arith, nat_tests)

clock_fits : (m : ℕ) → m < end_of_time → clock.Fits m
unfolding clock number64
clock_fits m low = ((omega arith, low_seconds m low), (omega arith, low_rest m))

moment_in : (k : DueKey) → due_key.Fits k → moment.Fits k.moment
unfolding due_key
moment_in k fits = fits.0

-- ---- what is due

due_fit : (es : List ReminderRow) → Each KeyFits es → Each due_key.Fits (by_due es)
due_fit [] all = tt
due_fit (e ∷ es) all = each_put due_key.Fits due_cmp e.key (by_due es) all.0 (due_fit es all.1)

filter_fit : (p : DueKey → Bool) (ks : List DueKey) → Each due_key.Fits ks → Each due_key.Fits (filter p ks)
filter_fit p [] all = tt
filter_fit p (k ∷ ks) all = go (p k) (filter_fit p ks all.1)
  where
    go : (b : Bool) → Each due_key.Fits (filter p ks) → Each due_key.Fits (if b then k ∷ filter p ks else filter p ks)
    go true rest = (all.0, rest)
    go false rest = rest

take_fit : (n : ℕ) (ks : List DueKey) → Each due_key.Fits ks → Each due_key.Fits (take n ks)
take_fit zero ks all = tt
take_fit (suc n) [] all = tt
take_fit (suc n) (k ∷ ks) all = (all.0, take_fit n ks all.1)

length-taken : (n : ℕ) (ks : List DueKey) → length (take n ks) ≤ n
length-taken zero ks = omega arith
length-taken (suc n) [] = omega arith
length-taken (suc n) (k ∷ ks) = omega (arith, length-taken n ks)

entry_fits : (k : DueKey) (e : ReminderRow) → due_key.Fits k → ReminderFits e → due_entry.Fits (entry_of k e.reminder)
unfolding due_entry reminder_fields reminder
entry_fits k e fits row = (fits, (row.1.1.1.0, (row.1.1.1.1.0, row.1.1.1.1.1.1)))

entries_fit : (es : List ReminderRow) (ks : List DueKey) → Each ReminderFits es → Each due_key.Fits ks → Each due_entry.Fits (entries_of es ks)
entries_fit es [] all keys = tt
entries_fit es (k ∷ ks) all keys = go (row_at k.actor k.name es) refl (entries_fit es ks all keys.1)
  where
    go : (o : Option ReminderRow) → row_at k.actor k.name es ≡ o → Each due_entry.Fits (entries_of es ks) → Each due_entry.Fits (with_entry k (reminder_in o) (entries_of es ks))
    go None is rest = rest
    go (Some e) is rest = (entry_fits k e keys.0 (each_found ReminderFits (at_name k.actor k.name) es e is all), rest)

entries_few : (es : List ReminderRow) (ks : List DueKey) → length (entries_of es ks) ≤ length ks
entries_few es [] = omega arith
entries_few es (k ∷ ks) = go (reminder_in (row_at k.actor k.name es)) (entries_few es ks)
  where
    go : (o : Option Reminder) → length (entries_of es ks) ≤ length ks → length (with_entry k o (entries_of es ks)) ≤ suc (length ks)
    go None few = omega (arith, few)
    go (Some r) few = omega (arith, few)

fitting_few : (first : Bool) (room : ℕ) (xs : List DueEntry) → length (fitting first room xs) ≤ length xs
fitting_few first room [] = omega arith
fitting_few first room (x ∷ xs) = go (first || nat_le (entry_size x) room) (fitting_few false (room - entry_size x) xs)
  where
    go : (b : Bool) → length (fitting false (room - entry_size x) xs) ≤ length xs → length (if b then x ∷ fitting false (room - entry_size x) xs else []) ≤ suc (length xs)
    go true few = omega (arith, few)
    go false few = omega arith

fitting_fit : (first : Bool) (room : ℕ) (before : Option DueEntry) (xs : List DueEntry) → Each due_entry.Fits xs → AllFit (in_any_order due_entry) before (fitting first room xs)
fitting_fit first room before [] all = tt
fitting_fit first room before (x ∷ xs) all = go (first || nat_le (entry_size x) room) (fitting_fit false (room - entry_size x) (Some x) xs all.1)
  where
    go : (b : Bool) → AllFit (in_any_order due_entry) (Some x) (fitting false (room - entry_size x) xs) → AllFit (in_any_order due_entry) before (if b then x ∷ fitting false (room - entry_size x) xs else [])
    go true rest = (all.0, rest)
    go false rest = tt

few_entries : (xs : List DueEntry) → length xs < 2 ^ 16 → AllFit (in_any_order due_entry) None xs → AnswerFits (DueList xs)
unfolding due_entries number16
few_entries xs few all = (few, all)

limit_low : (limit : ℕ) → due_limit.Fits limit → limit < 2 ^ 16
unfolding due_limit number16
limit_low limit fits = fits.0

list_told : (now : ℕ) (after : Option DueKey) (limit : ℕ) (es : List ReminderRow) → limit < 2 ^ 16 → Each ReminderFits es → AreTimely es → AnswerFits (DueList (due_list now after limit es))
list_told now after limit es low all timely =
    let keys = due_keys now after limit es in
    let some = entries_of es keys in
    let keyed : Each due_key.Fits keys = take_fit limit (filter (is_due now) (filter (is_after after) (by_due es))) (filter_fit (is_due now) (filter (is_after after) (by_due es)) (filter_fit (is_after after) (by_due es) (due_fit es (keys_fit es all timely)))) in
    few_entries (fitting true entries_room some)
    (omega (arith, fitting_few true entries_room some, entries_few es keys, length-taken limit (filter (is_due now) (filter (is_after after) (by_due es))), low))
    (fitting_fit true entries_room None some (entries_fit es keys all keyed))

-- ---- firings

next_kept : (n : Next) → NextFits n → KeptFits (lane_answers.NextIs n)
unfolding next
next_kept n fits = fits

fired_fits : (o : Option ReminderRow) (m now : ℕ) (f : Next → Outcome) → ((e : ReminderRow) → o ≡ Some e → ReminderFits e × KeyFits e) → ((n : Next) → NextFits n → OutcomeFits (f n)) → OutcomeFits (by_fired (fired_answer o m now) f)
fired_fits None m now f fits on = tt
fired_fits (Some e) m now f fits on = go (e.key.moment == m)
  where
    go : (b : Bool) → OutcomeFits (by_fired (if b then Ok (next_of e now) else Err (fired_errors.OtherMoment e.key.moment)) f)
    go true = on (next_of e now) (firing_fits e.reminder.schedule e.key.moment now (schedule_in e (fits e refl).0))
    go false = refused_fits (refusals.OtherMoment e.key.moment) (clock_fits e.key.moment (moment_low e.key.moment (moment_in e.key (fits e refl).1)))

-- ---- all of them

booted_fits : (n : ℕ) → boot.Fits n → AnswerFits (Booted n)
booted_fits n fits = fits

outcome_fits : (t : Tables) (c : StoreCommand) (now : ℕ) → CommandFits c → TablesFit t → AreTimely t.reminders → OutcomeFits (store_outcome t c now)
unfolding store_outcome
outcome_fits t (Boot space node) now fits all timely =
    or_fits (boot_answer (draw_fault space node t.nodes)) (Accepted (Booted (greatest_boot t.nodes + 1)) (record t { nodes = after_draw space node t.nodes })) (boot_told space node t.nodes) (λ free.
    booted_fits (greatest_boot t.nodes + 1) (next_boot (greatest_boot t.nodes) (may_draw space node t.nodes (no_fault (draw_fault space node t.nodes) free))))
outcome_fits t (Tx s a ops) now fits all timely =
    or_fits (stamp_answer s t) (tx_outcome s a ops now t) (stamp_told s t fits.0 all) (λ fresh.
    or_fits (ops_answer (ops_fault ops)) (accepted s (lane_answers.Done true) (record t { rows = after_ops a now ops t.rows })) (fault_told (ops_fault ops) (ops_told ops fits.1.1)) (λ fine.
    accepted_fits s (lane_answers.Done true) (record t { rows = after_ops a now ops t.rows }) (done_fits true)))
outcome_fits t (Get a key) now fits all timely = value_told a key now t.rows all.states
outcome_fits t (PutReminder s a name r) now fits all timely =
    or_fits (stamp_answer s t) (put_outcome s a name r t) (stamp_told s t fits.0 all) (λ fresh. accepted_fits s (lane_answers.Done true) (record t { reminders = put_row a name r t.reminders }) (done_fits true))
outcome_fits t (GetReminder a name) now fits all timely = reminder_told a name t.reminders all.reminders
outcome_fits t (DeleteReminder s a name) now fits all timely =
    or_fits (stamp_answer s t) (delete_outcome s a name t) (stamp_told s t fits.0 all) (λ fresh. done_fits _)
outcome_fits t (Due after limit) now fits all timely = list_told (nanos_of now) after limit t.reminders (limit_low limit fits.1) all.reminders timely
outcome_fits t (Fired s a name m) now fits all timely =
    let row = row_at a name t.reminders in
    let after = fired_rows a name row m (nanos_of now) t.reminders in
    or_fits (stamp_answer s t) (fired_outcome s a name m (nanos_of now) t) (stamp_told s t fits.0 all) (λ fresh.
    fired_fits row m (nanos_of now) (λ n. accepted s (lane_answers.NextIs n) (record t { reminders = after }))
    (λ e is.
    let fit = each_found ReminderFits (at_name a name) t.reminders e is all.reminders in
    (fit, each_found KeyFits (at_name a name) t.reminders e is (keys_fit t.reminders all.reminders timely)))
    (λ n following. accepted_fits s (lane_answers.NextIs n) (record t { reminders = after }) (next_kept n following)))

command_fits : (c : StoreCommand) → command.Fits c → CommandFits c
unfolding command
command_fits c fits = fits

pub answers_fit : AnswersFit
answers_fit t c may all timely = outcome_fits t c.command c.now (command_fits c.command may.command) all timely
