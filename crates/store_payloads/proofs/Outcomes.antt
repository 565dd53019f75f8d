-- Every command that is accepted, and every payload that is folded, leaves tables that fit the fields of rows.
use Rattle.std.proofs.Common.{◌≡◌, ◌<◌, ◌≤◌, ◌+◌, ◌^◌, ℕ, Bool, true, false, List, [], ◌∷◌, Option, Some, None, refl, sym, ap, ◌∙◌, subst, arith}
use Rattle.std.specs.Prelude.{Result, Ok, Err, IfOk, if◌then◌else◌, ◌==◌, option_map}
use Rattle.actor_names.specs.declared.actor_key.ActorKey.{ActorKey}
use Rattle.schedule_text.specs.declared.advance.Next.{Next}
use Rattle.stamp_lanes.specs.declared.answer.LaneAnswer.{LaneAnswer}
use Rattle.stamp_lanes.specs.declared.answer.LaneAnswer.TheVariants as lane_answers
use Rattle.stamp_lanes.specs.declared.error.BootError.{BootError}
use Rattle.stamp_lanes.specs.Stamps.{greatest_boot, draw_fault, after_draw, after_accept}
use Rattle.state_rows.specs.declared.entry.StateEntry.{StateEntry}
use Rattle.state_rows.specs.declared.op.StateOp.{StateOp}
use Rattle.state_rows.specs.Checks.{ops_fault}
use Rattle.state_rows.specs.Entries.{row_cmp, after_ops}
use Rattle.reminder_rows.specs.declared.row.ReminderRow.{ReminderRow}
use Rattle.reminder_rows.specs.declared.error.FiredError.{FiredError}
use Rattle.reminder_rows.specs.declared.error.FiredError.TheVariants.{NotThere, OtherMoment}
use Rattle.reminder_rows.specs.Reminders.{row_at, at_name, put_row, without_row, next_of, fired_answer, fired_rows}
use Rattle.frame_wire.specs.declared.store_answer.StoreAnswer.{StoreAnswer}
use Rattle.frame_wire.specs.declared.store_answer.StoreAnswer.TheVariants.{Booted}
use Rattle.frame_wire.specs.declared.store_command.StoreCommand.{StoreCommand}
use Rattle.frame_wire.specs.declared.store_command.StoreCommand.TheVariants.{Boot, Tx, Get, PutReminder, GetReminder, DeleteReminder, Due, Fired}
use Rattle.frame_wire.specs.declared.store_command.Stamp.{Stamp}
use Rattle.frame_wire.specs.Store.{command, CommandFits}
use Rattle.frame_wire.specs.StoreParts.{stamp}
use Rattle.store_tables.specs.declared.row.TableRow.{TableRow}
use Rattle.store_tables.specs.declared.row.TableRow.TheVariants as rows
use Rattle.store_tables.specs.Tables.{Tables, no_tables, Outcome, Told, Accepted, told_or, nanos_of, stamp_answer, accepted, boot_answer, ops_answer, tx_outcome, put_outcome, delete_outcome, by_fired, fired_outcome, store_outcome}
use Rattle.store_tables.specs.Contents.{Timed, outcome_of, accepted_in}
use Rattle.store_tables.specs.Rows.{key_of, is_taken, with_row, restored}
use Rattle.wire_fields.specs.Fields.{byte, number64, in_any_order, AllFit}
use Rattle.wire_fields.specs.Parts.{boot, flag, node_place}
use Rattle.wire_fields.specs.Records.{next, NextFits, op, ops_list}
use Rattle.store_payloads.specs.declared.payload.PayloadBody.{PayloadBody}
use Rattle.store_payloads.specs.declared.payload.PayloadBody.TheVariants.{Command, Row}
use Rattle.store_payloads.specs.declared.payload.StorePayload.{StorePayload}
use Rattle.store_payloads.specs.Fields.{AnswerFits, lane_answer, kept_number, boot_fields, state_fields, reminder_fields, RowFits, table_row}
use Rattle.store_payloads.specs.Payloads.{end_of_moments}
use Rattle.store_payloads.specs.Folds.{Folded, may_come, with_set, after_set, with_act, after_act, after_body, folded, start}
use Rattle.std.specs.List.{AllByRecursion as Each}
use Rattle.store_payloads.specs.Fits.{BodyFits, PayloadFits, BootFits, LanesFit, ReminderFits, TablesFit}
use Rattle.store_payloads.specs.Laws.{MayCome, KeepsFit}
use Rattle.lists_and_limits.proofs.Each.{each_put, each_without, each_found}
use Rattle.store_payloads.proofs.Keeping.{ops_keep, may_draw, next_boot, bare_keeps, accept_keeps, lane_keeps, firing_fits, schedule_in, put_keeps, fired_keeps}

pub none_fit : TablesFit no_tables
none_fit = record { boots = tt; lanes = tt; states = tt; reminders = tt }

-- ---- commands

abbrev Keeps : Outcome → Type 0
Keeps (Told answer) = Unit {0}
Keeps (Accepted answer after) = TablesFit after

told_keeps : (told : Option StoreAnswer) (o : Outcome) → (told ≡ None → Keeps o) → Keeps (told_or told o)
told_keeps None o keeps = keeps refl
told_keeps (Some answer) o keeps = tt

flag_fits : (b : Bool) → AnswerFits (lane_answers.Done b)
unfolding flag
flag_fits b = tt

next_answer : (n : Next) → NextFits n → AnswerFits (lane_answers.NextIs n)
unfolding next
next_answer n fits = fits

part_fits : (s : Stamp) → stamp.Fits s → byte.Fits s.part
unfolding stamp
part_fits s fits = fits.1.0

number_fits : (s : Stamp) (a : LaneAnswer) → stamp.Fits s → AnswerFits a → kept_number.Fits (record { number = s.number; answer = a })
unfolding stamp kept_number lane_answer
number_fits s a fits answer = (fits.1.1, answer)

accepted_keeps : (s : Stamp) (a : LaneAnswer) (t : Tables) → stamp.Fits s → AnswerFits a → TablesFit t → Keeps (accepted s a t)
accepted_keeps s a t fits answer all =
    let nodes = accept_keeps s.member s.part (record { number = s.number; answer = a }) t.nodes (part_fits s fits) (number_fits s a fits answer) all.boots all.lanes in
    record { boots = nodes.0; lanes = nodes.1; states = all.states; reminders = all.reminders }

with_states : (t : Tables) (es : List StateEntry) → TablesFit t → Each state_fields.Fits es → TablesFit (record t { rows = es })
with_states t es all states = record { boots = all.boots; lanes = all.lanes; states = states; reminders = all.reminders }

with_reminders : (t : Tables) (rs : List ReminderRow) → TablesFit t → Each ReminderFits rs → TablesFit (record t { reminders = rs })
with_reminders t rs all reminders = record { boots = all.boots; lanes = all.lanes; states = all.states; reminders = reminders }

no_fault : (o : Option BootError) → boot_answer o ≡ None → o ≡ None
no_fault None is = refl
no_fault (Some e) is = absurd (cc)

place_fits : (space node : List ℕ) (n : ℕ) → node_place.Fits (space, node) → boot.Fits n → boot_fields.Fits ((space, node), n)
unfolding boot_fields
place_fits space node n named fits = (named, fits)

boot_keeps : (space node : List ℕ) (t : Tables) → node_place.Fits (space, node) → greatest_boot t.nodes < 2 ^ 62 → TablesFit t → TablesFit (record t { nodes = after_draw space node t.nodes })
boot_keeps space node t named low all =
    let nodes = bare_keeps space node (greatest_boot t.nodes + 1) t.nodes (place_fits space node (greatest_boot t.nodes + 1) named (next_boot (greatest_boot t.nodes) low)) all.boots all.lanes in
    record { boots = nodes.0; lanes = nodes.1; states = all.states; reminders = all.reminders }

ops_in : (os : List StateOp) → ops_list.Fits os → AllFit (in_any_order op) None os
unfolding ops_list
ops_in os fits = fits.1

fired_by : (r : Result Next FiredError) (f : Next → Outcome) → ((n : Next) → r ≡ Ok n → Keeps (f n)) → Keeps (by_fired r f)
fired_by (Ok n) f keeps = keeps n refl
fired_by (Err e) f keeps = tt

-- what a firing is told
told_next : (o : Option ReminderRow) (m now : ℕ) (n : Next) → ((e : ReminderRow) → o ≡ Some e → ReminderFits e) → fired_answer o m now ≡ Ok n → NextFits n
told_next None m now n fits is = absurd (cc)
told_next (Some e) m now n fits is = go (e.key.moment == m) is
  where
    go : (b : Bool) → (if b then Ok (next_of e now) else Err (OtherMoment e.key.moment)) ≡ Ok n → NextFits n
    go true is = subst NextFits (let same : next_of e now ≡ n = cc in same) (firing_fits e.reminder.schedule e.key.moment now (schedule_in e (fits e refl)))
    go false is = absurd (cc)

outcome_keeps : (t : Tables) (c : StoreCommand) (now : ℕ) → CommandFits c → now < end_of_moments → TablesFit t → Keeps (store_outcome t c now)
unfolding store_outcome reminder_fields
outcome_keeps t (Boot space node) now fits below all =
    told_keeps (boot_answer (draw_fault space node t.nodes)) (Accepted (Booted (greatest_boot t.nodes + 1)) (record t { nodes = after_draw space node t.nodes })) (λ free.
    boot_keeps space node t fits (may_draw space node t.nodes (no_fault (draw_fault space node t.nodes) free)) all)
outcome_keeps t (Tx s actor ops) now fits below all =
    let after = after_ops actor now ops t.rows in
    told_keeps (stamp_answer s t) (tx_outcome s actor ops now t) (λ fresh.
    told_keeps (ops_answer (ops_fault ops)) (accepted s (lane_answers.Done true) (record t { rows = after })) (λ fine.
    accepted_keeps s (lane_answers.Done true) (record t { rows = after }) fits.0 (flag_fits true) (with_states t after all (ops_keep actor now None ops t.rows fits.1.0 below (ops_in ops fits.1.1) all.states))))
outcome_keeps t (Get actor key) now fits below all = tt
outcome_keeps t (PutReminder s actor name reminder) now fits below all =
    let after = put_row actor name reminder t.reminders in
    told_keeps (stamp_answer s t) (put_outcome s actor name reminder t) (λ fresh.
    accepted_keeps s (lane_answers.Done true) (record t { reminders = after }) fits.0 (flag_fits true) (with_reminders t after all (put_keeps actor name reminder t.reminders fits.1 all.reminders)))
outcome_keeps t (GetReminder actor name) now fits below all = tt
outcome_keeps t (DeleteReminder s actor name) now fits below all =
    let after = without_row actor name t.reminders in
    told_keeps (stamp_answer s t) (delete_outcome s actor name t) (λ fresh.
    accepted_keeps s _ (record t { reminders = after }) fits.0 (flag_fits _) (with_reminders t after all (each_without ReminderFits (at_name actor name) t.reminders all.reminders)))
outcome_keeps t (Due after limit) now fits below all = tt
outcome_keeps t (Fired s actor name moment) now fits below all =
    let row = row_at actor name t.reminders in
    let after = fired_rows actor name row moment (nanos_of now) t.reminders in
    told_keeps (stamp_answer s t) (fired_outcome s actor name moment (nanos_of now) t) (λ fresh.
    fired_by (fired_answer row moment (nanos_of now)) (λ n. accepted s (lane_answers.NextIs n) (record t { reminders = after })) (λ n is.
    accepted_keeps s (lane_answers.NextIs n) (record t { reminders = after }) fits.0 (next_answer n (told_next row moment (nanos_of now) n (λ e found. each_found ReminderFits (at_name actor name) t.reminders e found all.reminders) is))
    (with_reminders t after all (fired_keeps actor name moment (nanos_of now) t.reminders all.reminders))))

command_fits : (c : StoreCommand) → command.Fits c → CommandFits c
unfolding command
command_fits c fits = fits

pub keeps_fit : KeepsFit
keeps_fit t c answer after may is all = subst Keeps is (outcome_keeps t c.command c.now (command_fits c.command may.command) may.now all)

-- ---- rows

with_row_keeps : (r : TableRow) (t : Tables) → RowFits r → TablesFit t → TablesFit (with_row r t)
with_row_keeps (rows.Boot space node n) t fits all =
    let nodes = bare_keeps space node n t.nodes fits all.boots all.lanes in
    record { boots = nodes.0; lanes = nodes.1; states = all.states; reminders = all.reminders }
with_row_keeps (rows.Lane m part floor kept) t fits all =
    let nodes = lane_keeps m (record { part = part; floor = floor; kept = kept }) t.nodes fits all.boots all.lanes in
    record { boots = nodes.0; lanes = nodes.1; states = all.states; reminders = all.reminders }
with_row_keeps (rows.State e) t fits all = with_states t _ all (each_put state_fields.Fits row_cmp e t.rows fits all.states)
with_row_keeps (rows.Reminder actor name r) t fits all = with_reminders t _ all (put_keeps actor name r t.reminders fits all.reminders)

row_keeps : (r : TableRow) (t u : Tables) → RowFits r → restored r t ≡ Some u → TablesFit t → TablesFit u
row_keeps r t u fits is all = go (is_taken r t) is
  where
    go : (b : Bool) → (if b then Some (with_row r t) else None) ≡ Some u → TablesFit u
    go true is = subst TablesFit (let same : with_row r t ≡ u = cc in same) (with_row_keeps r t fits all)
    go false is = absurd (let f : None ≡ Some u = is in cc)

row_fits : (r : TableRow) → table_row.Fits r → RowFits r
unfolding table_row
row_fits r fits = fits

-- ---- folds

act_keeps : (c : StoreCommand) (now : ℕ) (f g : Folded) → CommandFits c → now < end_of_moments → after_act c now f ≡ Some g → TablesFit f.tables → TablesFit g.tables
act_keeps c now f g fits below is all = go (store_outcome f.tables c now) (outcome_keeps f.tables c now fits below all) is
  where
    go : (o : Outcome) → Keeps o → option_map with_act (accepted_in o) ≡ Some g → TablesFit g.tables
    go (Told answer) keeps is = absurd (let n : None ≡ Some g = is in cc)
    go (Accepted answer after) keeps is = subst (λ (h : Folded). TablesFit h.tables) (let same : with_act after ≡ g = cc in same) keeps

set_keeps : (r : TableRow) (f g : Folded) → RowFits r → after_set r f ≡ Some g → TablesFit f.tables → TablesFit g.tables
set_keeps r f g fits is all = go (may_come f.place (key_of r)) is
  where
    taken : (o : Option Tables) → restored r f.tables ≡ o → option_map (with_set r) o ≡ Some g → TablesFit g.tables
    taken None there is = absurd (let n : None ≡ Some g = is in cc)
    taken (Some u) there is = subst (λ (h : Folded). TablesFit h.tables) (let same : with_set r u ≡ g = cc in same) (row_keeps r f.tables u fits there all)

    go : (b : Bool) → (if b then option_map (with_set r) (restored r f.tables) else None) ≡ Some g → TablesFit g.tables
    go true is = taken (restored r f.tables) refl is
    go false is = absurd (let n : None ≡ Some g = is in cc)

body_keeps : (x : PayloadBody) (now : ℕ) (f g : Folded) → BodyFits x → now < end_of_moments → after_body x now f ≡ Some g → TablesFit f.tables → TablesFit g.tables
body_keeps (Command c) now f g fits below is all = act_keeps c now f g (command_fits c fits) below is all
body_keeps (Row r) now f g fits below is all = set_keeps r f g (row_fits r fits) is all

-- one more payload
pub folded_keeps : (o : Option StorePayload) (f g : Folded) → ((p : StorePayload) → o ≡ Some p → PayloadFits p) → folded o f ≡ Some g → TablesFit f.tables → TablesFit g.tables
folded_keeps None f g fits is all = absurd (let n : None ≡ Some g = is in cc)
folded_keeps (Some p) f g fits is all = let one = fits p refl in body_keeps p.body p.now f g one.body one.now is all

-- the same, by whether it was taken
pub taken_fits : {E : Type 0} (r : Result Bool E) (p : StorePayload) (f g : Folded) → PayloadFits p → IfOk r (λ done. folded (Some p) f ≡ (if done then Some g else None)) → IfOk r (λ done. done ≡ true → TablesFit f.tables → TablesFit g.tables)
taken_fits (Ok done) p f g fits is = λ yes all.
    folded_keeps (Some p) f g (λ q same. subst PayloadFits (let one : p ≡ q = cc in one) fits) (is ∙ ap (λ (b : Bool). if b then Some g else None) yes) all
taken_fits (Err e) p f g fits is = tt

-- a fold that begins
pub start_fits : (is_snapshot : Bool) → TablesFit (start is_snapshot).tables
start_fits true = none_fit
start_fits false = none_fit
