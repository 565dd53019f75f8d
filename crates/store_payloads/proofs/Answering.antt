-- What a store answers has the forms and ranges of its frame.
use Rattle.std.proofs.Common.{◌≡◌, ◌<◌, ◌≤◌, ◌+◌, ◌-◌, ◌/◌, ◌%◌, ◌^◌, ℕ, zero, suc, Bool, true, false, List, [], ◌∷◌, length, Option, Some, None, refl, sym, ap, ◌∙◌, subst, arith}
use Rattle.std.specs.Prelude.{Result, Ok, Err, if◌then◌else◌, nat_lt, nat_le, ◌&&◌, ◌||◌, ◌==◌, is_none, filter, take}
use Rattle.std.proofs.lemmas.Bool.Decides.{nat_tests}
use Rattle.actor_names.specs.declared.actor_key.ActorKey.{ActorKey}
use Rattle.schedule_text.specs.declared.advance.Next.{Next}
use Rattle.schedule_text.specs.Range.{end_of_time}
use Rattle.stamp_lanes.specs.declared.answer.LaneAnswer.{LaneAnswer}
use Rattle.stamp_lanes.specs.declared.answer.LaneAnswer.TheVariants as lane_answers
use Rattle.stamp_lanes.specs.declared.answer.KeptNumber.{KeptNumber}
use Rattle.stamp_lanes.specs.declared.answer.StampLook.{StampLook}
use Rattle.stamp_lanes.specs.declared.answer.StampLook.TheVariants.{Fresh, Kept}
use Rattle.stamp_lanes.specs.declared.error.StampError.{StampError}
use Rattle.stamp_lanes.specs.declared.error.StampError.TheVariants.{OtherBoot, OldSeq}
use Rattle.stamp_lanes.specs.declared.error.BootError.{BootError}
use Rattle.stamp_lanes.specs.declared.error.BootError.TheVariants.{NodesFull, Spent}
use Rattle.stamp_lanes.specs.declared.lane.Lane.{Lane}
use Rattle.stamp_lanes.specs.declared.node.NodeLanes.{NodeLanes}
use Rattle.stamp_lanes.specs.Kept.{kept_answer}
use Rattle.stamp_lanes.specs.Lanes.{answered, look_lane, lane_of}
use Rattle.stamp_lanes.specs.Stamps.{at_node, node_at, look_node, look, greatest_boot, spent_fault, draw_fault}
use Rattle.stamp_lanes.specs.Restores.{member_of}
use Rattle.state_rows.specs.declared.entry.StateEntry.{StateEntry}
use Rattle.state_rows.specs.declared.error.StateError.{StateError}
use Rattle.state_rows.specs.declared.error.StateError.TheVariants.{TooManyOps, KeyTooLong, ValueTooLong, OutOfMemory}
use Rattle.state_rows.specs.declared.op.StateOp.{StateOp}
use Rattle.state_rows.specs.declared.op.StateOp.TheVariants.{Upsert, Delete}
use Rattle.state_rows.specs.Checks.{key_fault, value_fault, first_of, op_fault, first_fault, ops_fault}
use Rattle.state_rows.specs.Entries.{entry_at, at_row, is_over, value_by, value_at}
use Rattle.reminder_rows.specs.declared.reminder.Reminder.{Reminder}
use Rattle.reminder_rows.specs.declared.row.ReminderRow.{ReminderRow}
use Rattle.reminder_rows.specs.declared.row.DueKey.{DueKey}
use Rattle.reminder_rows.specs.declared.error.FiredError.{FiredError}
use Rattle.reminder_rows.specs.declared.error.FiredError.TheVariants as fired_errors
use Rattle.reminder_rows.specs.Reminders.{row_at, at_name, reminder_in, by_due, due_cmp, is_after, is_due, due_keys, next_of, fired_answer, IsTimely, AreTimely}
use Rattle.lists_and_limits.specs.Lists.{found}
use Rattle.wire_fields.specs.Fields.{byte, number16, number32, number64, both, only, maybe, in_any_order, AllFit, MaybeFits}
use Rattle.wire_fields.specs.Parts.{boot, counter, fixed, small, flag, member}
use Rattle.wire_fields.specs.Records.{text, blob, moment, schedule, reminder, next, NextFits, op, ops_list, due_key}
use Rattle.frame_wire.specs.declared.store_answer.StoreAnswer.{StoreAnswer}
use Rattle.frame_wire.specs.declared.store_answer.StoreAnswer.TheVariants.{Booted, Done, Value, NotThere, ReminderIs, DueList, NextIs, Refused}
use Rattle.frame_wire.specs.declared.store_answer.DueEntry.{DueEntry}
use Rattle.frame_wire.specs.declared.store_command.StoreCommand.{StoreCommand}
use Rattle.frame_wire.specs.declared.store_command.StoreCommand.TheVariants.{Boot, Tx, Get, PutReminder, GetReminder, DeleteReminder, Due, Fired}
use Rattle.frame_wire.specs.declared.store_command.Stamp.{Stamp}
use Rattle.frame_wire.specs.declared.store_refusal.StoreRefusal.{StoreRefusal}
use Rattle.frame_wire.specs.declared.store_refusal.StoreRefusal.TheVariants as refusals
use Rattle.frame_wire.specs.Store.{command, CommandFits, AnswerFits}
use Rattle.frame_wire.specs.StoreParts.{stamp, due_limit, due_entry, due_entries, clock, store_refusal, StoreRefusalFits}
use Rattle.store_tables.specs.Dues.{entry_of, with_entry, entries_of, entry_size, fitting, entries_room, due_list}
use Rattle.store_tables.specs.Tables.{Tables, Outcome, Told, Accepted, told_or, nanos_of, kept_as, stamp_refusal, look_answer, stamp_answer, accepted, boot_refusal, boot_answer, state_refusal, ops_answer, value_answer, reminder_answer, fired_refusal, by_fired, fired_outcome, tx_outcome, put_outcome, delete_outcome, store_outcome}
use Rattle.store_tables.specs.Contents.{Timed, outcome_of}
use Rattle.store_payloads.specs.Fields.{AnswerFits as KeptFits, lane_answer, kept_number, state_fields, reminder_fields, boot_fields}
use Rattle.std.specs.List.{AllByRecursion as Each}
use Rattle.store_payloads.specs.Fits.{BootFits, LanesFit, ReminderFits, TablesFit}
use Rattle.store_payloads.specs.Laws.{OutcomeFits}
use Rattle.lists_and_limits.proofs.Each.{each_found, each_put}
use Rattle.store_payloads.proofs.Keeping.{LaneParts, lane_found, member_fits, may_draw, next_boot, firing_fits, schedule_in}

-- ---- what is told and what is accepted

abbrev pub ToldFits : Option StoreAnswer → Type 0
ToldFits None = Unit {0}
ToldFits (Some answer) = AnswerFits answer

pub or_fits : (told : Option StoreAnswer) (o : Outcome) → ToldFits told → (told ≡ None → OutcomeFits o) → OutcomeFits (told_or told o)
or_fits None o fits rest = rest refl
or_fits (Some answer) o fits rest = fits

pub refused_fits : (r : StoreRefusal) → StoreRefusalFits r → AnswerFits (Refused r)
unfolding store_refusal
refused_fits r fits = fits

zero_fits : (fixed 0).Fits tt
unfolding number64
zero_fits = (omega arith, refl)

number_fits : (n : ℕ) → n < 2 ^ 64 → number64.Fits n
unfolding number64
number_fits n low = low

-- ---- stamps

abbrev LookFits : Result StampLook StampError → Type 0
LookFits (Err (OtherBoot greatest)) = greatest ≤ 2 ^ 62
LookFits (Err (OldSeq floor)) = floor < 2 ^ 64
LookFits (Ok (Kept answer)) = KeptFits answer
LookFits (Ok Fresh) = Unit {0}

counter_fits : (n : ℕ) → n ≤ 2 ^ 62 → counter.Fits n
unfolding counter number64
counter_fits n low = (omega arith, grind (arith, nat_tests))

kept_told : (a : LaneAnswer) → KeptFits a → AnswerFits (kept_as a)
kept_told (lane_answers.Done existed) fits = fits
kept_told (lane_answers.NextIs n) fits = fits

look_told : (r : Result StampLook StampError) → LookFits r → ToldFits (look_answer r)
look_told (Err (OtherBoot greatest)) fits = refused_fits (refusals.OtherBoot greatest) (counter_fits greatest fits, zero_fits)
look_told (Err (OldSeq floor)) fits = refused_fits (refusals.OldSeq floor) (number_fits floor fits, zero_fits)
look_told (Ok (Kept answer)) fits = kept_told answer fits
look_told (Ok Fresh) fits = tt

kept_fits : (k : KeptNumber) → kept_number.Fits k → KeptFits k.answer
unfolding kept_number lane_answer
kept_fits k fits = fits.1

kept_in : (number : ℕ) (before : Option KeptNumber) (ks : List KeptNumber) (a : LaneAnswer) → AllFit (in_any_order kept_number) before ks → kept_answer number ks ≡ Some a → KeptFits a
kept_in number before [] a all is = absurd (let n : None ≡ Some a = is in cc)
kept_in number before (k ∷ ks) a all is = go (k.number == number) (λ rest. kept_in number (Some k) ks a all.1 rest) is
  where
    go : (b : Bool) → (kept_answer number ks ≡ Some a → KeptFits a) → (if b then Some k.answer else kept_answer number ks) ≡ Some a → KeptFits a
    go true later is = subst KeptFits (let same : k.answer ≡ a = cc in same) (kept_fits k all.0)
    go false later is = later is

lane_look : (e : NodeLanes) (number : ℕ) (l : Lane) → LaneParts e l → LookFits (look_lane number l)
lane_look e number l parts = go (kept_answer number l.kept) refl
  where
    by : (b : Bool) → LookFits (if b then Err (OldSeq l.floor) else Ok Fresh)
    by true = parts.floor
    by false = tt

    go : (o : Option LaneAnswer) → kept_answer number l.kept ≡ o → LookFits (answered number l.floor o)
    go None is = by (nat_le number l.floor)
    go (Some a) is = kept_in number None l.kept a parts.numbers is

boot_low : (e : NodeLanes) → BootFits e → e.boot ≤ 2 ^ 62
unfolding boot_fields boot
boot_low e fits = let test = fits.1.1 in grind (arith, nat_tests)

part_in : (s : Stamp) → stamp.Fits s → byte.Fits s.part
unfolding stamp
part_in s fits = fits.1.0

pub stamp_told : (s : Stamp) (t : Tables) → stamp.Fits s → TablesFit t → ToldFits (stamp_answer s t)
stamp_told s t fits all = look_told (look s.member s.part s.number t.nodes) (go (node_at s.member.space s.member.node t.nodes) refl)
  where
    at : (e : NodeLanes) (b : Bool) → BootFits e → LanesFit e → LookFits (if b then look_lane s.number (lane_of s.part e.lanes) else Err (OtherBoot e.boot))
    at e true booted laned = lane_look e s.number (lane_of s.part e.lanes) (lane_found e s.part (member_fits e booted) (part_in s fits) laned)
    at e false booted laned = boot_low e booted

    go : (o : Option NodeLanes) → node_at s.member.space s.member.node t.nodes ≡ o → LookFits (look_node s.member.boot s.part s.number o)
    go None is = omega arith
    go (Some e) is = at e (e.boot == s.member.boot) (each_found BootFits (at_node s.member.space s.member.node) t.nodes e is all.boots) (each_found LanesFit (at_node s.member.space s.member.node) t.nodes e is all.lanes)

pub accepted_fits : (s : Stamp) (a : LaneAnswer) (t : Tables) → KeptFits a → OutcomeFits (accepted s a t)
accepted_fits s a t fits = kept_told a fits

pub done_fits : (b : Bool) → KeptFits (lane_answers.Done b)
unfolding flag
done_fits b = tt

-- ---- boots

pub boot_told : (space node : List ℕ) (nodes : List NodeLanes) → ToldFits (boot_answer (draw_fault space node nodes))
unfolding small number64
boot_told space node nodes = go (is_none (node_at space node nodes) && nat_le 65536 (length nodes))
  where
    spent : (b : Bool) → ToldFits (boot_answer (if b then Some Spent else None))
    spent true = refused_fits refusals.Spent ((omega arith, refl), zero_fits)
    spent false = tt

    go : (b : Bool) → ToldFits (boot_answer (if b then Some (NodesFull 65536) else spent_fault (greatest_boot nodes)))
    go true = refused_fits (refusals.NodesFull 65536) ((omega arith, refl), zero_fits)
    go false = spent (nat_le (2 ^ 62) (greatest_boot nodes))

pub no_fault : (o : Option BootError) → boot_answer o ≡ None → o ≡ None
no_fault None is = refl
no_fault (Some e) is = absurd (cc)

-- ---- state

abbrev pub FaultFits : Option StateError → Type 0
FaultFits None = Unit {0}
FaultFits (Some (TooManyOps n)) = n < 2 ^ 64
FaultFits (Some (KeyTooLong at n)) = (at < 2 ^ 64) × (n < 2 ^ 64)
FaultFits (Some (ValueTooLong at n)) = (at < 2 ^ 64) × (n < 2 ^ 64)
FaultFits (Some OutOfMemory) = Unit {0}

pub fault_told : (o : Option StateError) → FaultFits o → ToldFits (ops_answer o)
fault_told None fits = tt
fault_told (Some (TooManyOps n)) fits = refused_fits (refusals.TooManyOps n) (number_fits n fits, zero_fits)
fault_told (Some (KeyTooLong at n)) fits = refused_fits (refusals.KeyTooLong at n) (number_fits at fits.0, number_fits n fits.1)
fault_told (Some (ValueTooLong at n)) fits = refused_fits (refusals.ValueTooLong at n) (number_fits at fits.0, number_fits n fits.1)
fault_told (Some OutOfMemory) fits = refused_fits refusals.OutOfMemory (zero_fits, zero_fits)

earlier_fits : (a b : Option StateError) → FaultFits a → FaultFits b → FaultFits (first_of a b)
earlier_fits None b one other = other
earlier_fits (Some e) b one other = one

key_fits : (at : ℕ) (key : List ℕ) → at < 2 ^ 64 → text.Fits key → FaultFits (key_fault at key)
unfolding text number16
key_fits at key low fits = go ((length key == 0) || nat_lt 256 (length key))
  where
    go : (b : Bool) → FaultFits (if b then Some (KeyTooLong at (length key)) else None)
    go true = let short : length key < 2 ^ 16 = fits.0 in (low, omega arith)
    go false = tt

value_fits : (at : ℕ) (value : List ℕ) → at < 2 ^ 64 → blob.Fits value → FaultFits (value_fault at value)
unfolding blob number32
value_fits at value low fits = go (nat_lt 4194304 (length value))
  where
    go : (b : Bool) → FaultFits (if b then Some (ValueTooLong at (length value)) else None)
    go true = let short : length value < 2 ^ 32 = fits in (low, omega arith)
    go false = tt

op_told : (at : ℕ) (o : StateOp) → at < 2 ^ 64 → op.Fits o → FaultFits (op_fault at o)
unfolding op
op_told at (Upsert key value t) low fits = earlier_fits (key_fault at key) (value_fault at value) (key_fits at key low fits.0) (value_fits at value low fits.1.0)
op_told at (Delete key) low fits = key_fits at key low fits

first_told : (at : ℕ) (before : Option StateOp) (os : List StateOp) → at + length os < 2 ^ 32 → AllFit (in_any_order op) before os → FaultFits (first_fault at os)
first_told at before [] low all = tt
first_told at before (o ∷ os) low all = earlier_fits (op_fault at o) (first_fault (suc at) os) (op_told at o (omega arith) all.0) (first_told (suc at) (Some o) os (omega arith) all.1)

pub ops_told : (os : List StateOp) → ops_list.Fits os → FaultFits (ops_fault os)
unfolding ops_list number16
ops_told os fits = go (nat_lt 1000 (length os))
  where
    go : (b : Bool) → FaultFits (if b then Some (TooManyOps (length os)) else first_fault 0 os)
    go true = let few : length os < 2 ^ 16 = fits.0 in omega arith
    go false = first_told 0 None os (let few : length os < 2 ^ 16 = fits.0 in omega arith) fits.1

value_in : (e : StateEntry) → state_fields.Fits e → blob.Fits e.value
unfolding state_fields
value_in e fits = fits.1.1.0

pub value_told : (actor : ActorKey) (key : List ℕ) (now : ℕ) (es : List StateEntry) → Each state_fields.Fits es → AnswerFits (value_answer (value_at actor key now es))
value_told actor key now es all = go (entry_at actor key es) refl
  where
    over : (e : StateEntry) (b : Bool) → state_fields.Fits e → AnswerFits (value_answer (if b then None else Some e.value))
    over e true fits = tt
    over e false fits = value_in e fits

    go : (o : Option StateEntry) → entry_at actor key es ≡ o → AnswerFits (value_answer (value_by now o))
    go None is = tt
    go (Some e) is = over e (is_over now e.absent) (each_found state_fields.Fits (at_row actor key) es e is all)
