-- No answer of the store has the words by which a frame tells a refusal of the fence.
use Rattle.std.proofs.Common.{◌≡◌, inl, inr, ℕ, Bool, true, false, List, length, Option, Some, None, refl, sym, subst}
use Rattle.std.specs.Prelude.{Result, Ok, Err, nat_lt, if◌then◌else◌}
use Rattle.schedule_text.specs.declared.advance.Next.{Next}
use Rattle.reminder_rows.specs.declared.reminder.Reminder.{Reminder}
use Rattle.reminder_rows.specs.declared.error.FiredError.{FiredError}
use Rattle.reminder_rows.specs.declared.error.FiredError.TheVariants as fired_errors
use Rattle.reminder_rows.specs.Reminders.{row_at, reminder_in, fired_answer}
use Rattle.stamp_lanes.specs.declared.answer.LaneAnswer.{LaneAnswer}
use Rattle.stamp_lanes.specs.declared.answer.LaneAnswer.TheVariants as lane_answers
use Rattle.stamp_lanes.specs.declared.answer.StampLook.{StampLook}
use Rattle.stamp_lanes.specs.declared.answer.StampLook.TheVariants.{Fresh, Kept}
use Rattle.stamp_lanes.specs.declared.error.StampError.{StampError}
use Rattle.stamp_lanes.specs.declared.error.StampError.TheVariants as stamp_errors
use Rattle.stamp_lanes.specs.declared.error.BootError.{BootError}
use Rattle.stamp_lanes.specs.declared.error.BootError.TheVariants as boot_errors
use Rattle.stamp_lanes.specs.Stamps.{draw_fault, look}
use Rattle.state_rows.specs.declared.error.StateError.{StateError}
use Rattle.state_rows.specs.declared.error.StateError.TheVariants as state_errors
use Rattle.state_rows.specs.declared.op.StateOp.{StateOp}
use Rattle.state_rows.specs.Checks.{ops_fault}
use Rattle.state_rows.specs.Entries.{value_at}
use Rattle.frame_wire.specs.declared.store_answer.StoreAnswer.{StoreAnswer}
use Rattle.frame_wire.specs.declared.store_answer.StoreAnswer.TheVariants.{NotThere, Refused}
use Rattle.frame_wire.specs.declared.store_command.Stamp.{Stamp}
use Rattle.frame_wire.specs.declared.store_command.StoreCommand.{StoreCommand}
use Rattle.frame_wire.specs.declared.store_command.StoreCommand.TheVariants.{Boot, Tx, Get, PutReminder, GetReminder, DeleteReminder, Due, Fired}
use Rattle.frame_wire.specs.declared.store_refusal.StoreRefusal.TheVariants as refusals
use Rattle.tx_journal.specs.declared.error.JournalError.{JournalError}
use Rattle.tx_journal.specs.declared.error.JournalError.TheVariants as errors
use Rattle.tx_journal.specs.Calls.{append_refusal}
use Rattle.store_tables.specs.Tables.{Tables, Outcome, Told, Accepted, told_or, nanos_of, kept_as, look_answer, stamp_answer, boot_answer, ops_answer, value_answer, reminder_answer, tx_outcome, by_fired, fired_outcome, store_outcome}
use Rattle.store_tables.specs.Contents.{Timed, outcome_of}
use Rattle.store_payloads.specs.Payloads.{command_payload}
use Rattle.store_core.specs.Store.{StoreState, Moves, Goes, Writes}
use Rattle.fence_rows.specs.declared.event.FencedAnswer.{FencedAnswer}
use Rattle.fence_rows.specs.declared.event.FencedAnswer.TheVariants as answers
use Rattle.fence_rows.specs.declared.event.FencedCommand.{FencedCommand}
use Rattle.fence_rows.specs.declared.event.FencedCommand.TheVariants as fenced
use Rattle.fence_rows.specs.Epochs.{is_epoch_key, actor_epoch}
use Rattle.fence_rows.specs.Fences.{given_at, first_answer, reopen_answer, stale_answer, reserved_from, reserved_answer, many_answer, tx_answer, plain_answer, epoch_answer, fence_answer, RunsOut, Follows}
use Rattle.fence_rows.specs.Runs.{IsNoneOfFence, TellsApart}

-- ---- what the contents tell

abbrev AllNone : Option StoreAnswer → Type 0
AllNone None = Unit {0}
AllNone (Some given) = IsNoneOfFence given

abbrev HasNone : Outcome → Type 0
HasNone (Told given) = IsNoneOfFence given
HasNone (Accepted given after) = IsNoneOfFence given

or_none : (told : Option StoreAnswer) (o : Outcome) → AllNone told → HasNone o → HasNone (told_or told o)
or_none None o told has = has
or_none (Some given) o told has = told

kept_none : (answer : LaneAnswer) → IsNoneOfFence (kept_as answer)
kept_none (lane_answers.Done existed) = tt
kept_none (lane_answers.NextIs next) = tt

look_none : (r : Result StampLook StampError) → AllNone (look_answer r)
look_none (Err (stamp_errors.OtherBoot greatest)) = tt
look_none (Err (stamp_errors.OldSeq floor)) = tt
look_none (Ok (Kept answer)) = kept_none answer
look_none (Ok Fresh) = tt

stamp_none : (s : Stamp) (t : Tables) → AllNone (stamp_answer s t)
stamp_none s t = look_none (look s.member s.part s.number t.nodes)

boot_none : (o : Option BootError) → AllNone (boot_answer o)
boot_none None = tt
boot_none (Some (boot_errors.NodesFull nodes)) = tt
boot_none (Some boot_errors.Spent) = tt
boot_none (Some boot_errors.OutOfMemory) = tt

ops_none : (o : Option StateError) → AllNone (ops_answer o)
ops_none None = tt
ops_none (Some (state_errors.TooManyOps n)) = tt
ops_none (Some (state_errors.KeyTooLong op n)) = tt
ops_none (Some (state_errors.ValueTooLong op n)) = tt
ops_none (Some state_errors.OutOfMemory) = tt

value_none : (o : Option (List ℕ)) → IsNoneOfFence (value_answer o)
value_none None = tt
value_none (Some value) = tt

reminder_none : (o : Option Reminder) → IsNoneOfFence (reminder_answer o)
reminder_none None = tt
reminder_none (Some r) = tt

fired_none : (r : Result Next FiredError) (fired : Next → Outcome) → ((next : Next) → HasNone (fired next)) → HasNone (by_fired r fired)
fired_none (Ok next) fired has = has next
fired_none (Err fired_errors.NotThere) fired has = tt
fired_none (Err (fired_errors.OtherMoment next)) fired has = tt

outcome_none : (t : Tables) (c : StoreCommand) (now : ℕ) → HasNone (store_outcome t c now)
unfolding store_outcome
outcome_none t (Boot space node) now = or_none (boot_answer (draw_fault space node t.nodes)) _ (boot_none (draw_fault space node t.nodes)) tt
outcome_none t (Tx s actor ops) now = or_none (stamp_answer s t) (tx_outcome s actor ops now t) (stamp_none s t) (or_none (ops_answer (ops_fault ops)) _ (ops_none (ops_fault ops)) tt)
outcome_none t (Get actor key) now = value_none (value_at actor key now t.rows)
outcome_none t (PutReminder s actor name reminder) now = or_none (stamp_answer s t) _ (stamp_none s t) tt
outcome_none t (GetReminder actor name) now = reminder_none (reminder_in (row_at actor name t.reminders))
outcome_none t (DeleteReminder s actor name) now = or_none (stamp_answer s t) _ (stamp_none s t) tt
outcome_none t (Due after limit) now = tt
outcome_none t (Fired s actor name moment) now =
    or_none (stamp_answer s t) (fired_outcome s actor name moment (nanos_of now) t) (stamp_none s t) (fired_none (fired_answer (row_at actor name t.reminders) moment (nanos_of now)) _ (λ next. tt))

-- ---- what the store answers

module _ (c : Timed) (old : StoreState) (given : StoreAnswer) (new : StoreState) where
  is_none : (said : StoreAnswer) → IsNoneOfFence said → given ≡ said → IsNoneOfFence given
  is_none said none is = subst IsNoneOfFence (sym is) none

  written_none : (r : Option JournalError) (said : StoreAnswer) (after : Tables) → IsNoneOfFence said → Writes r (command_payload c) said after old given new → IsNoneOfFence given
  written_none None said after none (inl done) = is_none said none done.answer_
  written_none None said after none (inr failed) = is_none (Refused refusals.DiskFault) tt failed.answer_
  written_none (Some (errors.TooLong n)) said after none w = is_none (Refused (refusals.CommandTooLong n)) tt w.0
  written_none (Some (errors.Full len)) said after none w = is_none (Refused (refusals.Full len)) tt w.0
  written_none (Some errors.Reopen) said after none w = absurd w
  written_none (Some errors.DiskFault) said after none w = absurd w
  written_none (Some (errors.Damaged offset)) said after none w = absurd w
  written_none (Some errors.NotStarted) said after none w = absurd w
  written_none (Some errors.OneDisk) said after none w = absurd w
  written_none (Some (errors.Spent count)) said after none w = absurd w
  written_none (Some errors.OutOfMemory) said after none w = absurd w

  goes_none : (o : Outcome) → HasNone o → Goes o c old given new → IsNoneOfFence given
  goes_none (Told said) none goes = is_none said none goes.0
  goes_none (Accepted said after) none goes = written_none (append_refusal old.journal (command_payload c)) said after none goes

  pub moves_none : Moves old c given new → IsNoneOfFence given
  moves_none moves = go old.journal.is_broken refl
    where
      go : (b : Bool) → old.journal.is_broken ≡ b → IsNoneOfFence given
      go true broken = is_none (Refused refusals.Reopen) tt (moves.broken broken).0
      go false works = elim (moves.works works) [
        | inl ran ↦ is_none (Refused refusals.OutOfMemory) tt ran.0
        | inr goes ↦ goes_none (outcome_of old.contents c) (outcome_none old.contents c.command c.now) goes
      ]

-- ---- what the fence answers with the store's words

abbrev Apart : FencedAnswer → Type 0
Apart (answers.Answer given) = IsNoneOfFence given
Apart answer = Unit {0}

abbrev AllApart : Option FencedAnswer → Type 0
AllApart None = Unit {0}
AllApart (Some answer) = Apart answer

first_apart : (first later : Option FencedAnswer) → AllApart first → AllApart later → AllApart (first_answer first later)
first_apart None later one two = two
first_apart (Some answer) later one two = one

reopen_apart : (b : Bool) → AllApart (reopen_answer b)
reopen_apart true = tt
reopen_apart false = tt

by_test : (b : Bool) (answer : FencedAnswer) → Apart answer → AllApart (if b then Some answer else None)
by_test true answer apart = apart
by_test false answer apart = tt

reserved_apart : (op : Option ℕ) → AllApart (reserved_answer op)
reserved_apart None = tt
reserved_apart (Some op) = tt

tx_apart : (epoch : ℕ) (ops : List StateOp) (is_broken : Bool) (seen : ℕ) → AllApart (tx_answer epoch ops is_broken seen)
tx_apart epoch ops is_broken seen =
    first_apart (reopen_answer is_broken) _ (reopen_apart is_broken)
    (first_apart (stale_answer epoch seen) _ (by_test (nat_lt epoch seen) (answers.StaleEpoch seen) tt)
    (first_apart (reserved_answer (reserved_from 0 ops)) (many_answer (length ops)) (reserved_apart (reserved_from 0 ops))
    (by_test (nat_lt 999 (length ops)) (answers.Answer (Refused (refusals.TooManyOps (length ops)))) tt)))

plain_apart : (c : StoreCommand) → AllApart (plain_answer c)
plain_apart (Get actor key) = by_test (is_epoch_key key) (answers.Answer NotThere) tt
plain_apart c = tt

epoch_apart : (epoch : ℕ) (c : StoreCommand) (now : ℕ) (s : StoreState) → AllApart (epoch_answer epoch c now s)
epoch_apart epoch (Tx r actor ops) now s = tx_apart epoch ops s.journal.is_broken (actor_epoch actor now s.contents)
epoch_apart epoch c now s = tt

fence_apart : (command : FencedCommand) (now : ℕ) (s : StoreState) → AllApart (fence_answer command now s)
fence_apart (fenced.Plain c) now s = plain_apart c
fence_apart (fenced.Tx epoch c) now s = epoch_apart epoch c now s

ran_apart : (command : FencedCommand) (old new : StoreState) (given : StoreAnswer) → RunsOut command old (answers.Answer given) new → IsNoneOfFence given
ran_apart (fenced.Plain c) old new given ran = absurd ran
ran_apart (fenced.Tx epoch c) old new given ran = subst Apart (sym ran.0) tt

follows_apart : (o : Option FencedAnswer) (c : Timed) (old new : StoreState) (given : StoreAnswer) → AllApart o → Follows o c old (answers.Answer given) new → IsNoneOfFence given
follows_apart (Some answer) c old new given apart follows = subst Apart (sym follows.0) apart
follows_apart None c old new given apart follows = moves_none c old given new follows

pub tells_apart : TellsApart
tells_apart old new command now given allows = elim allows.0 [
  | inl ran ↦ ran_apart command old new given ran
  | inr follows ↦ follows_apart (fence_answer command now old) (given_at command now) old new given (fence_apart command now old) follows
]
