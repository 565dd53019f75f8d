-- Worked examples of what replies come to.
use Rattle.std.proofs.Common.{◌≡◌, ℕ, List, Ok, Err, true, false, refl}
use Rattle.actor_names.specs.declared.actor_key.ActorKey.{ActorKey}
use Rattle.state_rows.specs.declared.op.StateOp.{StateOp}
use Rattle.step_gate.specs.declared.gate.Spent.{Spent}
use Rattle.part_model.specs.declared.event.Reply.TheVariants as replies
use Rattle.timer_book.specs.declared.event.TimerReply.TheVariants as book
use Rattle.frame_wire.specs.declared.frame.Frame.TheVariants.{Command, FencedTx}
use Rattle.frame_wire.specs.declared.store_command.Stamp.{Stamp}
use Rattle.frame_wire.specs.declared.store_command.StoreCommand.TheVariants as commands
use Rattle.frame_wire.specs.declared.store_answer.StoreAnswer.TheVariants as answers
use Rattle.frame_wire.specs.declared.store_refusal.StoreRefusal.TheVariants as refused_by
use Rattle.actors_api.specs.declared.reply.ApiReply.TheVariants as api
use Rattle.actors_api.specs.declared.refusal.ApiRefusal.TheVariants as refusals
use Rattle.exchanges.specs.declared.store_end.StoreEnd.TheVariants as ends
use Rattle.sidecar_requests.specs.declared.ask.StoreAsk.TheVariants as asks
use Rattle.sidecar_requests.specs.declared.ask.Wanted.TheVariants as wanted
use Rattle.sidecar_requests.specs.Asks.{store_frame}
use Rattle.sidecar_requests.specs.Outcomes.{refused, refusal_of, store_answer, held_answer, unasked_answer, timer_answer}

-- ---- the success of each request

transaction_is_made : held_answer wanted.Transaction (Ok replies.Released) (Ok (answers.Done true)) ≡ api.TransactionMade
transaction_is_made = refl

absent_state_is_told : held_answer wanted.State (Ok replies.Released) (Ok answers.NotThere) ≡ api.NoState
absent_state_is_told = refl

missing_reminder_is_told : store_answer wanted.Reminder (Ok answers.NotThere) ≡ refused refusals.NoReminder
missing_reminder_is_told = refl

deleting_nothing_succeeds : store_answer wanted.DeleteReminder (Ok (answers.Done false)) ≡ api.ReminderDeleted
deleting_nothing_succeeds = refl

timer_is_set : (n : ℕ) → timer_answer (Ok replies.Released) (Ok (book.WasSet n)) ≡ api.TimerSet
timer_is_set n = refl

-- ---- causes

inactive_actor : refusal_of replies.NotActive ≡ refusals.NotActive
inactive_actor = refl

store_refuses : held_answer wanted.Transaction (Ok replies.Released) (Ok (answers.Refused refused_by.DiskFault)) ≡ refused (refusals.StoreRefused 10)
store_refuses = refl

-- a Release that says Stopped goes before what the store and the book said, and not before want of memory
stop_hides_refusal : held_answer wanted.Transaction (Ok replies.Stopped) (Ok (answers.Refused refused_by.DiskFault)) ≡ refused refusals.Stopped
stop_hides_refusal = refl

stop_hides_full_book : timer_answer (Ok replies.Stopped) (Ok book.Full) ≡ refused refusals.Stopped
stop_hides_full_book = refl

memory_hides_stop : held_answer wanted.State (Ok replies.Stopped) (Err ends.OutOfMemory) ≡ refused refusals.OutOfMemory
memory_hides_stop = refl

-- a gate that took no entry goes before all
spent_hides_memory : (e : Spent) → held_answer wanted.State (Err e) (Err ends.OutOfMemory) ≡ refused refusals.Spent
spent_hides_memory e = refl

spent_book_is_told : (e : Spent) → timer_answer (Ok replies.Stopped) (Err e) ≡ refused refusals.Spent
spent_book_is_told e = refl

-- ---- epochs

write_is_fenced : (stamp : Stamp) (actor : ActorKey) (ops : List StateOp) → store_frame actor stamp 3 (asks.Transact ops) ≡ FencedTx 3 stamp actor ops
write_is_fenced stamp actor ops = refl

read_has_no_epoch : (stamp : Stamp) (actor : ActorKey) (key : List ℕ) → store_frame actor stamp 3 (asks.GetState key) ≡ Command (commands.Get actor key)
read_has_no_epoch stamp actor key = refl

earlier_epoch_is_told : held_answer wanted.Transaction (Ok replies.Released) (Ok (answers.Refused (refused_by.StaleEpoch 3))) ≡ refused (refusals.StoreRefused 14)
earlier_epoch_is_told = refl

-- a part that has stopped tells no epoch, and only a gate that took no Release goes before that
stop_ends_write : unasked_answer (Ok replies.Stopped) (refusal_of replies.Stopped) ≡ refused refusals.Stopped
stop_ends_write = refl

spent_hides_stop : (e : Spent) → unasked_answer (Err e) (refusal_of replies.Stopped) ≡ refused refusals.Spent
spent_hides_stop e = refl
