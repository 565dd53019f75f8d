-- What replies of parts, of books of timers and of the store come to. Own.
use Rattle.std.specs.Prelude.{Result, Ok, Err}
use Rattle.step_gate.specs.declared.gate.Spent.{Spent}
use Rattle.part_model.specs.Receipts.{PartReply}
use Rattle.part_model.specs.declared.event.Reply.TheVariants as replies
use Rattle.timer_book.specs.declared.event.TimerReply.{TimerReply}
use Rattle.timer_book.specs.declared.event.TimerReply.TheVariants as book
use Rattle.frame_wire.specs.declared.store_answer.StoreAnswer.{StoreAnswer}
use Rattle.frame_wire.specs.declared.store_answer.StoreAnswer.TheVariants as answers
use Rattle.frame_wire.specs.StoreParts.{store_refusal_tag}
use Rattle.actors_api.specs.declared.reply.ApiReply.{ApiReply}
use Rattle.actors_api.specs.declared.reply.ApiReply.TheVariants as api
use Rattle.actors_api.specs.declared.refusal.ApiRefusal.{ApiRefusal}
use Rattle.actors_api.specs.declared.refusal.ApiRefusal.TheVariants as refusals
use Rattle.sidecar_node.specs.Turns.{Said}
use Rattle.exchanges.specs.declared.store_end.StoreEnd.TheVariants as ends
use Rattle.exchanges.specs.Asked.{Got}
use Rattle.sidecar_requests.specs.declared.ask.Wanted.{Wanted}
use Rattle.sidecar_requests.specs.declared.ask.Wanted.TheVariants as wanted

-- what a call on a book of timers comes to: a reply, or the gate took no further entry
abbrev pub BookSaid : Type 0
BookSaid = Result TimerReply Spent

abbrev pub refused : ApiRefusal → ApiReply
refused refusal = api.Refused refusal

-- The refusal that the reply to a Hold, a Draw or a Lock is, by its row. No such event has any other reply that refuses
-- it; for those the free answer stands, so that each other row is exact.
abbrev pub refusal_of : PartReply → ApiRefusal
refusal_of replies.NotActive = refusals.NotActive
refusal_of (replies.Spent count) = refusals.Spent
refusal_of replies.Stopped = refusals.Stopped
refusal_of reply = refusals.OutOfMemory

-- ---- the store

-- what Done comes to; it is no answer to the others
abbrev pub done_answer : Wanted → ApiReply
done_answer wanted.Transaction = api.TransactionMade
done_answer wanted.PutReminder = api.ReminderPut
done_answer wanted.DeleteReminder = api.ReminderDeleted
done_answer wanted.State = refused refusals.StoreReply
done_answer wanted.Reminder = refused refusals.StoreReply

-- the reply where there is no such entry; it is no answer to the others
abbrev pub missing_answer : Wanted → ApiReply
missing_answer wanted.State = api.NoState
missing_answer wanted.Reminder = refused refusals.NoReminder
missing_answer wanted.Transaction = refused refusals.StoreReply
missing_answer wanted.PutReminder = refused refusals.StoreReply
missing_answer wanted.DeleteReminder = refused refusals.StoreReply

-- what an answer of the store comes to
abbrev pub told_answer : Wanted → StoreAnswer → ApiReply
told_answer w (answers.Done existed) = done_answer w
told_answer w (answers.Value value) = api.StateIs value
told_answer w answers.NotThere = missing_answer w
told_answer w (answers.ReminderIs due period ttl payload) = api.ReminderIs due period ttl payload
told_answer w (answers.Refused refusal) = refused (refusals.StoreRefused (store_refusal_tag refusal))
told_answer w (answers.Booted boot) = refused refusals.StoreReply
told_answer w (answers.DueList entries) = refused refusals.StoreReply
told_answer w (answers.NextIs next) = refused refusals.StoreReply

-- what an exchange with the store comes to
abbrev pub store_answer : Wanted → Got → ApiReply
store_answer w (Ok answer) = told_answer w answer
store_answer w (Err ends.Fault) = refused refusals.StoreFault
store_answer w (Err ends.Unreadable) = refused refusals.StoreReply
store_answer w (Err ends.OutOfMemory) = refused refusals.OutOfMemory

-- the answer after the reply to the Release, if memory didn't run out before
abbrev pub released_answer : PartReply → ApiReply → ApiReply
released_answer replies.Stopped answer = refused refusals.Stopped
released_answer reply answer = answer

-- The answer after a hold: a gate that took no entry goes first, then want of memory, then the reply to the Release, then
-- the store.
abbrev pub held_answer : Wanted → Said → Got → ApiReply
held_answer w (Err spent) got = refused refusals.Spent
held_answer w (Ok reply) (Err ends.OutOfMemory) = refused refusals.OutOfMemory
held_answer w (Ok reply) got = released_answer reply (store_answer w got)

-- The answer if a hold ended without an exchange, because of this refusal: only a gate that took no Release goes before it.
abbrev pub unasked_answer : Said → ApiRefusal → ApiReply
unasked_answer (Err spent) refusal = refused refusals.Spent
unasked_answer (Ok reply) refusal = refused refusal

-- ---- books of timers

-- what a reply of the book comes to; no request has any of the last four, for which the free answer stands
abbrev pub book_answer : TimerReply → ApiReply
book_answer (book.WasSet number) = api.TimerSet
book_answer (book.Deleted existed) = api.TimerDeleted
book_answer book.Full = refused refusals.TimersFull
book_answer (book.Spent count) = refused refusals.Spent
book_answer book.OutOfMemory = refused refusals.OutOfMemory
book_answer (book.DueIs timer) = refused refusals.OutOfMemory
book_answer (book.Started there) = refused refusals.OutOfMemory
book_answer (book.Finished next) = refused refusals.OutOfMemory
book_answer book.Dropped = refused refusals.OutOfMemory

-- the answer if both gates took their entries
abbrev pub kept_answer : PartReply → TimerReply → ApiReply
kept_answer reply book.OutOfMemory = refused refusals.OutOfMemory
kept_answer reply got = released_answer reply (book_answer got)

-- The answer after a hold: a gate that took no entry goes first, then want of memory, then the reply to the Release, then
-- the book.
abbrev pub timer_answer : Said → BookSaid → ApiReply
timer_answer (Err spent) got = refused refusals.Spent
timer_answer (Ok reply) (Err spent) = refused refusals.Spent
timer_answer (Ok reply) (Ok got) = kept_answer reply got
