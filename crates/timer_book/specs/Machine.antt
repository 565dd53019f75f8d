-- A book of timers as a machine: what it answers to each event, and what the event leaves. Own.
use Rattle.std.specs.Prelude.{◌≡◌, ◌+◌, ◌^◌, Option, None, Some}
use Rattle.timer_book.specs.declared.error.TimerError.{TimerError}
use Rattle.timer_book.specs.declared.error.TimerError.TheVariants as errors
use Rattle.timer_book.specs.declared.event.TimerEvent.{TimerEvent}
use Rattle.timer_book.specs.declared.event.TimerEvent.TheVariants as events
use Rattle.timer_book.specs.declared.event.TimerReply.{TimerReply}
use Rattle.timer_book.specs.declared.event.TimerReply.TheVariants as replies
use Rattle.timer_book.specs.Book.{BookState, set_refusal, set_timer, has_timer, delete_timer, due_timer, is_registered, start_timer, finish_next, finish_timer, drop_timers}

-- the answer to a registration, by its refusal
abbrev pub set_reply : BookState → Option TimerError → TimerReply
set_reply book None = replies.WasSet (book.drawn + 1)
set_reply book (Some errors.Full) = replies.Full
set_reply book (Some errors.Spent) = replies.Spent (2 ^ 62)
set_reply book (Some errors.OutOfMemory) = replies.OutOfMemory

-- a refused registration leaves the book as before
abbrev pub set_after : BookState → Option TimerError → BookState → BookState
set_after book None set = set
set_after book (Some e) set = book

-- what is answered to an event, if memory doesn't run out
abbrev pub timer_reply : BookState → TimerEvent → TimerReply
timer_reply book (events.Set key name timer) = set_reply book (set_refusal book key name)
timer_reply book (events.Delete key name) = replies.Deleted (has_timer book key name)
timer_reply book (events.Due now) = replies.DueIs (due_timer book now)
timer_reply book (events.Started key name number) = replies.Started (is_registered book key name number)
timer_reply book (events.Finished key name number ended) = replies.Finished (finish_next book key name number ended)
timer_reply book (events.DropActor key) = replies.Dropped

-- the book after an event
abbrev pub timer_after : BookState → TimerEvent → BookState
timer_after book (events.Set key name timer) = set_after book (set_refusal book key name) (set_timer book key name timer)
timer_after book (events.Delete key name) = delete_timer book key name
timer_after book (events.Due now) = book
timer_after book (events.Started key name number) = start_timer book key name number
timer_after book (events.Finished key name number ended) = finish_timer book key name number ended
timer_after book (events.DropActor key) = drop_timers book key

-- only a Due, and a Set that is not refused, may run out of memory
abbrev pub MayWantMemory : BookState → TimerEvent → Type 0
MayWantMemory book (events.Set key name timer) = set_refusal book key name ≡ None
MayWantMemory book (events.Due now) = Unit {0}
MayWantMemory book event = ⊥

-- The answer and the book are those of the event, or memory ran out and the book is as before.
abbrev pub TimerMoves : BookState → TimerEvent → TimerReply → BookState → Type 0
TimerMoves old event replies.OutOfMemory new = MayWantMemory old event × (new ≡ old)
TimerMoves old event reply new = (reply ≡ timer_reply old event) × (new ≡ timer_after old event)
