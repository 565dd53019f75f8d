-- What a history of a book says of one call, and what is promised to it. Own, after the notion of an idempotency key.
use Rattle.std.specs.Prelude.{ℕ, suc, Bool, false, ◌&&◌, ◌==◌, if◌then◌else◌, List, [], ◌∷◌, Option, None, Some}
use Rattle.http_edge.specs.declared.message.HttpResponse.{HttpResponse}
use Rattle.actor_names.specs.declared.member.Member.{Member}
use Rattle.actor_names.specs.Same.{same_member}
use Rattle.step_gate.specs.declared.view.HistoryEntry.{HistoryEntry}
use Rattle.step_gate.specs.History.{HistoryLeadsTo}
use Rattle.call_book.specs.declared.entry.CallStage.{CallStage}
use Rattle.call_book.specs.declared.entry.CallStage.TheVariants as stages
use Rattle.call_book.specs.declared.event.BookEvent.{BookEvent}
use Rattle.call_book.specs.declared.event.BookEvent.TheVariants as events
use Rattle.call_book.specs.declared.event.BookReply.{BookReply}
use Rattle.call_book.specs.declared.event.BookReply.TheVariants as replies
use Rattle.call_book.specs.Entries.{stage_of}
use Rattle.call_book.specs.Replies.{stage_reply}
use Rattle.call_book.specs.Book.{CallBookState, new_book}
use Rattle.call_book.specs.Machine.{BookMoves}

-- events of a book with their answers, in order
abbrev pub BookHistory : Type 0
BookHistory = List (HistoryEntry BookEvent BookReply)

-- the history is legal, and leads from the empty book to this one
abbrev pub LeadsTo : BookHistory → CallBookState → Type 0
LeadsTo es book = HistoryLeadsTo BookMoves new_book es book

-- ---- one call, named by its origin, part and number

module _ (origin : Member) (part number : ℕ) where
  abbrev pub is_call : Member → ℕ → ℕ → Bool
  is_call other its_part its_number = same_member other origin && (its_part == part) && (its_number == number)

  -- whether this is a Begin of the call that was answered New
  abbrev pub is_new : BookEvent → BookReply → Bool
  is_new (events.Begin other its_part its_number) replies.New = is_call other its_part its_number
  is_new event reply = false

  -- how often a Begin of the call was answered New
  abbrev pub times_new : BookHistory → ℕ
  times_new [] = 0
  times_new (e ∷ es) = if is_new e.event e.reply then suc (times_new es) else times_new es

  -- the response of a Finish of the call that was answered Finished
  abbrev pub response_in : BookEvent → BookReply → Option HttpResponse
  response_in (events.Finish other its_part its_number response) replies.Finished = if is_call other its_part its_number then Some response else None
  response_in event reply = None

  abbrev pub first_of : Option HttpResponse → Option HttpResponse → Option HttpResponse
  first_of None later = later
  first_of (Some response) later = Some response

  -- the response with which the call was finished, if it was
  abbrev pub response_of : BookHistory → Option HttpResponse
  response_of [] = None
  response_of (e ∷ es) = first_of (response_in e.event e.reply) (response_of es)

-- how far a call is that was begun, by its response
abbrev pub stage_by : Option HttpResponse → CallStage
stage_by None = stages.Running
stage_by (Some response) = stage_of response

-- what a repeat of a call that was begun is answered: Running before its Finish; after it that Finish's response, or
-- Gone with its status if the body was too long to be kept
abbrev pub repeat_reply : Option HttpResponse → BookReply
repeat_reply response = stage_reply (stage_by response)

-- the call was dropped, or its node forwards calls in a later boot
abbrev pub IsTooLate : BookReply → Type 0
IsTooLate (replies.TooOld floor) = Unit {0}
IsTooLate (replies.OldBoot greatest) = Unit {0}
IsTooLate reply = ⊥
