-- A call that another sidecar forwarded here: what the book of forwarded calls says of it, and what is noted there. Own,
-- after the notion of an idempotency key.
use Rattle.std.specs.Prelude.{◌≡◌, ◌⊎◌, Result, Ok, Err}
use Rattle.step_gate.specs.declared.gate.Spent.{Spent}
use Rattle.http_edge.specs.declared.message.HttpResponse.{HttpResponse}
use Rattle.call_names.specs.declared.name.CallName.{CallName}
use Rattle.call_book.specs.declared.event.BookEvent.{BookEvent}
use Rattle.call_book.specs.declared.event.BookEvent.TheVariants as events
use Rattle.call_book.specs.declared.event.BookReply.{BookReply}
use Rattle.call_book.specs.declared.event.BookReply.TheVariants as book
use Rattle.actors_api.specs.declared.side.Side.{Side}
use Rattle.actors_api.specs.declared.reply.ApiReply.{ApiReply}
use Rattle.actors_api.specs.declared.reply.ApiReply.TheVariants.{Made, Unanswered}
use Rattle.actors_api.specs.declared.refusal.ApiRefusal.TheVariants as refusals
use Rattle.actors_api.specs.Responses.{response_of}
use Rattle.actor_calls.specs.Outcomes.{refused}

abbrev pub begin_of : CallName → BookEvent
begin_of c = events.Begin c.origin c.part c.number

abbrev pub finish_of : CallName → HttpResponse → BookEvent
finish_of c response = events.Finish c.origin c.part c.number response

-- The answer to a call that isn't new: the response that is kept, as it was, or a refusal by its row. A Begin is
-- answered neither Finished nor NotBegun; for those the free answer stands, so that each other row is exact.
abbrev pub known_answer : BookReply → ApiReply
known_answer (book.Kept response) = Made response
known_answer book.Running = refused refusals.CallRunning
known_answer (book.Gone status) = refused (refusals.AnswerGone status)
known_answer (book.TooOld floor) = refused (refusals.CallOld floor)
known_answer (book.OldBoot greatest) = refused (refusals.CallBoot greatest)
known_answer (book.LanesFull n) = refused refusals.CallLanes
known_answer (book.BookFull running) = refused refusals.BookFull
known_answer reply = refused refusals.OutOfMemory

-- what goes out of a reply: its response, or none if there is no memory for it
abbrev pub GoesOut : Side → ApiReply → ApiReply → Type 0
GoesOut side reply sent = (sent ≡ Made (response_of side reply)) ⊎ (sent ≡ Unanswered)

-- the answer after the Finish; a gate that took no entry goes first
abbrev pub finish_answer : Result BookReply Spent → ApiReply → ApiReply
finish_answer (Err spent) sent = refused refusals.Spent
finish_answer (Ok reply) sent = sent
