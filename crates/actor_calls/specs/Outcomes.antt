-- What the replies of parts, of the application and of other sidecars come to. Own.
use Rattle.std.specs.Prelude.{◌≡◌, Option, Some, None, Result, Ok, Err}
use Rattle.part_model.specs.Receipts.{PartReply}
use Rattle.part_model.specs.declared.event.Reply.TheVariants as replies
use Rattle.member_core.specs.declared.route.Hop.{Hop}
use Rattle.member_core.specs.declared.route.Hop.TheVariants as hops
use Rattle.http_edge.specs.declared.message.HttpResponse.{HttpResponse}
use Rattle.http_edge.specs.declared.error.EdgeError.{EdgeError}
use Rattle.http_edge.specs.declared.error.EdgeError.TheVariants as edge
use Rattle.actors_api.specs.declared.reply.ApiReply.{ApiReply}
use Rattle.actors_api.specs.declared.reply.ApiReply.TheVariants.{Invoked, Refused}
use Rattle.actors_api.specs.declared.refusal.ApiRefusal.{ApiRefusal}
use Rattle.actors_api.specs.declared.refusal.ApiRefusal.TheVariants as refusals
use Rattle.app_texts.specs.declared.peer_reply.PeerReply.{PeerReply}
use Rattle.app_texts.specs.declared.peer_reply.PeerReply.TheVariants as peers
use Rattle.app_texts.specs.PeerReplies.{reply_reading, GivesReply}
use Rattle.sidecar_node.specs.Turns.{Said}
use Rattle.exchanges.specs.Replies.{Got}
use Rattle.actor_calls.specs.declared.next.Next.{Next}
use Rattle.actor_calls.specs.declared.next.Next.TheVariants.{Answered, Moves}

abbrev pub refused : ApiRefusal → ApiReply
refused refusal = Refused refusal

-- The refusal that a step's reply is, by its row. No step answers a call by any other reply; for those the free answer
-- stands, so that each other row is exact.
abbrev pub refusal_of : PartReply → ApiRefusal
refusal_of (replies.Spent count) = refusals.Spent
refusal_of (replies.Behind seen) = refusals.Behind seen
refusal_of (replies.Depth turns) = refusals.Depth turns
refusal_of (replies.NoHost version) = refusals.NoHost version
refusal_of replies.PartFull = refusals.PartFull
refusal_of (replies.QueueFull n) = refusals.QueueFull
refusal_of replies.AlreadyEnded = refusals.Aborted
refusal_of replies.Stopped = refusals.Stopped
refusal_of reply = refusals.OutOfMemory

-- where a call stands if its last reply begins no turn
abbrev pub next_of : PartReply → Next
next_of (replies.Elsewhere version owner) = Moves version owner
next_of reply = Answered (refused (refusal_of reply))

-- what the application's reply comes to
abbrev pub app_answer : Got → ApiReply
app_answer (Ok reply) = Invoked reply
app_answer (Err edge.ConnFault) = refused refusals.AppFault
app_answer (Err edge.OutOfMemory) = refused refusals.OutOfMemory
app_answer (Err error) = refused refusals.AppReply

-- the answer after a turn's End was replied to
abbrev pub ended_answer : PartReply → Got → ApiReply
ended_answer (replies.Ended next) got = app_answer got
ended_answer replies.Stopped got = refused refusals.Stopped
ended_answer replies.AlreadyEnded got = refused refusals.Aborted
ended_answer reply got = refused refusals.OutOfMemory

-- The answer after a turn: a gate that took no entry goes first, then want of memory in the exchange, then the reply to
-- the turn's End, then that of the application.
abbrev pub turn_answer : Said → Got → ApiReply
turn_answer (Err spent) got = refused refusals.Spent
turn_answer (Ok reply) (Err edge.OutOfMemory) = refused refusals.OutOfMemory
turn_answer (Ok reply) got = ended_answer reply got

-- the refusal of a hop, if it is refused
abbrev pub hop_refusal : Hop → Option ApiRefusal
hop_refusal (hops.Go owner least) = None
hop_refusal (hops.NotRising last version) = Some (refusals.NotRising last version)
hop_refusal (hops.Moved versions) = Some (refusals.Moved versions)

-- ---- another sidecar

-- the answer if it gave no reply
abbrev pub peer_fault : EdgeError → ApiReply
peer_fault edge.ConnFault = refused refusals.PeerFault
peer_fault edge.OutOfMemory = refused refusals.OutOfMemory
peer_fault error = refused refusals.PeerReply

-- Where a call stands after a reply that says this. The application's reply and a refusal are passed on.
abbrev pub peer_next : HttpResponse → PeerReply → Next
peer_next reply peers.Application = Answered (Invoked reply)
peer_next reply (peers.Refusal word) = Answered (Invoked reply)
peer_next reply (peers.Elsewhere version owner) = Moves version owner
peer_next reply peers.Unreadable = Answered (refused refusals.PeerReply)
peer_next reply peers.OutOfMemory = Answered (refused refusals.OutOfMemory)

-- where a call stands after an exchange with another sidecar; memory for reading the owner may run out
abbrev pub ReadsPeer : Got → Next → Type 0
ReadsPeer (Ok reply) next = (said : PeerReply) × GivesReply (reply_reading reply) said × (next ≡ peer_next reply said)
ReadsPeer (Err error) next = next ≡ Answered (peer_fault error)
