-- What a peer is told is read as it was meant.
use Rattle.std.proofs.Common.{◌≡◌, ◌∙◌, refl, ap, ℕ, List, Option, Some, None}
use Rattle.actors_api.specs.declared.side.Side.TheVariants.{Peer}
use Rattle.actors_api.specs.declared.reply.ApiReply.{ApiReply}
use Rattle.actors_api.specs.declared.reply.ApiReply.TheVariants as replies
use Rattle.actors_api.specs.declared.refusal.ApiRefusal.{ApiRefusal}
use Rattle.actors_api.specs.declared.refusal.ApiRefusal.TheVariants as refusals
use Rattle.actors_api.specs.Owners.{owner_text}
use Rattle.actors_api.specs.Responses as responses
use Rattle.actors_api.specs.Responses.{response, field_of, response_of, elsewhere_response, refusal_response}
use Rattle.actors_api.specs.Refusals.{refusal_row}
use Rattle.app_texts.specs.declared.peer_reply.PeerReply.TheVariants as peers
use Rattle.app_texts.specs.PeerReplies.{owner_reading, elsewhere_as, reply_reading}
use Rattle.std.specs.Prelude.{codes}
use Rattle.actor_calls.specs.PeerReads.{word_for, told_to_peer, CanBeTold}
use Rattle.call_names.proofs.CallTexts.{ReadsMembers}
use Rattle.actor_calls.proofs.OwnerTexts.{ReadsAddresses, owner_read}

-- the application's reply has no field but its Content-Type
passed_read : (status : ℕ) (kind : Option (List ℕ)) (body : List ℕ) → reply_reading (response status (field_of (codes "Content-Type") kind) body) ≡ peers.Application
unfolding reply_reading
passed_read status None body = refl
passed_read status (Some kind) body = refl

elsewhere_read : (text : List ℕ) → reply_reading (elsewhere_response Peer text) ≡ elsewhere_as (owner_reading text)
unfolding reply_reading
elsewhere_read text = refl

refusal_read : (refusal : ApiRefusal) → reply_reading (refusal_response Peer (refusal_row refusal)) ≡ peers.Refusal (word_for refusal)
unfolding reply_reading
refusal_read refusals.NoRoute = refl
refusal_read refusals.WrongMethod = refl
refusal_read (refusals.BadName what) = refl
refusal_read refusals.MalformedBody = refl
refusal_read refusals.OtherNumber = refl
refusal_read (refusals.TooLarge index) = refl
refusal_read (refusals.BadSchedule fault) = refl
refusal_read refusals.OutOfMemory = refl
refusal_read refusals.MalformedHead = refl
refusal_read refusals.HeadTooLong = refl
refusal_read refusals.Chunked = refl
refusal_read refusals.BodyTooLong = refl
refusal_read refusals.NotActive = refl
refusal_read refusals.TimersFull = refl
refusal_read refusals.NoReminder = refl
refusal_read (refusals.NoHost version) = refl
refusal_read (refusals.Depth turns) = refl
refusal_read refusals.QueueFull = refl
refusal_read refusals.PartFull = refl
refusal_read refusals.Aborted = refl
refusal_read refusals.Stopped = refl
refusal_read (refusals.Moved versions) = refl
refusal_read (refusals.NotRising last version) = refl
refusal_read (refusals.Behind seen) = refl
refusal_read refusals.AppFault = refl
refusal_read refusals.PeerFault = refl
refusal_read refusals.StoreFault = refl
refusal_read refusals.AppReply = refl
refusal_read refusals.PeerReply = refl
refusal_read refusals.StoreReply = refl
refusal_read (refusals.StoreRefused code) = refl
refusal_read refusals.CallRunning = refl
refusal_read (refusals.AnswerGone status) = refl
refusal_read (refusals.CallOld floor) = refl
refusal_read (refusals.CallBoot boot) = refl
refusal_read refusals.CallLanes = refl
refusal_read refusals.BookFull = refl
refusal_read refusals.Spent = refl

pub told_read : ReadsMembers → ReadsAddresses → (reply : ApiReply) → CanBeTold reply → reply_reading (response_of Peer reply) ≡ told_to_peer reply
unfolding reply_reading
told_read members addresses (replies.Invoked reply) t = passed_read reply.status (responses.first_value (codes "Content-Type") reply.fields) reply.body
told_read members addresses replies.TransactionMade t = refl
told_read members addresses (replies.StateIs value) t = refl
told_read members addresses replies.NoState t = refl
told_read members addresses replies.ReminderPut t = refl
told_read members addresses (replies.ReminderIs due period ttl payload) t = refl
told_read members addresses replies.ReminderDeleted t = refl
told_read members addresses replies.TimerSet t = refl
told_read members addresses replies.TimerDeleted t = refl
told_read members addresses (replies.Elsewhere version owner) t = elsewhere_read (owner_text version owner) ∙ ap elsewhere_as (owner_read version owner members addresses t)
told_read members addresses (replies.Made response) t = refl
told_read members addresses replies.Unanswered t = refl
told_read members addresses (replies.Refused refusal) t = refusal_read refusal
