-- What the entries of a served call are, and what its answer goes back to. Own.
use Rattle.std.specs.Prelude.{◌≡◌, ◌⊎◌, ◌<◌, ◌≤◌, ℕ, List, [], ◌∷◌, length, Option, Some, None}
use Rattle.place_table.specs.declared.host.HostInfo.{HostInfo}
use Rattle.part_model.specs.declared.event.PartEvent.{PartEvent}
use Rattle.part_model.specs.declared.event.PartEvent.TheVariants.{Ask, AskAt, Poll, End, Draw}
use Rattle.part_model.specs.Receipts.{PartReply}
use Rattle.part_model.specs.declared.event.Reply.TheVariants as replies
use Rattle.member_core.specs.Routes.{IsRising}
use Rattle.http_edge.specs.declared.message.HttpResponse.{HttpResponse}
use Rattle.http_edge.specs.declared.error.EdgeError.{EdgeError}
use Rattle.actor_ports.specs.Traffic.{Traffic}
use Rattle.http_edge.specs.Carry.{Carried}
use Rattle.http_edge.specs.Replies.{HasReply as BeginsWith, HasNoReading}
use Rattle.http_edge.specs.Settled.{HasNoReply, IsOnlyReply, InputHasReply, IsNamed}
use Rattle.actors_api.specs.declared.reply.ApiReply.{ApiReply}
use Rattle.actors_api.specs.declared.reply.ApiReply.TheVariants.{Invoked, Elsewhere, Refused}
use Rattle.actors_api.specs.declared.refusal.ApiRefusal.{ApiRefusal}
use Rattle.actors_api.specs.declared.refusal.ApiRefusal.TheVariants as refusals
use Rattle.app_texts.specs.declared.peer_reply.PeerReply.{PeerReply}
use Rattle.app_texts.specs.declared.peer_reply.PeerReply.TheVariants as peers
use Rattle.app_texts.specs.PeerReplies.{reply_reading}
use Rattle.sidecar_node.specs.declared.node.Seats.{Seats}
use Rattle.sidecar_node.specs.Entries.{PartEntry}
use Rattle.sidecar_node.specs.Nodes.{IsFull}
use Rattle.exchanges.specs.Exchanges.{Exchange, total_rise}
use Rattle.actor_calls.specs.declared.invoke.Invoke.{Invoke}
use Rattle.actor_calls.specs.Outcomes.{refusal_of}

-- ---- entries

-- A call is asked for, under the chain that its request told, and polled, and its turn is ended. A number is drawn where
-- it is handed on.
abbrev pub IsCallEvent : Invoke → PartEvent → Type 0
IsCallEvent q (Ask key chain now) = (key ≡ q.actor) × (chain ≡ q.chain)
IsCallEvent q (AskAt key chain least now) = (key ≡ q.actor) × (chain ≡ q.chain)
IsCallEvent q (Poll call) = Unit {0}
IsCallEvent q (End call now) = Unit {0}
IsCallEvent q Draw = Unit {0}
IsCallEvent q event = ⊥

abbrev pub AreCallEntries : Invoke → List PartEntry → Type 0
AreCallEntries q [] = Unit {0}
AreCallEntries q (e ∷ es) = IsCallEvent q e.event × AreCallEntries q es

-- some entry had this reply
abbrev pub HasReply : PartReply → List PartEntry → Type 0
HasReply reply [] = ⊥
HasReply reply (e ∷ es) = (e.reply ≡ reply) ⊎ HasReply reply es

-- some entry's reply is a refusal with this row
abbrev pub IsRefusedSo : ApiRefusal → List PartEntry → Type 0
IsRefusedSo refusal [] = ⊥
IsRefusedSo refusal (e ∷ es) = (refusal_of e.reply ≡ refusal) ⊎ IsRefusedSo refusal es

-- some entry is an End that was answered Ended
abbrev pub HasEnded : List PartEntry → Type 0
HasEnded [] = ⊥
HasEnded (e ∷ es) = ((call : ℕ) × (now : ℕ) × (next : Option ℕ) × (e.event ≡ End call now) × (e.reply ≡ replies.Ended next)) ⊎ HasEnded es

-- ---- bytes that were read

abbrev pub LinkRead : (List ℕ → Type 0) → Option Carried → Type 0
LinkRead P None = ⊥
LinkRead P (Some c) = P c.read

-- such bytes were read of the link of some exchange
abbrev pub HasRead : (List ℕ → Type 0) → List Exchange → Type 0
HasRead P [] = ⊥
HasRead P (x ∷ xs) = LinkRead P x.link ⊎ HasRead P xs

-- The bytes, taken as a whole input, have this reply and no other. Since there is no traffic before, `after` says nothing.
abbrev pub IsReply : HttpResponse → List ℕ → Type 0
IsReply reply bytes = ((after : Option Traffic) × BeginsWith bytes None after reply) × IsOnlyReply bytes reply

-- the bytes, taken as a whole input, have no reply, by this cause
pub record IsUnread (bytes : List ℕ) : Type 0 where
  pub error : EdgeError
  pub named : IsNamed error
  pub cause : HasNoReading bytes None None error
  pub none : HasNoReply bytes error

-- a reply that is passed on to the caller: the application's, or a refusal
abbrev pub IsPassedOn : PeerReply → Type 0
IsPassedOn peers.Application = Unit {0}
IsPassedOn (peers.Refusal word) = Unit {0}
IsPassedOn said = ⊥

-- another sidecar's reply that is passed on
abbrev pub PassesOn : HttpResponse → List ℕ → Type 0
PassesOn reply bytes = IsReply reply bytes × IsPassedOn (reply_reading reply)

-- another sidecar's reply that names this owner, by the table of this version
abbrev pub NamesOwner : ℕ → HostInfo → List ℕ → Type 0
NamesOwner version owner bytes = (reply : HttpResponse) × IsReply reply bytes × (reply_reading reply ≡ peers.Elsewhere version owner)

-- what another sidecar said has no reading: it is no reply, or its word or its owner can't be read
abbrev pub IsUnreadPeer : List ℕ → Type 0
IsUnreadPeer bytes = IsUnread bytes ⊎ ((reply : HttpResponse) × IsReply reply bytes × (reply_reading reply ≡ peers.Unreadable))

-- ---- causes

-- by the table of this version the actor belongs to this host: the part said so, or another sidecar
abbrev pub IsMoved : List PartEntry → List Exchange → ℕ → HostInfo → Type 0
IsMoved es ys version owner = HasReply (replies.Elsewhere version owner) es ⊎ HasRead (NamesOwner version owner) ys

-- an owner was told by the table of each of these versions
abbrev pub AreTold : List PartEntry → List Exchange → List ℕ → Type 0
AreTold es ys [] = Unit {0}
AreTold es ys (v ∷ vs) = ((owner : HostInfo) × IsMoved es ys v owner) × AreTold es ys vs

-- In what follows `es` are the entries, `xs` and `ys` the exchanges with the application and with other sidecars, `part` is
-- the number of the actor's part, and `after` are the seats that the call left.
module _ (part : ℕ) (after : Seats) where
  -- The cause of a refusal. A fault raised the count of the application's dialler; three raised that of other sidecars. Bytes
  -- without a reading were read of a link. Spent is the reply of the part, or its gate has taken all the entries that it
  -- can. A hop was refused by its version, which wasn't above that of the last one, or as the eighth; each version was told
  -- in this call. What isn't named here goes back to a part's reply in this call.
  abbrev pub HasCause : List PartEntry → List Exchange → List Exchange → ApiRefusal → Type 0
  HasCause es xs ys refusals.AppFault = 0 < total_rise xs
  HasCause es xs ys refusals.PeerFault = 3 ≤ total_rise ys
  HasCause es xs ys refusals.AppReply = HasRead IsUnread xs
  HasCause es xs ys refusals.PeerReply = HasRead IsUnreadPeer ys
  HasCause es xs ys refusals.OutOfMemory = Unit {0}
  HasCause es xs ys refusals.Spent = IsFull part after ⊎ IsRefusedSo refusals.Spent es
  HasCause es xs ys (refusals.NotRising last version) = (version ≤ last) × AreTold es ys (last ∷ version ∷ [])
  HasCause es xs ys (refusals.Moved versions) = (length versions ≡ 8) × IsRising versions × AreTold es ys versions
  HasCause es xs ys refusal = IsRefusedSo refusal es

  -- The cause of an answer. A reply is that of the application, or one that another sidecar's is passed on as. A call has no
  -- answers but these.
  abbrev pub AnswerHasCause : List PartEntry → List Exchange → List Exchange → ApiReply → Type 0
  AnswerHasCause es xs ys (Refused refusal) = HasCause es xs ys refusal
  AnswerHasCause es xs ys (Invoked reply) = HasRead (IsReply reply) xs ⊎ HasRead (PassesOn reply) ys
  AnswerHasCause es xs ys (Elsewhere version owner) = HasReply (replies.Elsewhere version owner) es
  AnswerHasCause es xs ys reply = ⊥

-- ---- success

-- The application answered this, no fault was met on the way, and the End of the turn was answered Ended.
pub record IsCompleted (es : List PartEntry) (xs : List Exchange) (reply : HttpResponse) : Type 0 where
  pub read : HasRead (λ bytes. InputHasReply bytes reply) xs
  pub sound : total_rise xs ≡ 0
  pub ended : HasEnded es

-- the answer is this reply of the application, unless memory ran out
abbrev pub IsItsAnswer : HttpResponse → ApiReply → Type 0
IsItsAnswer reply answer = (answer ≡ Invoked reply) ⊎ (answer ≡ Refused refusals.OutOfMemory)
