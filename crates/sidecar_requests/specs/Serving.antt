-- Served requests of an actor's state, timers and reminders: the request, its entries on the part of its actor and on
-- that part's book of timers, its exchanges with the store, and its answer. Own.
use Rattle.std.specs.Prelude.{◌≡◌, ◌⊎◌, ◌≤◌, ℕ, List, [], ◌++◌, Ok, Err}
use Rattle.actor_names.specs.declared.actor_key.ActorKey.{ActorKey}
use Rattle.actor_names.specs.declared.address.Address.{Address}
use Rattle.part_model.specs.declared.event.PartEvent.{PartEvent}
use Rattle.part_model.specs.declared.event.PartEvent.TheVariants.{Hold, Release, Draw, Lock}
use Rattle.part_model.specs.declared.event.Reply.TheVariants as replies
use Rattle.timer_book.specs.declared.event.TimerEvent.{TimerEvent}
use Rattle.timer_book.specs.declared.event.TimerEvent.TheVariants as timers
use Rattle.frame_wire.specs.declared.store_command.Stamp.{Stamp}
use Rattle.actors_api.specs.declared.command.ApiCommand.{ApiCommand}
use Rattle.actors_api.specs.declared.command.ApiCommand.TheVariants as commands
use Rattle.actors_api.specs.declared.reply.ApiReply.{ApiReply}
use Rattle.actors_api.specs.declared.refusal.ApiRefusal.{ApiRefusal}
use Rattle.actors_api.specs.declared.refusal.ApiRefusal.TheVariants as refusals
use Rattle.sidecar_node.specs.declared.node.SidecarNode.{SidecarNode}
use Rattle.sidecar_node.specs.declared.node.Seats.{Seats}
use Rattle.sidecar_node.specs.Entries.{NodeEntry, at_part, at_book, one_entry}
use Rattle.sidecar_node.specs.Turns.{Said}
use Rattle.sidecar_node.specs.Nodes.{host_of, part_at, Acts, ActsAt, SpentAt, SpentAtBook}
use Rattle.exchanges.specs.Exchanges.{Exchange}
use Rattle.exchanges.specs.Replies.{place_at}
use Rattle.exchanges.specs.Asked.{Got, IsFrameAsked}
use Rattle.sidecar_requests.specs.declared.ask.StoreAsk.{StoreAsk}
use Rattle.sidecar_requests.specs.declared.ask.StoreAsk.TheVariants as asks
use Rattle.sidecar_requests.specs.Asks.{store_frame, wanted_of}
use Rattle.sidecar_requests.specs.Outcomes.{BookSaid, refused, refusal_of, store_answer, held_answer, unasked_answer, timer_answer}

-- a stamp of this member: the part of the actor, and a number that the part drew
abbrev pub stamp_of : SidecarNode → ActorKey → ℕ → Stamp
stamp_of node actor n = record { member = (host_of node).member; part = part_at node actor; number = n }

-- no entry and no exchange was made, and the clock wasn't read
pub record IsIdle (first last : ℕ) (ns : List NodeEntry) (xs : List Exchange) : Type 0 where
  pub now : last ≡ first
  pub entries : ns ≡ []
  pub exchanges : xs ≡ []

-- One step on this part, after which the seats are these: one entry, whose reply is the answer; or the gate took none,
-- and its history is full.
pub record IsStep (part : ℕ) (after : Seats) (event : PartEvent) (ns : List NodeEntry) (said : Said) : Type 0 where
  pub entries : ns ≡ at_part part (one_entry event said)
  pub full : SpentAt part said after

-- In what follows `first` and `last` are the moments that the clock showed before and after, `after` are the seats that
-- the request left, `ns` its entries, and `xs` its exchanges with the store.

-- one Hold of the actor on its part, or memory ran out before it
abbrev pub Holds : SidecarNode → Seats → ActorKey → List NodeEntry → Said → Type 0
Holds node after actor ns said = IsStep (part_at node actor) after (Hold actor) ns said ⊎ ((ns ≡ []) × (said ≡ Ok replies.OutOfMemory))

-- ---- requests of reminders

module _ (node : SidecarNode) (store : Address) (actor : ActorKey) where
  -- one exchange with the store, stamped with this number if it writes, and the answer by it
  pub record IsAsked (ask : StoreAsk) (n : ℕ) (xs : List Exchange) (answer : ApiReply) : Type 0 where
    pub got : Got
    pub exchange : IsFrameAsked (store_frame actor (stamp_of node actor n) 0 ask) (place_at store) xs got
    pub answered : answer ≡ store_answer (wanted_of ask) got

  -- what follows the reply to the Draw; one that refuses it is the answer
  abbrev pub AfterDraw : StoreAsk → Said → List Exchange → ApiReply → Type 0
  AfterDraw ask (Ok (replies.Drawn n)) xs answer = IsAsked ask n xs answer
  AfterDraw ask (Ok reply) xs answer = (xs ≡ []) × (answer ≡ refused (refusal_of reply))
  AfterDraw ask (Err spent) xs answer = (xs ≡ []) × (answer ≡ refused refusals.Spent)

-- a request that writes a reminder: one Draw, and one exchange
pub record IsWriteServed (node : SidecarNode) (store : Address) (after : Seats) (actor : ActorKey) (ask : StoreAsk) (ns : List NodeEntry) (xs : List Exchange) (answer : ApiReply) : Type 0 where
  pub said : Said
  pub draws : IsStep (part_at node actor) after Draw ns said
  pub follows : AfterDraw node store actor ask said xs answer

-- ---- requests of state

-- one Release of the actor on its part, without an exchange, because of this refusal
pub record IsHeldInVain (node : SidecarNode) (after : Seats) (actor : ActorKey) (refusal : ApiRefusal) (first last : ℕ) (ns : List NodeEntry) (answer : ApiReply) : Type 0 where
  pub said : Said
  pub later : first ≤ last
  pub release : IsStep (part_at node actor) after (Release actor last) ns said
  pub answered : answer ≡ unasked_answer said refusal

module _ (node : SidecarNode) (store : Address) (after : Seats) (actor : ActorKey) where
  -- one exchange, stamped with the number held and of this epoch if it writes, and one Release
  pub record IsHeldExchange (ask : StoreAsk) (n epoch first last : ℕ) (ns : List NodeEntry) (xs : List Exchange) (answer : ApiReply) : Type 0 where
    pub got : Got
    pub said : Said
    pub exchange : IsFrameAsked (store_frame actor (stamp_of node actor n) epoch ask) (place_at store) xs got
    pub later : first ≤ last
    pub release : IsStep (part_at node actor) after (Release actor last) ns said
    pub answered : answer ≡ held_answer (wanted_of ask) said got

  -- What follows the reply to the Lock. A receipt tells the version at which the part opened last, which is the epoch of
  -- the exchange. After any other reply there is none.
  abbrev pub AfterLock : StoreAsk → ℕ → Said → ℕ → ℕ → List NodeEntry → List Exchange → ApiReply → Type 0
  AfterLock ask n (Ok (replies.TableStep receipt changed)) first last ns xs answer = IsHeldExchange ask n receipt.opened first last ns xs answer
  AfterLock ask n (Ok reply) first last ns xs answer = (xs ≡ []) × IsHeldInVain node after actor (refusal_of reply) first last ns answer
  AfterLock ask n (Err spent) first last ns xs answer = (xs ≡ []) × IsHeldInVain node after actor refusals.Spent first last ns answer

  -- One Lock of version 0 on the actor's part, which changes nothing there, and what follows. After the Lock the seats were
  -- `middle`.
  pub record IsHeldWrite (ask : StoreAsk) (n first last : ℕ) (ns : List NodeEntry) (xs : List Exchange) (answer : ApiReply) : Type 0 where
    pub front : List NodeEntry
    pub back : List NodeEntry
    pub said : Said
    pub middle : Seats
    pub entries : ns ≡ front ++ back
    pub lock : IsStep (part_at node actor) middle (Lock 0) front said
    pub kept : Acts back middle after
    pub follows : AfterLock ask n said first last back xs answer

  -- what follows Held: if state is written, the Lock comes before the exchange
  abbrev pub WhileHeld : StoreAsk → ℕ → ℕ → ℕ → List NodeEntry → List Exchange → ApiReply → Type 0
  WhileHeld (asks.Transact ops) n first last ns xs answer = IsHeldWrite (asks.Transact ops) n first last ns xs answer
  WhileHeld ask n first last ns xs answer = IsHeldExchange ask n 0 first last ns xs answer

  -- what follows the reply to the Hold; one that refuses it is the answer
  abbrev pub AfterHold : StoreAsk → Said → ℕ → ℕ → List NodeEntry → List Exchange → ApiReply → Type 0
  AfterHold ask (Ok (replies.Held n)) first last ns xs answer = WhileHeld ask n first last ns xs answer
  AfterHold ask (Ok reply) first last ns xs answer = IsIdle first last ns xs × (answer ≡ refused (refusal_of reply))
  AfterHold ask (Err spent) first last ns xs answer = IsIdle first last ns xs × (answer ≡ refused refusals.Spent)

  -- a request of the actor's state
  pub record IsStateServed (ask : StoreAsk) (first last : ℕ) (ns : List NodeEntry) (xs : List Exchange) (answer : ApiReply) : Type 0 where
    pub front : List NodeEntry
    pub back : List NodeEntry
    pub said : Said
    pub entries : ns ≡ front ++ back
    pub holds : Holds node after actor front said
    pub follows : AfterHold ask said first last back xs answer

-- ---- requests of timers

module _ (node : SidecarNode) (after : Seats) (actor : ActorKey) where
  -- What follows Held: one call on the book of timers of the actor's part, and one Release. After the call the seats
  -- were `middle`.
  pub record IsHeldCall (event : TimerEvent) (first last : ℕ) (ns : List NodeEntry) (answer : ApiReply) : Type 0 where
    pub got : BookSaid
    pub said : Said
    pub middle : Seats
    pub entries : ns ≡ at_book (part_at node actor) (one_entry event got) ++ at_part (part_at node actor) (one_entry (Release actor last) said)
    pub book_full : SpentAtBook (part_at node actor) got middle
    pub kept : ActsAt (part_at node actor) (one_entry (Release actor last) said) middle after
    pub full : SpentAt (part_at node actor) said after
    pub later : first ≤ last
    pub answered : answer ≡ timer_answer said got

  -- what follows the reply to the Hold; one that refuses it is the answer
  abbrev pub AfterTimerHold : TimerEvent → Said → ℕ → ℕ → List NodeEntry → ApiReply → Type 0
  AfterTimerHold event (Ok (replies.Held n)) first last ns answer = IsHeldCall event first last ns answer
  AfterTimerHold event (Ok reply) first last ns answer = IsIdle first last ns [] × (answer ≡ refused (refusal_of reply))
  AfterTimerHold event (Err spent) first last ns answer = IsIdle first last ns [] × (answer ≡ refused refusals.Spent)

  -- a request of the actor's timers; the store isn't asked
  pub record IsTimerServed (event : TimerEvent) (first last : ℕ) (ns : List NodeEntry) (xs : List Exchange) (answer : ApiReply) : Type 0 where
    pub front : List NodeEntry
    pub back : List NodeEntry
    pub said : Said
    pub exchanges : xs ≡ []
    pub entries : ns ≡ front ++ back
    pub holds : Holds node after actor front said
    pub follows : AfterTimerHold event said first last back answer

-- ---- all of them

-- the commands that these requests are: all but the call of a method
abbrev pub IsRecord : ApiCommand → Type 0
IsRecord (commands.Invoke actor method chain least call) = ⊥
IsRecord command = Unit {0}

-- A served request. One of a reminder doesn't read the clock, and one that reads a reminder is the exchange alone, whose
-- command has no stamp.
module _ (node : SidecarNode) (store : Address) (after : Seats) where
  abbrev pub IsRecordServed : ApiCommand → ℕ → ℕ → List NodeEntry → List Exchange → ApiReply → Type 0
  IsRecordServed (commands.Transact actor ops) first last ns xs answer = IsStateServed node store after actor (asks.Transact ops) first last ns xs answer
  IsRecordServed (commands.GetState actor key) first last ns xs answer = IsStateServed node store after actor (asks.GetState key) first last ns xs answer
  IsRecordServed (commands.PutReminder actor name reminder) first last ns xs answer = (last ≡ first) × IsWriteServed node store after actor (asks.PutReminder name reminder) ns xs answer
  IsRecordServed (commands.GetReminder actor name) first last ns xs answer = (last ≡ first) × (ns ≡ []) × IsAsked node store actor (asks.GetReminder name) 0 xs answer
  IsRecordServed (commands.DeleteReminder actor name) first last ns xs answer = (last ≡ first) × IsWriteServed node store after actor (asks.DeleteReminder name) ns xs answer
  IsRecordServed (commands.SetTimer actor name timer) first last ns xs answer = IsTimerServed node after actor (timers.Set actor name timer) first last ns xs answer
  IsRecordServed (commands.DeleteTimer actor name) first last ns xs answer = IsTimerServed node after actor (timers.Delete actor name) first last ns xs answer
  IsRecordServed (commands.Invoke actor method chain least call) first last ns xs answer = ⊥
