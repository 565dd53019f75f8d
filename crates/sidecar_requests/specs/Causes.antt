-- What the entries of a request of state, timers or reminders are, and what its answer goes back to. Own.
use Rattle.std.specs.Prelude.{◌≡◌, ◌⊎◌, ◌<◌, ℕ, Bool, List, [], ◌∷◌, ◌++◌}
use Rattle.actor_names.specs.declared.actor_key.ActorKey.{ActorKey}
use Rattle.part_model.specs.declared.event.PartEvent.{PartEvent}
use Rattle.part_model.specs.declared.event.PartEvent.TheVariants as events
use Rattle.part_model.specs.Receipts.{PartReply}
use Rattle.part_model.specs.declared.event.Reply.TheVariants as replies
use Rattle.timer_book.specs.declared.event.TimerEvent.{TimerEvent}
use Rattle.timer_book.specs.declared.event.TimerEvent.TheVariants as timers
use Rattle.timer_book.specs.declared.event.TimerReply.{TimerReply}
use Rattle.timer_book.specs.declared.event.TimerReply.TheVariants as book
use Rattle.frame_wire.specs.declared.frame.Frame.TheVariants.{Answer}
use Rattle.frame_wire.specs.declared.store_answer.StoreAnswer.{StoreAnswer}
use Rattle.frame_wire.specs.declared.store_answer.StoreAnswer.TheVariants as answers
use Rattle.frame_wire.specs.declared.store_refusal.StoreRefusal.{StoreRefusal}
use Rattle.frame_wire.specs.StoreParts.{store_refusal_tag}
use Rattle.frame_wire.specs.Frames.{frame_bytes}
use Rattle.actors_api.specs.declared.command.ApiCommand.{ApiCommand}
use Rattle.actors_api.specs.declared.command.ApiCommand.TheVariants as commands
use Rattle.actors_api.specs.declared.reply.ApiReply.{ApiReply}
use Rattle.actors_api.specs.declared.reply.ApiReply.TheVariants as api
use Rattle.actors_api.specs.declared.refusal.ApiRefusal.{ApiRefusal}
use Rattle.actors_api.specs.declared.refusal.ApiRefusal.TheVariants as refusals
use Rattle.sidecar_node.specs.declared.node.Seats.{Seats}
use Rattle.sidecar_node.specs.Entries.{NodeEntry, OnPart, OnBook, OnCalls}
use Rattle.sidecar_node.specs.Nodes.{Acts, IsFull, IsBookFull}
use Rattle.exchanges.specs.Exchanges.{Exchange, total_rise}
use Rattle.exchanges.specs.Asked.{IsReadWhole}
use Rattle.actor_calls.specs.Causes.{HasRead}

-- some entry on a part had this reply
abbrev pub HasReply : PartReply → List NodeEntry → Type 0
HasReply reply [] = ⊥
HasReply reply (OnPart part e ∷ ns) = (e.reply ≡ reply) ⊎ HasReply reply ns
HasReply reply (OnBook book e ∷ ns) = HasReply reply ns
HasReply reply (OnCalls e ∷ ns) = HasReply reply ns

-- some entry on a book of timers had this reply
abbrev pub HasBookReply : TimerReply → List NodeEntry → Type 0
HasBookReply reply [] = ⊥
HasBookReply reply (OnPart part e ∷ ns) = HasBookReply reply ns
HasBookReply reply (OnBook book e ∷ ns) = (e.reply ≡ reply) ⊎ HasBookReply reply ns
HasBookReply reply (OnCalls e ∷ ns) = HasBookReply reply ns

-- the store's frame with this answer
abbrev pub IsAnswer : StoreAnswer → List ℕ → Type 0
IsAnswer answer bytes = bytes ≡ frame_bytes (Answer answer)

-- the store's frame that says that it is done
abbrev pub IsDone : List ℕ → Type 0
IsDone bytes = (existed : Bool) × IsAnswer (answers.Done existed) bytes

-- the store's frame that refuses a command with this code
abbrev pub IsRefusal : ℕ → List ℕ → Type 0
IsRefusal code bytes = (r : StoreRefusal) × IsAnswer (answers.Refused r) bytes × (code ≡ store_refusal_tag r)

-- ---- entries

-- the actor of a command
abbrev pub actor_of : ApiCommand → ActorKey
actor_of (commands.Invoke actor method chain least call) = actor
actor_of (commands.Transact actor ops) = actor
actor_of (commands.GetState actor key) = actor
actor_of (commands.PutReminder actor name reminder) = actor
actor_of (commands.GetReminder actor name) = actor
actor_of (commands.DeleteReminder actor name) = actor
actor_of (commands.SetTimer actor name timer) = actor
actor_of (commands.DeleteTimer actor name) = actor

-- The actor is held and released, or a number is drawn. A Lock is of version 0, so it changes nothing.
abbrev pub IsRecordEvent : ActorKey → PartEvent → Type 0
IsRecordEvent actor (events.Hold key) = key ≡ actor
IsRecordEvent actor (events.Release key now) = key ≡ actor
IsRecordEvent actor events.Draw = Unit {0}
IsRecordEvent actor (events.Lock version) = version ≡ 0
IsRecordEvent actor event = ⊥

-- a timer of the actor is registered or removed
abbrev pub IsRecordCall : ActorKey → TimerEvent → Type 0
IsRecordCall actor (timers.Set key name timer) = key ≡ actor
IsRecordCall actor (timers.Delete key name) = key ≡ actor
IsRecordCall actor event = ⊥

-- all entries are such ones, on this part and its book
abbrev pub AreRecordEntries : ℕ → ActorKey → List NodeEntry → Type 0
AreRecordEntries place actor [] = Unit {0}
AreRecordEntries place actor (OnPart part e ∷ ns) = ((part ≡ place) × IsRecordEvent actor e.event) × AreRecordEntries place actor ns
AreRecordEntries place actor (OnBook book e ∷ ns) = ((book ≡ place) × IsRecordCall actor e.event) × AreRecordEntries place actor ns
AreRecordEntries place actor (OnCalls e ∷ ns) = ⊥

-- ---- causes

-- In what follows `place` is the number of the actor's part and of its book, and `after` are the seats that the request left.
module _ (place : ℕ) (after : Seats) where
  -- The book's seat had seen 2^62 entries, before the last ones of the request were made.
  pub record BookWasFull (ns : List NodeEntry) : Type 0 where
    pub middle : Seats
    pub front : List NodeEntry
    pub back : List NodeEntry
    pub entries : ns ≡ front ++ back
    pub acts : Acts back middle after
    pub full : IsBookFull place middle

  -- the same of the part's seat
  pub record PartWasFull (ns : List NodeEntry) : Type 0 where
    pub middle : Seats
    pub front : List NodeEntry
    pub back : List NodeEntry
    pub entries : ns ≡ front ++ back
    pub acts : Acts back middle after
    pub full : IsFull place middle

  -- Spent: the part or the book said so, or the gate of one has taken all the entries that it can
  abbrev pub IsSpentSo : List NodeEntry → Type 0
  IsSpentSo ns = (IsFull place after ⊎ (PartWasFull ns ⊎ BookWasFull ns)) ⊎ (((count : ℕ) × HasReply (replies.Spent count) ns) ⊎ ((count : ℕ) × HasBookReply (book.Spent count) ns))

  -- The cause of a refusal. Those that aren't named here answer no such request.
  abbrev pub HasCause : List NodeEntry → List Exchange → ApiRefusal → Type 0
  HasCause ns xs refusals.NotActive = HasReply replies.NotActive ns
  HasCause ns xs refusals.Stopped = HasReply replies.Stopped ns
  HasCause ns xs refusals.TimersFull = HasBookReply book.Full ns
  HasCause ns xs refusals.StoreFault = 0 < total_rise xs
  HasCause ns xs refusals.StoreReply = HasRead IsReadWhole xs
  HasCause ns xs (refusals.StoreRefused code) = HasRead (IsRefusal code) xs
  HasCause ns xs refusals.NoReminder = HasRead (IsAnswer answers.NotThere) xs
  HasCause ns xs refusals.OutOfMemory = Unit {0}
  HasCause ns xs refusals.Spent = IsSpentSo ns
  HasCause ns xs refusal = ⊥

  -- The cause of an answer: the frame that the store answered, or the reply of the book of timers. A request has no answers
  -- but these.
  abbrev pub AnswerHasCause : List NodeEntry → List Exchange → ApiReply → Type 0
  AnswerHasCause ns xs (api.Refused refusal) = HasCause ns xs refusal
  AnswerHasCause ns xs api.TransactionMade = HasRead IsDone xs
  AnswerHasCause ns xs api.ReminderPut = HasRead IsDone xs
  AnswerHasCause ns xs api.ReminderDeleted = HasRead IsDone xs
  AnswerHasCause ns xs (api.StateIs value) = HasRead (IsAnswer (answers.Value value)) xs
  AnswerHasCause ns xs api.NoState = HasRead (IsAnswer answers.NotThere) xs
  AnswerHasCause ns xs (api.ReminderIs due period ttl payload) = HasRead (IsAnswer (answers.ReminderIs due period ttl payload)) xs
  AnswerHasCause ns xs api.TimerSet = (number : ℕ) × HasBookReply (book.WasSet number) ns
  AnswerHasCause ns xs api.TimerDeleted = (existed : Bool) × HasBookReply (book.Deleted existed) ns
  AnswerHasCause ns xs reply = ⊥
