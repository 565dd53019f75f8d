-- How a sidecar deactivates the actors whose time is over: one TakeClosing after the other on each part in order, and
-- what is owed after each that gave an actor. Own.
use Rattle.std.specs.Prelude.{◌≡◌, ◌<◌, ◌≤◌, ℕ, ◌+◌, Bool, true, false, ◌||◌, List, [], ◌∷◌, ◌++◌, length, Option, Some, None, Result, Ok, Err}
use Rattle.actor_names.specs.declared.actor_key.ActorKey.{ActorKey}
use Rattle.actor_names.specs.declared.address.Address.{Address}
use Rattle.actor_ports.specs.Traffic.{Dialled}
use Rattle.http_edge.specs.declared.error.EdgeError.TheVariants as edge
use Rattle.app_texts.specs.Texts.{deactivate_text}
use Rattle.part_model.specs.declared.event.PartEvent.TheVariants as events
use Rattle.part_model.specs.Receipts.{PartReply}
use Rattle.part_model.specs.declared.event.Reply.TheVariants as replies
use Rattle.timer_book.specs.declared.event.TimerEvent.TheVariants as timers
use Rattle.timer_book.specs.declared.event.TimerReply.{TimerReply}
use Rattle.step_gate.specs.declared.gate.Spent.{Spent}
use Rattle.exchanges.specs.Exchanges.{Exchange, Dialling}
use Rattle.exchanges.specs.Replies.{Got, place_at, IsHttpExchange}
use Rattle.sidecar_node.specs.declared.node.SidecarNode.{SidecarNode}
use Rattle.sidecar_node.specs.declared.node.Seats.{Seats}
use Rattle.sidecar_node.specs.Entries.{NodeEntry, at_part, at_book, one_entry}
use Rattle.sidecar_node.specs.Turns.{Said}
use Rattle.sidecar_node.specs.Nodes.{part_gates, Acts, ActsAt, SpentAt, SpentAtBook}
use Rattle.clock_turns.specs.declared.ends.TickEnd.{TickEnd}
use Rattle.clock_turns.specs.declared.ends.TickEnd.TheVariants as ends
use Rattle.clock_turns.specs.declared.closing_stand.Stand.{Stand}
use Rattle.clock_turns.specs.declared.closing_stand.Stand.TheVariants.{On, Over}

-- what a call on a book of timers comes to: a reply, or the gate took no further entry
abbrev pub BookSaid : Type 0
BookSaid = Result TimerReply Spent

-- ---- one deactivation

-- what followed a TakeClosing that gave this actor: what its DropActor came to, what the application was asked and what
-- came back, and what its Closed came to; `middle` are the seats before the Closed
pub record Closing : Type 0 where
  pub key : ActorKey
  pub dropped : BookSaid
  pub middle : Seats
  pub asked : List Exchange
  pub got : Got
  pub closed : Said

-- the application was told in one exchange that the actor is no longer active
abbrev pub IsTold : Address → Closing → Type 0
IsTold app c = IsHttpExchange (deactivate_text app c.key) (place_at app) c.asked c.got

-- what is owed after a Close: one DropActor on the part's book, and one Closed on the part
abbrev pub owed_entries : ℕ → Closing → List NodeEntry
owed_entries part c = at_book part (one_entry (timers.DropActor c.key) c.dropped) ++ at_part part (one_entry (events.Closed c.key) c.closed)

-- a gate that took one of the two not has 2^62 entries, which its seat has seen then
pub record IsOwed (part : ℕ) (c : Closing) (after : Seats) : Type 0 where
  pub book_full : SpentAtBook part c.dropped c.middle
  pub kept : ActsAt part (one_entry (events.Closed c.key) c.closed) c.middle after
  pub full : SpentAt part c.closed after

-- the dial or the connection to the application failed
abbrev pub is_fault : Got → Bool
is_fault (Err edge.ConnFault) = true
is_fault got = false

abbrev pub told_end : Got → Option TickEnd
told_end (Err edge.OutOfMemory) = Some ends.OutOfMemory
told_end got = None

abbrev pub closed_end : Said → Got → Option TickEnd
closed_end (Err spent) got = Some (ends.Spent spent.count)
closed_end (Ok replies.Stopped) got = Some ends.Stopped
closed_end (Ok reply) got = told_end got

-- What ends the turn after a deactivation: a gate that took no entry, then a part that has stopped, then want of memory.
-- Whatever the application answered doesn't end it.
abbrev pub closing_end : BookSaid → Said → Got → Option TickEnd
closing_end (Err spent) said got = Some (ends.Spent spent.count)
closing_end (Ok reply) said got = closed_end said got

-- ---- one TakeClosing

-- what a TakeClosing on a part came to, and the deactivation that followed if it gave an actor; `after` are the seats then
pub record Taking : Type 0 where
  pub part : ℕ
  pub said : Said
  pub closing : Option Closing
  pub after : Seats

-- a deactivation follows Close, and nothing else; a gate that took no entry has 2^62 of them
abbrev pub IsTaking : Address → ℕ → Said → Option Closing → Seats → Type 0
IsTaking app part (Ok (replies.Close key)) (Some c) after = (c.key ≡ key) × IsTold app c × IsOwed part c after
IsTaking app part (Ok (replies.Close key)) None after = ⊥
IsTaking app part (Ok reply) (Some c) after = ⊥
IsTaking app part (Ok reply) None after = Unit {0}
IsTaking app part (Err spent) (Some c) after = ⊥
IsTaking app part (Err spent) None after = SpentAt part (Err spent) after

abbrev pub after_closing : ℕ → Option TickEnd → Stand
after_closing part None = On part
after_closing part (Some end) = Over end

-- how the turn ends if a part gives no actor, for another reason than that none is left
abbrev pub taken_end : PartReply → TickEnd
taken_end replies.Stopped = ends.Stopped
taken_end reply = ends.OutOfMemory

-- where the turn stands then: it goes on at the same part after a deactivation, at the next part if none was left
abbrev pub stand : ℕ → Said → Option Closing → Stand
stand part (Ok (replies.Close key)) (Some c) = after_closing part (closing_end c.dropped c.closed c.got)
stand part (Ok replies.NoneClosing) closing = On (part + 1)
stand part (Ok reply) closing = Over (taken_end reply)
stand part (Err spent) closing = Over (ends.Spent spent.count)

abbrev pub rest_entries : ℕ → Option Closing → List NodeEntry
rest_entries part None = []
rest_entries part (Some c) = owed_entries part c

abbrev pub take_entries : ℕ → ℕ → Said → Option Closing → List NodeEntry
take_entries now part said closing = at_part part (one_entry (events.TakeClosing now) said) ++ rest_entries part closing

abbrev pub asked_of : Option Closing → List Exchange
asked_of None = []
asked_of (Some c) = c.asked

abbrev pub fault_in : Option Closing → Bool
fault_in None = false
fault_in (Some c) = is_fault c.got

-- ---- all of them

abbrev pub entries_of : ℕ → List Taking → List NodeEntry
entries_of now [] = []
entries_of now (t ∷ ts) = take_entries now t.part t.said t.closing ++ entries_of now ts

abbrev pub exchanges_of : List Taking → List Exchange
exchanges_of [] = []
exchanges_of (t ∷ ts) = asked_of t.closing ++ exchanges_of ts

abbrev pub any_fault : List Taking → Bool
any_fault [] = false
any_fault (t ∷ ts) = fault_in t.closing || any_fault ts

-- The takings from where the turn stands: each is on the part at which it stands, and leads from the seats before it to
-- those after it, until all parts are through, or something ends it.
abbrev pub GoesOn : Address → ℕ → ℕ → Stand → List Taking → Seats → Seats → Option TickEnd → Type 0
GoesOn app now parts (Over end) [] before after last = (last ≡ Some end) × (after ≡ before)
GoesOn app now parts (Over end) (t ∷ ts) before after last = ⊥
GoesOn app now parts (On part) [] before after last = (parts ≤ part) × (last ≡ None) × (after ≡ before)
GoesOn app now parts (On part) (t ∷ ts) before after last =
    (part < parts) × (t.part ≡ part) × IsTaking app t.part t.said t.closing t.after × Acts (take_entries now t.part t.said t.closing) before t.after
    × GoesOn app now parts (stand part t.said t.closing) ts t.after after last

-- The actors of all parts that could be deactivated at this moment were, from the first part on. `t0` and `t1` say what
-- the dialler of the application reported before and after, `f0` and `f1` are its counts of faults.
pub record ClosesCells
    (node : SidecarNode) (app : Address) (now : ℕ) (before after : Seats) (t0 t1 : Option Dialled) (f0 f1 : ℕ) (faulted : Bool) (last : Option TickEnd) : Type 0 where
  pub takings : List Taking
  pub goes_on : GoesOn app now (length (part_gates node)) (On 0) takings before after last
  pub acts : Acts (entries_of now takings) before after
  pub asks : Dialling (exchanges_of takings) t0 t1 f0 f1
  pub faults : faulted ≡ any_fault takings
  pub rises : faulted ≡ true → f0 < f1

-- ---- the turn

-- a fault of the application's connection is told in place of Done
abbrev pub turn_end : Bool → Option TickEnd → TickEnd
turn_end faulted (Some end) = end
turn_end true None = ends.AppFault
turn_end false None = ends.Done 0

pub record ClosingTurn (node : SidecarNode) (app : Address) (now : ℕ) (before after : Seats) (t0 t1 : Option Dialled) (f0 f1 : ℕ) (end : TickEnd) : Type 0 where
  pub faulted : Bool
  pub last : Option TickEnd
  pub closes : ClosesCells node app now before after t0 t1 f0 f1 faulted last
  pub ends : end ≡ turn_end faulted last

-- the count of faults rises if the application's connection failed
abbrev pub TickCause : ℕ → ℕ → TickEnd → Type 0
TickCause before after ends.AppFault = before < after
TickCause before after end = before ≤ after
