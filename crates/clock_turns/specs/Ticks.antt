-- The timers of all books that are due at one moment, and a whole tick. Own.
use Rattle.std.specs.Prelude.{◌≡◌, ◌<◌, ◌≤◌, ℕ, ◌+◌, Bool, true, false, ◌||◌, List, [], ◌∷◌, ◌++◌, length, Option, Some, None, Ok, Err}
use Rattle.actor_names.specs.declared.address.Address.{Address}
use Rattle.actor_ports.specs.Traffic.{Dialled}
use Rattle.timer_book.specs.declared.event.TimerEvent.TheVariants as timers
use Rattle.timer_book.specs.declared.event.TimerReply.TheVariants as answers
use Rattle.exchanges.specs.Exchanges.{Exchange, Dialling}
use Rattle.sidecar_node.specs.declared.node.SidecarNode.{SidecarNode}
use Rattle.sidecar_node.specs.declared.node.Seats.{Seats}
use Rattle.sidecar_node.specs.Entries.{NodeEntry, at_book, one_entry}
use Rattle.sidecar_node.specs.Nodes.{part_gates, part_at, Acts, SpentAtBook}
use Rattle.clock_turns.specs.declared.ends.TickEnd.{TickEnd}
use Rattle.clock_turns.specs.declared.ends.TickEnd.TheVariants as ends
use Rattle.clock_turns.specs.Closings.{BookSaid, ClosesCells}
use Rattle.clock_turns.specs.declared.tick_stand.Stand.{Stand}
use Rattle.clock_turns.specs.declared.tick_stand.Stand.TheVariants.{On, Over}
use Rattle.clock_turns.specs.Timers.{Fired, IsFired, nanos_of, timer_entries, run_asked}
use Rattle.clock_turns.specs.Ends.{timer_end, run_fault, run_begun, more_if}

-- ---- one Due

-- what a Due on a book came to, and the timer that followed if it gave one; `after` are the seats then, and `until` is the
-- moment that the clock shows then
pub record Firing : Type 0 where
  pub book : ℕ
  pub said : BookSaid
  pub fired : Option Fired
  pub after : Seats
  pub until : ℕ

-- A timer follows a Due that gave one, unless memory ran out before its Started; nothing follows any other answer.
abbrev pub IsFiring : SidecarNode → Address → ℕ → BookSaid → Option Fired → ℕ → ℕ → Seats → Type 0
IsFiring node app book (Ok (answers.DueIs (Some d))) (Some f) first last after = (f.timer ≡ d) × IsFired app book (part_at node d.key) f first last after
IsFiring node app book (Ok reply) (Some f) first last after = ⊥
IsFiring node app book (Ok reply) None first last after = last ≡ first
IsFiring node app book (Err spent) (Some f) first last after = ⊥
IsFiring node app book (Err spent) None first last after = (last ≡ first) × SpentAtBook book (Err spent) after

abbrev pub after_timer : ℕ → Option TickEnd → Stand
after_timer book None = On book
after_timer book (Some end) = Over end

abbrev pub due_stand : ℕ → Option Fired → Stand
due_stand book None = Over ends.OutOfMemory
due_stand book (Some f) = after_timer book (timer_end f)

-- where the tick stands then: it goes on at the same book after a timer, at the next book if none was due
abbrev pub stand : ℕ → BookSaid → Option Fired → Stand
stand book (Ok (answers.DueIs (Some d))) fired = due_stand book fired
stand book (Ok (answers.DueIs None)) fired = On (book + 1)
stand book (Ok reply) fired = Over ends.OutOfMemory
stand book (Err spent) fired = Over (ends.Spent spent.count)

abbrev pub fired_entries : SidecarNode → ℕ → ℕ → Option Fired → List NodeEntry
fired_entries node book ended None = []
fired_entries node book ended (Some f) = timer_entries book (part_at node f.timer.key) ended f

-- the entries of a Due at this moment, and of the timer that followed
abbrev pub due_entries : SidecarNode → ℕ → ℕ → BookSaid → Option Fired → ℕ → List NodeEntry
due_entries node now book said fired ended = at_book book (one_entry (timers.Due (nanos_of now)) said) ++ fired_entries node book ended fired

abbrev pub fired_asked : Option Fired → List Exchange
fired_asked None = []
fired_asked (Some f) = run_asked f.run

abbrev pub fired_fault : Option Fired → Bool
fired_fault None = false
fired_fault (Some f) = run_fault f.run

abbrev pub fired_begun : Option Fired → Bool
fired_begun None = false
fired_begun (Some f) = run_begun f.run

-- ---- all of them

abbrev pub entries_of : SidecarNode → ℕ → List Firing → List NodeEntry
entries_of node now [] = []
entries_of node now (t ∷ ts) = due_entries node now t.book t.said t.fired t.until ++ entries_of node now ts

abbrev pub exchanges_of : List Firing → List Exchange
exchanges_of [] = []
exchanges_of (t ∷ ts) = fired_asked t.fired ++ exchanges_of ts

abbrev pub any_fault : List Firing → Bool
any_fault [] = false
any_fault (t ∷ ts) = fired_fault t.fired || any_fault ts

-- how many calls began, of those beyond `n`; no more than 4,294,967,295 are counted
abbrev pub turns_from : ℕ → List Firing → ℕ
turns_from n [] = n
turns_from n (t ∷ ts) = turns_from (more_if (fired_begun t.fired) n) ts

-- The Dues from where the tick stands: each is on the book at which it stands, and leads from the seats and the moment
-- before it to those after it, until all books are through, or something ends the tick.
abbrev pub GoesOn : SidecarNode → Address → ℕ → Stand → List Firing → Seats → Seats → ℕ → ℕ → Option TickEnd → Type 0
GoesOn node app now (Over end) [] before after first last over = (over ≡ Some end) × (after ≡ before) × (last ≡ first)
GoesOn node app now (Over end) (t ∷ ts) before after first last over = ⊥
GoesOn node app now (On book) [] before after first last over = (length (part_gates node) ≤ book) × (over ≡ None) × (after ≡ before) × (last ≡ first)
GoesOn node app now (On book) (t ∷ ts) before after first last over =
    (book < length (part_gates node)) × (t.book ≡ book) × IsFiring node app t.book t.said t.fired first t.until t.after
    × Acts (due_entries node now t.book t.said t.fired t.until) before t.after
    × GoesOn node app now (stand book t.said t.fired) ts t.after after t.until last over

-- The timers of all books that were due at this moment fired, from the first book on. `t0` and `t1` say what the dialler of
-- the application reported before and after, `f0` and `f1` are its counts of faults.
pub record FiresTimers
    (node : SidecarNode) (app : Address) (now : ℕ) (before after : Seats) (t0 t1 : Option Dialled) (f0 f1 first last : ℕ)
    (turns : ℕ) (faulted : Bool) (over : Option TickEnd) : Type 0 where
  pub firings : List Firing
  pub goes_on : GoesOn node app now (On 0) firings before after first last over
  pub acts : Acts (entries_of node now firings) before after
  pub asks : Dialling (exchanges_of firings) t0 t1 f0 f1
  pub counts : turns ≡ turns_from 0 firings
  pub faults : faulted ≡ any_fault firings
  pub rises : faulted ≡ true → f0 < f1

-- ---- the tick

-- a fault of the application's connection is told in place of Done
abbrev pub tick_end : ℕ → Bool → Option TickEnd → TickEnd
tick_end turns faulted (Some end) = end
tick_end turns true None = ends.AppFault
tick_end turns false None = ends.Done turns

-- the timers fire once all parts are through
abbrev pub ThenTimers : SidecarNode → Address → Bool → Option TickEnd → Seats → Seats → Option Dialled → Option Dialled → ℕ → ℕ → ℕ → ℕ → TickEnd → Type 0
ThenTimers node app faulted (Some over) before after t0 t1 f0 f1 first last end = (after ≡ before) × (t1 ≡ t0) × (f1 ≡ f0) × (last ≡ first) × (end ≡ over)
ThenTimers node app faulted None before after t0 t1 f0 f1 first last end =
    (now : ℕ) × (turns : ℕ) × (more : Bool) × (over : Option TickEnd) × (first ≤ now)
    × FiresTimers node app now before after t0 t1 f0 f1 now last turns more over × (end ≡ tick_end turns (faulted || more) over)

-- Idle actors are deactivated first, at a moment of the clock; then the timers fire that are due at one later moment.
pub record TickTurn (node : SidecarNode) (app : Address) (before after : Seats) (t0 t1 : Option Dialled) (f0 f1 first last : ℕ) (end : TickEnd) : Type 0 where
  pub now : ℕ
  pub later : first ≤ now
  pub middle : Seats
  pub reported : Option Dialled
  pub count : ℕ
  pub faulted : Bool
  pub closed : Option TickEnd
  pub closes : ClosesCells node app now before middle t0 reported f0 count faulted closed
  pub fires : ThenTimers node app faulted closed middle after reported t1 count f1 now last end
