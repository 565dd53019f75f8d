-- What follows a Due that gave a timer: its Started, its turn with one exchange with the application, and its Finished.
-- Own; timers follow the Actors API reference of Dapr.
use Rattle.std.specs.Prelude.{◌≡◌, ◌≤◌, ◌*◌, ℕ, Bool, true, false, List, [], ◌++◌, Option, Some, None, Ok, Err}
use Rattle.actor_names.specs.declared.address.Address.{Address}
use Rattle.part_model.specs.declared.event.Reply.TheVariants as replies
use Rattle.timer_book.specs.declared.entry.DueTimer.{DueTimer}
use Rattle.timer_book.specs.declared.event.TimerEvent.{TimerEvent}
use Rattle.timer_book.specs.declared.event.TimerEvent.TheVariants as timers
use Rattle.timer_book.specs.declared.event.TimerReply.TheVariants as answers
use Rattle.exchanges.specs.Exchanges.{Exchange}
use Rattle.exchanges.specs.Replies.{Got, place_at, IsHttpExchange}
use Rattle.sidecar_node.specs.declared.node.Seats.{Seats}
use Rattle.sidecar_node.specs.Entries.{PartEntry, NodeEntry, at_part, at_book, one_entry}
use Rattle.sidecar_node.specs.Turns.{Said, Begins, Ends}
use Rattle.sidecar_node.specs.Nodes.{ActsAt, ActsAtBook, SpentAt, SpentAtBook}
use Rattle.clock_turns.specs.Closings.{BookSaid}
use Rattle.clock_turns.specs.Callbacks.{timer_call}

-- a moment in milliseconds since 1970, as books of timers count it
abbrev pub nanos_of : ℕ → ℕ
nanos_of ms = ms * 1000000

abbrev pub started_event : DueTimer → TimerEvent
started_event d = timers.Started d.key d.name d.number

abbrev pub finished_event : DueTimer → ℕ → TimerEvent
finished_event d ended = timers.Finished d.key d.name d.number (nanos_of ended)

-- a Started found the registration
abbrev pub is_there : BookSaid → Bool
is_there (Ok (answers.Started there)) = there
is_there (Ok reply) = false
is_there (Err spent) = false

-- In what follows `book` is the number of the timer's book and `part` that of the part in which its actor lives; `first`
-- and `last` are the moments that the clock showed before and after, and `after` are the seats then.

-- ---- a turn that has begun

-- what followed Begun: what a second Started came to, the exchange if that found the registration, and the End; `middle`
-- are the seats before the End
pub record Called : Type 0 where
  pub again : BookSaid
  pub middle : Seats
  pub asked : List Exchange
  pub got : Option Got
  pub back : List PartEntry
  pub over : Said

-- one exchange of the timer's callback, under the chain that the turn was told, if the registration is still there
abbrev pub Calls : Address → DueTimer → Option (List ℕ) → Bool → List Exchange → Option Got → Type 0
Calls app d chain true xs (Some got) = IsHttpExchange (timer_call app d chain) (place_at app) xs got
Calls app d chain true xs None = ⊥
Calls app d chain false xs (Some got) = ⊥
Calls app d chain false xs None = xs ≡ []

-- a gate that took no Started, or no End, has 2^62 entries, which its seat has seen then
pub record IsCalled (app : Address) (book part : ℕ) (d : DueTimer) (call : ℕ) (chain : Option (List ℕ)) (c : Called) (first last : ℕ) (after : Seats) : Type 0 where
  pub book_full : SpentAtBook book c.again c.middle
  pub calls : Calls app d chain (is_there c.again) c.asked c.got
  pub later : first ≤ last
  pub ends : Ends call last c.back c.over
  pub kept : ActsAt part c.back c.middle after
  pub full : SpentAt part c.over after

abbrev pub called_entries : ℕ → ℕ → DueTimer → Option Called → List NodeEntry
called_entries book part d None = []
called_entries book part d (Some c) = at_book book (one_entry (started_event d) c.again) ++ at_part part c.back

abbrev pub called_asked : Option Called → List Exchange
called_asked None = []
called_asked (Some c) = c.asked

-- ---- a turn

-- the entries of its beginning, the last reply, and what followed if that is Begun
pub record Turn : Type 0 where
  pub front : List PartEntry
  pub said : Said
  pub called : Option Called

-- a call follows Begun, and nothing else
abbrev pub Follows : Address → ℕ → ℕ → DueTimer → Said → Option Called → ℕ → ℕ → Seats → Type 0
Follows app book part d (Ok (replies.Begun call chain)) (Some c) first last after = IsCalled app book part d call chain c first last after
Follows app book part d (Ok (replies.Begun call chain)) None first last after = ⊥
Follows app book part d (Ok reply) (Some c) first last after = ⊥
Follows app book part d (Ok reply) None first last after = last ≡ first
Follows app book part d (Err spent) (Some c) first last after = ⊥
Follows app book part d (Err spent) None first last after = (last ≡ first) × SpentAt part (Err spent) after

pub record IsTurn (app : Address) (book part : ℕ) (d : DueTimer) (t : Turn) (first last : ℕ) (after : Seats) : Type 0 where
  pub middle : ℕ
  pub later : first ≤ middle
  pub begins : Begins d.key None None middle t.front t.said
  pub follows : Follows app book part d t.said t.called middle last after

abbrev pub turn_entries : ℕ → ℕ → DueTimer → Turn → List NodeEntry
turn_entries book part d t = at_part part t.front ++ called_entries book part d t.called

-- ---- a turn and its Finished

-- `before` are the seats before the Finished, and `done` is what it came to
pub record Run : Type 0 where
  pub turn : Turn
  pub before : Seats
  pub done : BookSaid

-- the Finished is at the moment after the turn, however that ended
pub record IsRun (app : Address) (book part : ℕ) (d : DueTimer) (r : Run) (first last : ℕ) (after : Seats) : Type 0 where
  pub middle : ℕ
  pub turn : IsTurn app book part d r.turn first middle r.before
  pub later : middle ≤ last
  pub kept : ActsAtBook book (one_entry (finished_event d last) r.done) r.before after
  pub full : SpentAtBook book r.done after

abbrev pub run_entries : ℕ → ℕ → DueTimer → ℕ → Option Run → List NodeEntry
run_entries book part d ended None = []
run_entries book part d ended (Some r) = turn_entries book part d r.turn ++ at_book book (one_entry (finished_event d ended) r.done)

abbrev pub run_asked : Option Run → List Exchange
run_asked None = []
run_asked (Some r) = called_asked r.turn.called

-- ---- a timer

-- what the first Started came to, and what followed if that found the registration; `middle` are the seats after it
pub record Fired : Type 0 where
  pub timer : DueTimer
  pub begun : BookSaid
  pub middle : Seats
  pub run : Option Run

-- a turn and its Finished follow a Started that found the registration, and nothing else
abbrev pub Runs : Address → ℕ → ℕ → DueTimer → Bool → Option Run → Seats → ℕ → ℕ → Seats → Type 0
Runs app book part d true (Some r) middle first last after = IsRun app book part d r first last after
Runs app book part d true None middle first last after = ⊥
Runs app book part d false (Some r) middle first last after = ⊥
Runs app book part d false None middle first last after = (last ≡ first) × (after ≡ middle)

pub record IsFired (app : Address) (book part : ℕ) (f : Fired) (first last : ℕ) (after : Seats) : Type 0 where
  pub full : SpentAtBook book f.begun f.middle
  pub runs : Runs app book part f.timer (is_there f.begun) f.run f.middle first last after

abbrev pub timer_entries : ℕ → ℕ → ℕ → Fired → List NodeEntry
timer_entries book part ended f = at_book book (one_entry (started_event f.timer) f.begun) ++ run_entries book part f.timer ended f.run
