-- The actors of a part without its stage and table: the numbers drawn, the cells, and the calls of the last step.
-- Own.
use Rattle.std.specs.Prelude.{◌≡◌, ◌≤◌, ◌^◌, ℕ, Bool, true, false, not, ◌&&◌, ◌||◌, nat_lt, if◌then◌else◌, List, [], ◌∷◌, length, Option, None, Some}
use Rattle.std.specs.declared.result.Result.{Result}
use Rattle.std.specs.declared.result.Result.TheVariants.{Ok, Err}
use Rattle.actor_names.specs.declared.actor_key.ActorKey.{ActorKey}
use Rattle.place_table.specs.declared.host.HostInfo.{HostInfo}
use Rattle.place_table.specs.Hosts.{PlacementTable}
use Rattle.turn_core.specs.declared.cell.Turn.{Turn}
use Rattle.turn_core.specs.declared.cell.Waiter.{Waiter}
use Rattle.turn_core.specs.declared.answer.Asked.{Asked}
use Rattle.turn_core.specs.declared.answer.Asked.TheVariants as asked
use Rattle.turn_core.specs.declared.answer.CellError.{CellError}
use Rattle.turn_core.specs.declared.answer.CellError.TheVariants as deny
use Rattle.turn_core.specs.Cell.{CellState, new_cell}
use Rattle.turn_core.specs.CellSound.{In}
use Rattle.part_model.specs.declared.actor_cell.ActorCell.{ActorCell}
use Rattle.part_model.specs.Cells.{total, total_calls}
use Rattle.part_core.specs.declared.standing.Standing.{Standing}
use Rattle.part_model.specs.Receipts.{PartReply}
use Rattle.part_model.specs.declared.event.Reply.TheVariants as replies
use Rattle.part_model.specs.Part.{PartState, PartStep, ask_cell, ask_owned, ask_here, refused, is_open, is_updated, is_foreign, is_owned_by, is_idle, ring_owner}
use Rattle.part_core.specs.Quiet.{is_resting}
use Rattle.part_model.specs.Rooms.{PartView}
use Rattle.part_model.specs.Settings.{AreShallow}

pub record ActorsState : Type 0 where
  pub drawn : ℕ
  pub cells : List ActorCell
  pub recent : List ℕ  -- the calls that the last step began or ended

abbrev pub no_actors : ActorsState
no_actors = record { drawn = 0; cells = []; recent = [] }

-- the part with this standing and these actors
abbrev pub state_of : Standing → ActorsState → PartState
state_of s a =
    record {
      member = s.member;
      number = s.number;
      kinds = s.kinds;
      stage = s.stage;
      seen = s.seen;
      opened = s.opened;
      table = s.table;
      since = s.since;
      drawn = a.drawn;
      cells = a.cells;
    }

abbrev pub view_of : Standing → ActorsState → PartView
view_of s a = record { state = state_of s a; recent = a.recent }

-- one for an active actor of another owner, else zero
abbrev pub foreign_in : (PlacementTable → ActorKey → Option HostInfo) → PartState → ActorCell → ℕ
foreign_in owner p c = if c.active && is_foreign owner p c.key then 1 else 0

-- how many active actors belong to another owner by the installed table
abbrev pub total_foreign : (PlacementTable → ActorKey → Option HostInfo) → PartState → List ActorCell → ℕ
total_foreign owner p = total (foreign_in owner p)

-- an updated part keeps their number
abbrev pub IsForeignCounted : Standing → List ActorCell → Type 0
IsForeignCounted s cells = is_updated s.stage ≡ true → s.foreign ≡ total_foreign ring_owner (state_of s no_actors) cells

-- whether an updated part has active actors to give up to other owners
abbrev pub gives_some : Standing → Bool
gives_some s = is_updated s.stage && nat_lt 0 s.foreign

-- whether an actor may be taken for deactivation, if a part with such actors is asked or not
abbrev pub may_close_if : Bool → PartState → ℕ → ActorCell → Bool
may_close_if gives p now c = is_resting c && ((gives && is_foreign ring_owner p c.key) || is_idle ring_owner p now c)

-- Depths are in range, versions at most 2^62, and foreign actors are counted.
pub record IsStandingKept (s : Standing) (a : ActorsState) : Type 0 where
  pub shallow : AreShallow s.kinds
  pub seen_fits : s.seen ≤ 2 ^ 62
  pub opened_fits : s.opened ≤ 2 ^ 62
  pub counted : IsForeignCounted s a.cells

-- the number of each call of a cell is at most the last number drawn, and so is the count of holds
pub record IsNumbered (drawn : ℕ) (c : CellState) : Type 0 where
  pub open_turns : (t : Turn) → In t c.turns → t.call ≤ drawn
  pub waiters : (w : Waiter) → In w c.queue → w.call ≤ drawn
  pub held : c.holds ≤ drawn

-- What is kept beside the cells: numbers within what was drawn, no more cells than a part holds, and room in the list
-- of the last step for every call that is open or waits.
pub record AreActorsKept (drawn : ℕ) (cells : List ActorCell) (room : ℕ) : Type 0 where
  pub drawn_fits : drawn ≤ 2 ^ 62
  pub numbered : (c : ActorCell) → In c cells → IsNumbered drawn c.inner
  pub few : length cells ≤ 65536
  pub counted : total_calls cells ≤ drawn
  pub has_room : total_calls cells ≤ room

-- memory has run out
abbrev pub HasRunOut : PartReply → Type 0
HasRunOut reply = reply ≡ replies.OutOfMemory

-- ---- a call asked at a cell

-- whether the reply says that a deactivation is over
abbrev pub is_closed : PartReply → Bool
is_closed (replies.ClosedDone next) = true
is_closed reply = false

-- whether an actor's call enters a part with this standing: it asks the cell, and may begin a new chain or not, or it is
-- refused with this reply; only memory can run out besides
abbrev pub EntersBy : (Bool → PartState → PartStep) → Standing → ActorCell → Option (List ℕ) → Result Bool PartReply → Type 0
EntersBy step s c chain (Ok b) = (a : ActorsState) (full : Bool) → step full (state_of s a) ≡ ask_cell full (state_of s a) c chain (b && not c.closing)
EntersBy step s c chain (Err replies.OutOfMemory) = Unit {0}
EntersBy step s c chain (Err reply) = (a : ActorsState) (full : Bool) → step full (state_of s a) ≡ refused (state_of s a) reply

abbrev pub Enters : Standing → ActorCell → Option (List ℕ) → Result Bool PartReply → Type 0
Enters s c chain = EntersBy (λ full p. ask_here ring_owner full p c chain) s c chain

abbrev pub EntersOwned : Standing → ActorCell → Result Bool PartReply → Type 0
EntersOwned s c r = (chain : Option (List ℕ)) → EntersBy (λ full p. ask_owned full p c chain (ring_owner s.table c.key)) s c chain r

-- in an open part the cell's actor, if it is active, belongs to the member
abbrev pub IsOwnIfActive : Standing → ActorCell → Type 0
IsOwnIfActive s c = is_open s.stage ≡ true → c.active ≡ true → is_owned_by s.member (ring_owner s.table c.key) ≡ true

-- a cell that no call has asked yet
pub record IsFirstCell (c : ActorCell) : Type 0 where
  pub inner : c.inner ≡ new_cell c.inner.depth
  pub active : c.active ≡ false
  pub closing : c.closing ≡ false

-- whether the call has begun, as the cell answers
abbrev pub is_begun : Asked → Bool
is_begun asked.Begun = true
is_begun (asked.Waits place) = false

-- the reply to a call that was accepted, and the call if it has begun
abbrev pub reply_by : ℕ → Option (List ℕ) → Asked → PartReply
reply_by call chain asked.Begun = replies.Begun call chain
reply_by call chain (asked.Waits place) = replies.Waits call place

abbrev pub begun_by : ℕ → Asked → List ℕ
begun_by call asked.Begun = call ∷ []
begun_by call (asked.Waits place) = []

-- the reply to one that was refused
abbrev pub refusal_by : CellError → PartReply
refusal_by (deny.Depth turns) = replies.Depth turns
refusal_by (deny.QueueFull n) = replies.QueueFull n
refusal_by deny.OutOfMemory = replies.OutOfMemory

-- the call that has begun, if there is one
abbrev pub begun_next_in : Option ℕ → List ℕ
begun_next_in None = []
begun_next_in (Some call) = call ∷ []
