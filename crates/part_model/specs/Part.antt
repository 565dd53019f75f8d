-- The part state machine: stages, calls, tables, time and deactivation.
-- Dapr's placement service spreads its tables by lock, update and unlock, and its runtime drains, deactivates and
-- holds actors; the stages, the queue and the order of refusals are own additions.
use Rattle.std.specs.Prelude.{ℕ, ◌+◌, ◌-◌, ◌^◌, Bool, true, false, not, ◌&&◌, ◌||◌, ◌==◌, nat_lt, nat_le, max, if◌then◌else◌, List, [], ◌∷◌, ◌++◌, length, decimal, Option, None, Some, option_map, is_some}
use Rattle.std.specs.declared.result.Result.{Result}
use Rattle.std.specs.declared.result.Result.TheVariants.{Ok, Err}
use Rattle.actor_names.specs.declared.actor_key.ActorKey.{ActorKey}
use Rattle.actor_names.specs.declared.member.Member.{Member}
use Rattle.place_table.specs.declared.host.HostInfo.{HostInfo}
use Rattle.place_table.specs.Hosts.{PlacementTable, table_owner}
use Rattle.turn_core.specs.declared.cell.Waiter.{Waiter}
use Rattle.turn_core.specs.declared.answer.Asked.{Asked}
use Rattle.turn_core.specs.declared.answer.Asked.TheVariants as asked
use Rattle.turn_core.specs.declared.answer.CellError.{CellError}
use Rattle.turn_core.specs.declared.answer.CellError.TheVariants as deny
use Rattle.turn_core.specs.declared.answer.CellEnd.{CellEnd}
use Rattle.turn_core.specs.declared.answer.CellEnd.TheVariants as ending
use Rattle.turn_core.specs.declared.answer.CellPoll.{CellPoll}
use Rattle.turn_core.specs.declared.answer.CellPoll.TheVariants as polling
use Rattle.turn_core.specs.Cell.{CellState, is_free, is_open_chain, unmoved, next_call, begun_next, call_of, without_call, chain_of, admit_call, cell_end, cell_poll, with_hold, without_hold, with_queue_moved, without_turns}
use Rattle.part_model.specs.declared.settings.TypeSettings.{TypeSettings}
use Rattle.part_model.specs.declared.stage.SeenStage.{SeenStage}
use Rattle.part_model.specs.declared.stage.SeenStage.TheVariants as seen
use Rattle.part_model.specs.declared.stage.Stage.{Stage}
use Rattle.part_model.specs.declared.stage.Stage.TheVariants.{Locked, Updated, Open, Stopped}
use Rattle.part_model.specs.declared.event.PartEvent.{PartEvent}
use Rattle.part_model.specs.declared.event.PartEvent.TheVariants as events
use Rattle.part_model.specs.Receipts.{PartReply}
use Rattle.part_model.specs.declared.event.Reply.TheVariants as replies
use Rattle.part_model.specs.declared.actor_cell.ActorCell.{ActorCell}
use Rattle.actor_names.specs.Same.{same_member}
use Rattle.part_model.specs.Receipts.{ReceiptState}
use Rattle.part_model.specs.Settings.{settings_of}
use Rattle.part_model.specs.Cells.{cell_at, keep_cell, cell_of_call, first_cell}
use Rattle.part_model.specs.Marks.{PartMark, TurnEnded, BecameInactive, PartOpened, marks_of_begin, marks_of_next, marks_of_ends, marks_of_stop}

pub record PartState : Type 0 where
  pub member : Member
  pub number : ℕ
  pub kinds : List TypeSettings
  pub stage : Stage  -- its version is the greatest one seen
  pub seen : ℕ
  pub opened : ℕ  -- the version at which it opened last, 0 before it first opened
  pub table : PlacementTable
  pub since : ℕ  -- the moment at which the table was installed
  pub drawn : ℕ
  pub cells : List ActorCell  -- in order of key

pub record PartStep : Type 0 where
  pub part : PartState
  pub reply : PartReply
  pub marks : List PartMark

-- the greatest number that can be drawn
abbrev pub most_drawn : ℕ
most_drawn = 2 ^ 62

abbrev pub most_cells : ℕ
most_cells = 65536

-- the empty table of a space, before the first round
abbrev pub no_table : List ℕ → PlacementTable
no_table space = record { space = space; version = 0; hosts = [] }

abbrev pub new_part : Member → ℕ → List TypeSettings → PartState
new_part m number kinds =
    record { member = m; number = number; kinds = kinds; stage = Locked; seen = 0; opened = 0; table = no_table m.space; since = 0; drawn = 0; cells = [] }

-- the host that owns an actor in a table, by the ring; a proof sees into it only if it unfolds it
unfoldable pub ring_owner : PlacementTable → ActorKey → Option HostInfo
ring_owner table key = table_owner table key

abbrev pub is_open : Stage → Bool
is_open Open = true
is_open Locked = false
is_open Updated = false
is_open Stopped = false

abbrev pub is_updated : Stage → Bool
is_updated Updated = true
is_updated Locked = false
is_updated Open = false
is_updated Stopped = false

abbrev pub is_locked : Stage → Bool
is_locked Locked = true
is_locked Updated = false
is_locked Open = false
is_locked Stopped = false

abbrev pub is_stopped : Stage → Bool
is_stopped Stopped = true
is_stopped Locked = false
is_stopped Updated = false
is_stopped Open = false

abbrev pub is_spent : PartState → Bool
is_spent p = nat_le most_drawn p.drawn

-- the part is as before
abbrev pub refused : PartState → PartReply → PartStep
refused p reply = record { part = p; reply = reply; marks = [] }

-- the part with one cell replaced
abbrev pub with_cell : PartState → ActorCell → PartState
with_cell p c = record p { cells = keep_cell p.cells c }

-- ---- what a step does with one cell, and with each cell

-- the cell after the step, the marks that it adds, and two counts
pub record CellStep : Type 0 where
  pub cell : ActorCell
  pub marks : List PartMark
  pub first : ℕ
  pub second : ℕ

pub record CellsStep : Type 0 where
  pub cells : List ActorCell
  pub marks : List PartMark
  pub first : ℕ
  pub second : ℕ

abbrev pub same_cell : ActorCell → CellStep
same_cell c = record { cell = c; marks = []; first = 0; second = 0 }

abbrev pub each_cell : (ActorCell → CellStep) → List ActorCell → CellsStep
each_cell f [] = record { cells = []; marks = []; first = 0; second = 0 }
each_cell f (c ∷ cs) =
    record {
      cells = (f c).cell ∷ (each_cell f cs).cells;
      marks = (f c).marks ++ (each_cell f cs).marks;
      first = (f c).first + (each_cell f cs).first;
      second = (f c).second + (each_cell f cs).second;
    }

-- ---- chains

-- the chain that a part makes from a number that it draws: `<node>.<boot>.<part>.<n>`
abbrev pub made_chain : Member → ℕ → ℕ → List ℕ
made_chain m number n = m.node ++ (46 ∷ (decimal m.boot ++ (46 ∷ (decimal number ++ (46 ∷ decimal n)))))

abbrev pub chain_or : Option (List ℕ) → List ℕ → Option (List ℕ)
chain_or (Some chain) made = Some chain
chain_or None made = Some made

-- the chain of the next call in a cell of this depth: none if reentrancy is off, made if the call brings none
abbrev pub call_chain : PartState → ℕ → Option (List ℕ) → Option (List ℕ)
call_chain p depth chain = if depth == 0 then None else chain_or chain (made_chain p.member p.number (p.drawn + 1))

-- ---- a call is asked

-- the cell of an actor, or a first one if it has none
abbrev pub found_or_first : PartState → ActorKey → Option ActorCell → ActorCell
found_or_first p key (Some c) = c
found_or_first p key None = first_cell key (settings_of p.kinds key.kind).depth

abbrev pub next_drawn : PartState → PartState
next_drawn p = record p { drawn = p.drawn + 1 }

-- the step of the part that follows from the cell's answer
abbrev pub asked_step : PartState → ActorCell → Option (List ℕ) → CellState → Result Asked CellError → PartStep
asked_step p c chain inner (Ok asked.Begun) =
    record {
      part = next_drawn (with_cell p (record c { inner = inner; active = true }));
      reply = replies.Begun (p.drawn + 1) chain;
      marks = marks_of_begin c.active c.key p.opened (p.drawn + 1) chain;
    }
asked_step p c chain inner (Ok (asked.Waits place)) =
    record { part = next_drawn (with_cell p (record c { inner = inner })); reply = replies.Waits (p.drawn + 1) place; marks = [] }
asked_step p c chain inner (Err (deny.Depth turns)) = refused p (replies.Depth turns)
asked_step p c chain inner (Err (deny.QueueFull n)) = refused p (replies.QueueFull n)
asked_step p c chain inner (Err deny.OutOfMemory) = refused p replies.OutOfMemory

-- `full` says that the actor needs a new cell and there is no room for one
abbrev pub ask_cell : Bool → PartState → ActorCell → Option (List ℕ) → Bool → PartStep
ask_cell full p c chain may_begin =
    if full then refused p replies.PartFull else
    asked_step p c chain (admit_call c.inner (p.drawn + 1) chain may_begin).cell (admit_call c.inner (p.drawn + 1) chain may_begin).answer

-- an open part refuses actors that its table gives to nobody or to another member
abbrev pub ask_owned : Bool → PartState → ActorCell → Option (List ℕ) → Option HostInfo → PartStep
ask_owned full p c chain None = refused p (replies.NoHost p.table.version)
ask_owned full p c chain (Some host) =
    if same_member host.member p.member then ask_cell full p c chain (not c.closing) else refused p (replies.Elsewhere p.table.version host)

abbrev pub is_new : Option ActorCell → Bool
is_new None = true
is_new (Some c) = false

abbrev pub is_full : PartState → Option ActorCell → Bool
is_full p found = is_new found && nat_le most_cells (length p.cells)

-- whether there is an owner, and it is this member
abbrev pub is_owned_by : Member → Option HostInfo → Bool
is_owned_by m None = false
is_owned_by m (Some host) = same_member host.member m

-- where a moved call should go, by the installed table
abbrev pub owner_reply : ℕ → Option HostInfo → PartReply
owner_reply version None = replies.NoHost version
owner_reply version (Some host) = replies.Elsewhere version host

-- What follows takes as a parameter which host owns an actor in a table.
module _ (owner : PlacementTable → ActorKey → Option HostInfo) where
  -- ---- own and foreign actors, and receipts

  -- the installed table gives the actor to this member
  abbrev pub is_own : PartState → ActorKey → Bool
  is_own p key = is_owned_by p.member (owner p.table key)

  abbrev pub is_foreign : PartState → ActorKey → Bool
  is_foreign p key = not (is_own p key)

  abbrev pub no_active_foreign : PartState → List ActorCell → Bool
  no_active_foreign p [] = true
  no_active_foreign p (c ∷ cs) = not (c.active && is_foreign p c.key) && no_active_foreign p cs

  -- no active actor is foreign
  abbrev pub is_drained : PartState → Bool
  is_drained p = no_active_foreign p p.cells

  abbrev pub seen_stage : PartState → Stage → SeenStage
  seen_stage p Locked = seen.Locked
  seen_stage p Updated = if is_drained p then seen.Drained else seen.Draining
  seen_stage p Open = seen.Open
  seen_stage p Stopped = seen.Stopped

  abbrev pub receipt_of : PartState → ReceiptState
  receipt_of p = record { member = p.member; part = p.number; version = p.seen; opened = p.opened; stage = seen_stage p p.stage }

  -- whether a new chain may begin in a cell
  abbrev pub may_begin : PartState → ActorCell → Bool
  may_begin p c = (is_open p.stage && is_own p c.key) && not c.closing

  -- ---- calls

  -- A call of an open chain enters in any stage. Any other call begins only in an open part whose member owns the
  -- actor; in the other stages it waits.
  abbrev pub ask_here : Bool → PartState → ActorCell → Option (List ℕ) → PartStep
  ask_here full p c chain =
      if is_open_chain c.inner chain then ask_cell full p c chain false else (
      if is_open p.stage then ask_owned full p c chain (owner p.table c.key) else ask_cell full p c chain false
      )

  abbrev pub ask_found : PartState → ActorKey → Option (List ℕ) → Option ActorCell → PartStep
  ask_found p key chain found =
      ask_here (is_full p found) p (found_or_first p key found) (call_chain p (found_or_first p key found).inner.depth chain)

  -- `least` is a version that the caller knows of, 0 if it names none
  abbrev pub ask_part : PartState → ActorKey → Option (List ℕ) → ℕ → PartStep
  ask_part p key chain least =
      if is_spent p then refused p (replies.Spent p.drawn) else (
      if nat_lt p.seen least then refused p (replies.Behind p.seen) else ask_found p key chain (cell_at p.cells key)
      )

  abbrev pub polled_step : PartState → ActorCell → ℕ → CellState → CellPoll → PartStep
  polled_step p c call inner polling.Begun = refused p (replies.Begun call (chain_of c.inner.turns))
  polled_step p c call inner (polling.Waits place) = refused p (replies.Waits call place)
  polled_step p c call inner polling.Moved =
      record { part = with_cell p (record c { inner = inner }); reply = owner_reply p.table.version (owner p.table c.key); marks = [] }
  polled_step p c call inner polling.Gone = refused p replies.AlreadyEnded

  abbrev pub poll_cell : PartState → ℕ → Option ActorCell → PartStep
  poll_cell p call None = refused p replies.AlreadyEnded
  poll_cell p call (Some c) = polled_step p c call (cell_poll c.inner call).cell (cell_poll c.inner call).answer

  abbrev pub poll_part : PartState → ℕ → PartStep
  poll_part p call = poll_cell p call (cell_of_call p.cells call)

  -- If the present moment is before the actor's last moment, the last moment is kept.
  abbrev pub ended_step : PartState → ActorCell → ℕ → ℕ → CellState → CellEnd → PartStep
  ended_step p c call now inner (ending.Ended next) =
      record {
        part = with_cell p (record c { inner = inner; last = max c.last now });
        reply = replies.Ended next;
        marks = TurnEnded c.key call ∷ marks_of_next c.active c.key p.opened (next_call (may_begin p c) (without_call c.inner call));
      }
  ended_step p c call now inner ending.AlreadyEnded = refused p replies.AlreadyEnded
  ended_step p c call now inner ending.StillWaiting = refused p replies.StillWaiting

  abbrev pub end_cell : PartState → ℕ → ℕ → Option ActorCell → PartStep
  end_cell p call now None = refused p replies.AlreadyEnded
  end_cell p call now (Some c) = ended_step p c call now (cell_end c.inner call (may_begin p c)).cell (cell_end c.inner call (may_begin p c)).answer

  abbrev pub end_part : PartState → ℕ → ℕ → PartStep
  end_part p call now = end_cell p call now (cell_of_call p.cells call)

  abbrev pub draw_part : PartState → PartStep
  draw_part p = if is_spent p then refused p (replies.Spent p.drawn) else record { part = next_drawn p; reply = replies.Drawn (p.drawn + 1); marks = [] }

  -- ---- holds

  abbrev pub hold_cell : PartState → Option ActorCell → PartStep
  hold_cell p None = refused p replies.NotActive
  hold_cell p (Some c) =
      if c.active && not c.closing then (
      if is_spent p then refused p (replies.Spent p.drawn) else
      record { part = next_drawn (with_cell p (record c { inner = with_hold c.inner })); reply = replies.Held (p.drawn + 1); marks = [] }
      ) else refused p replies.NotActive

  abbrev pub hold_part : PartState → ActorKey → PartStep
  hold_part p key = hold_cell p (cell_at p.cells key)

  abbrev pub release_cell : PartState → ℕ → Option ActorCell → PartStep
  release_cell p now None = refused p replies.NotHeld
  release_cell p now (Some c) =
      if c.inner.holds == 0 then refused p replies.NotHeld else
      record { part = with_cell p (record c { inner = without_hold c.inner; last = max c.last now }); reply = replies.Released; marks = [] }

  abbrev pub release_part : PartState → ActorKey → ℕ → PartStep
  release_part p key now = release_cell p now (cell_at p.cells key)

  -- ---- tables

  abbrev pub changed_to : PartState → PartStep
  changed_to p = record { part = p; reply = replies.TableStep (receipt_of p) true; marks = [] }

  abbrev pub unchanged : PartState → PartStep
  unchanged p = refused p (replies.TableStep (receipt_of p) false)

  abbrev pub lock_part : PartState → ℕ → PartStep
  lock_part p version = if nat_lt p.seen version then changed_to (record p { stage = Locked; seen = version }) else unchanged p

  abbrev pub update_part : PartState → PlacementTable → ℕ → PartStep
  update_part p table now =
      if is_locked p.stage && (table.version == p.seen) then changed_to (record p { stage = Updated; table = table; since = now }) else unchanged p

  -- the next call of a cell begins, if there is one
  abbrev pub begin_in : PartState → ActorCell → Option Waiter → CellStep
  begin_in p c next =
      record {
        cell = record c { inner = begun_next c.inner next; active = c.active || is_some next };
        marks = marks_of_next c.active c.key p.opened next;
        first = if is_some next then 1 else 0;
        second = 0;
      }

  -- every call in the queue of a foreign cell is marked as moved, and those that weren't moved before are counted
  abbrev pub move_in : ActorCell → CellStep
  move_in c = record { cell = record c { inner = with_queue_moved c.inner }; marks = []; first = 0; second = unmoved c.inner.queue }

  -- In an own cell that is free and isn't closing, the first waiting call that isn't moved begins. The waiting calls
  -- of a foreign cell are moved.
  abbrev pub open_cell : PartState → ActorCell → CellStep
  open_cell p c = if is_own p c.key then begin_in p c (next_call (not c.closing) c.inner) else move_in c

  abbrev pub opened_with : PartState → CellsStep → PartStep
  opened_with p s =
      record {
        part = record p { cells = s.cells };
        reply = replies.Opened (receipt_of (record p { cells = s.cells })) s.first s.second;
        marks = PartOpened p.number p.opened ∷ s.marks;
      }

  abbrev pub as_open : PartState → PartState
  as_open p = record p { stage = Open; opened = p.seen }

  abbrev pub open_part : PartState → PartStep
  open_part p = opened_with (as_open p) (each_cell (open_cell (as_open p)) p.cells)

  abbrev pub unlock_part : PartState → ℕ → PartStep
  unlock_part p version =
      if is_updated p.stage && (version == p.seen) then (if is_drained p then open_part p else refused p (replies.NotDrained (receipt_of p))) else unchanged p

  -- ---- time

  -- Whether the drain time of the actor's type has passed since the table was installed. At a moment before that no
  -- time has passed, so not even a drain time of 0 is over.
  abbrev pub is_overdue : PartState → ℕ → ActorCell → Bool
  is_overdue p now c = nat_le p.since now && nat_le (settings_of p.kinds c.key.kind).drain_ms (now - p.since)

  abbrev pub end_turns_in : ActorCell → ℕ → CellStep
  end_turns_in c now =
      record {
        cell = record c { inner = without_turns c.inner; last = max c.last now };
        marks = marks_of_ends c.key c.inner.turns;
        first = length c.inner.turns;
        second = 0;
      }

  -- the open turns of a foreign cell end if its drain time has passed
  abbrev pub tick_cell : PartState → ℕ → ActorCell → CellStep
  tick_cell p now c =
      if not (is_free c.inner) && (is_foreign p c.key && is_overdue p now c) then end_turns_in c now else same_cell c

  abbrev pub ticked_with : PartState → CellsStep → PartStep
  ticked_with p s =
      record {
        part = record p { cells = s.cells };
        reply = replies.Ticked (receipt_of (record p { cells = s.cells })) s.first;
        marks = s.marks;
      }

  abbrev pub tick_part : PartState → ℕ → PartStep
  tick_part p now =
      if is_updated p.stage then ticked_with p (each_cell (tick_cell p now) p.cells) else refused p (replies.Ticked (receipt_of p) 0)

  -- ---- deactivation

  -- whether no call waits but moved ones, and the idle time of the actor's type has passed since its last turn or
  -- hold ended
  abbrev pub is_idle : PartState → ℕ → ActorCell → Bool
  is_idle p now c = (unmoved c.inner.queue == 0) && nat_le (settings_of p.kinds c.key.kind).idle_ms (now - c.last)

  abbrev pub may_close : PartState → ℕ → ActorCell → Bool
  may_close p now c =
      (c.active && not c.closing) && ((is_free c.inner && (c.inner.holds == 0)) && ((is_updated p.stage && is_foreign p c.key) || is_idle p now c))

  abbrev pub first_to_close : PartState → ℕ → List ActorCell → Option ActorCell
  first_to_close p now [] = None
  first_to_close p now (c ∷ cs) = if may_close p now c then Some c else first_to_close p now cs

  abbrev pub close_cell : PartState → Option ActorCell → PartStep
  close_cell p None = refused p replies.NoneClosing
  close_cell p (Some c) = record { part = with_cell p (record c { closing = true }); reply = replies.Close c.key; marks = [] }

  abbrev pub take_closing : PartState → ℕ → PartStep
  take_closing p now = close_cell p (first_to_close p now p.cells)

  -- The actor becomes inactive; then the next call begins, if there is one, and makes it active again.
  abbrev pub closed_with : PartState → ActorCell → Option Waiter → PartStep
  closed_with p c next =
      record {
        part = with_cell p (record c { inner = begun_next c.inner next; active = is_some next; closing = false });
        reply = replies.ClosedDone (option_map call_of next);
        marks = BecameInactive c.key ∷ marks_of_next false c.key p.opened next;
      }

  abbrev pub closed_cell : PartState → Option ActorCell → PartStep
  closed_cell p None = refused p replies.NotClosing
  closed_cell p (Some c) =
      if c.closing then closed_with p c (next_call (is_open p.stage && is_own p c.key) c.inner) else refused p replies.NotClosing

  abbrev pub closed_part : PartState → ActorKey → PartStep
  closed_part p key = closed_cell p (cell_at p.cells key)

  -- every turn ends, and every cell is dropped
  abbrev pub stop_part : PartState → PartStep
  stop_part p =
      record {
        part = record p { stage = Stopped; cells = [] };
        reply = replies.StoppedNow (receipt_of (record p { stage = Stopped; cells = [] }));
        marks = marks_of_stop p.cells;
      }

  -- ---- the step

  abbrev pub running_step : PartState → PartEvent → PartStep
  running_step p (events.Ask key chain now) = ask_part p key chain 0
  running_step p (events.AskAt key chain least now) = ask_part p key chain least
  running_step p events.Draw = draw_part p
  running_step p (events.Poll call) = poll_part p call
  running_step p (events.End call now) = end_part p call now
  running_step p (events.Hold key) = hold_part p key
  running_step p (events.Release key now) = release_part p key now
  running_step p (events.Lock version) = lock_part p version
  running_step p (events.Update table now) = update_part p table now
  running_step p (events.Unlock version) = unlock_part p version
  running_step p (events.Tick now) = tick_part p now
  running_step p (events.TakeClosing now) = take_closing p now
  running_step p (events.Closed key) = closed_part p key
  running_step p events.StopPart = stop_part p

  -- a stopped part answers its receipt to another StopPart, and Stopped to all else
  abbrev pub stopped_step : PartState → PartEvent → PartStep
  stopped_step p events.StopPart = refused p (replies.StoppedNow (receipt_of p))
  stopped_step p _ = refused p replies.Stopped

  abbrev pub step_at : PartState → Stage → PartEvent → PartStep
  step_at p Stopped event = stopped_step p event
  step_at p Locked event = running_step p event
  step_at p Updated event = running_step p event
  step_at p Open event = running_step p event

  abbrev pub part_step : PartState → PartEvent → PartStep
  part_step p event = step_at p p.stage event
