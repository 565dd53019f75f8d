-- What the reply of a part's step says of the turns that began, against the step's marks.
use Rattle.std.proofs.Common.{◌≡◌, ℕ, Bool, true, false, not, ◌&&◌, ◌+◌, List, [], ◌∷◌, ◌++◌, length, Option, None, Some, refl, ap, ◌∙◌, arith, length-append}
use Rattle.std.specs.Prelude.{zero, suc, nat_lt, ◌==◌, option_map}
use Rattle.std.specs.declared.result.Result.{Result}
use Rattle.std.specs.declared.result.Result.TheVariants.{Ok, Err}
use Rattle.std.proofs.lemmas.Bool.{cond_both}
use Rattle.actor_names.specs.declared.actor_key.ActorKey.{ActorKey}
use Rattle.actor_names.specs.Same.{same_member}
use Rattle.place_table.specs.declared.host.HostInfo.{HostInfo}
use Rattle.place_table.specs.Hosts.{PlacementTable}
use Rattle.turn_core.specs.declared.cell.Waiter.{Waiter}
use Rattle.turn_core.specs.declared.answer.Asked.{Asked}
use Rattle.turn_core.specs.declared.answer.Asked.TheVariants as asked
use Rattle.turn_core.specs.declared.answer.CellError.{CellError}
use Rattle.turn_core.specs.declared.answer.CellError.TheVariants as deny
use Rattle.turn_core.specs.declared.answer.CellEnd.TheVariants as ending
use Rattle.turn_core.specs.declared.answer.CellPoll.{CellPoll}
use Rattle.turn_core.specs.declared.answer.CellPoll.TheVariants as polling
use Rattle.turn_core.specs.Cell.{CellState, EndStep, admit_call, begun_next, call_of, cell_poll, has_turn, is_free, is_open_chain, next_call, not_open, waiter_of, without_call}
use Rattle.part_model.specs.declared.actor_cell.ActorCell.{ActorCell}
use Rattle.part_model.specs.declared.event.PartEvent.{PartEvent}
use Rattle.part_model.specs.declared.event.PartEvent.TheVariants as events
use Rattle.part_model.specs.declared.event.Reply.TheVariants as replies
use Rattle.part_model.specs.declared.stage.Stage.{Stage}
use Rattle.part_model.specs.declared.stage.Stage.TheVariants.{Stopped}
use Rattle.part_model.specs.Cells.{cell_at, cell_of_call}
use Rattle.part_model.specs.Marks.{PartMark, TurnBegan, TurnEnded, BecameActive, BecameInactive, PartOpened, begun_calls, marks_of_begin, marks_of_next}
use Rattle.part_model.specs.Receipts.{PartReply}
use Rattle.part_model.specs.Part
use Rattle.part_model.specs.Part.{PartState, PartStep, CellStep, asked_step, ask_cell, ask_owned, found_or_first, call_chain, is_full, is_spent, is_open, is_own, is_foreign, is_locked, is_updated, is_drained, each_cell, part_step}
use Rattle.cluster_model.specs.World.{ask_of}
use Rattle.cluster_model.proofs.Counts.{ends_begin_none, stop_begins_none}
use Rattle.plain_commands.specs.Begins.{listed}

-- ---- what a reply says of the calls that began

abbrev pub AskTells : PartReply → List ℕ → Type 0
AskTells (replies.Begun call chain) calls = calls ≡ call ∷ []
AskTells reply calls = calls ≡ []

abbrev pub EndTells : PartReply → List ℕ → Type 0
EndTells (replies.Ended next) calls = calls ≡ listed next
EndTells reply calls = calls ≡ []

abbrev pub CloseTells : PartReply → List ℕ → Type 0
CloseTells (replies.ClosedDone next) calls = calls ≡ listed next
CloseTells reply calls = calls ≡ []

abbrev pub TableTells : PartReply → List ℕ → Type 0
TableTells (replies.Opened receipt begun moved) calls = length calls ≡ begun
TableTells reply calls = calls ≡ []

-- no other event begins a turn
abbrev pub StepTells : PartEvent → PartReply → List ℕ → Type 0
StepTells (events.Ask key chain now) reply calls = AskTells reply calls
StepTells (events.AskAt key chain least now) reply calls = AskTells reply calls
StepTells (events.End call now) reply calls = EndTells reply calls
StepTells (events.Closed key) reply calls = CloseTells reply calls
StepTells (events.Lock version) reply calls = TableTells reply calls
StepTells (events.Update table now) reply calls = TableTells reply calls
StepTells (events.Unlock version) reply calls = TableTells reply calls
StepTells event reply calls = calls ≡ []

-- ---- the calls of lists of marks

begun_calls-append : (xs ys : List PartMark) → begun_calls (xs ++ ys) ≡ begun_calls xs ++ begun_calls ys
begun_calls-append [] ys = refl
begun_calls-append (TurnBegan key call chain ∷ xs) ys = ap (◌∷◌ call) (begun_calls-append xs ys)
begun_calls-append (TurnEnded key call ∷ xs) ys = begun_calls-append xs ys
begun_calls-append (BecameActive key version ∷ xs) ys = begun_calls-append xs ys
begun_calls-append (BecameInactive key ∷ xs) ys = begun_calls-append xs ys
begun_calls-append (PartOpened number version ∷ xs) ys = begun_calls-append xs ys

begin_calls : (a : Bool) (key : ActorKey) (v call : ℕ) (chain : Option (List ℕ)) → begun_calls (marks_of_begin a key v call chain) ≡ call ∷ []
begin_calls true key v call chain = refl
begin_calls false key v call chain = refl

next_calls : (a : Bool) (key : ActorKey) (v : ℕ) (next : Option Waiter) → begun_calls (marks_of_next a key v next) ≡ listed (option_map call_of next)
next_calls a key v None = refl
next_calls a key v (Some w) = begin_calls a key v w.call w.chain

-- as many turns begin as the cells' steps count
each_count : (f : ActorCell → CellStep) (cs : List ActorCell) → ((c : ActorCell) → length (begun_calls (f c).marks) ≡ (f c).first) → length (begun_calls (each_cell f cs).marks) ≡ (each_cell f cs).first
each_count f [] h = refl
each_count f (c ∷ cs) h =
    let more = each_count f cs h in
    let now = h c in
    let a = ap (λ (z : List ℕ). length z) (begun_calls-append (f c).marks (each_cell f cs).marks) in
    let b = length-append (begun_calls (f c).marks) (begun_calls (each_cell f cs).marks) in
    omega arith

each_none : (f : ActorCell → CellStep) (cs : List ActorCell) → ((c : ActorCell) → begun_calls (f c).marks ≡ []) → begun_calls (each_cell f cs).marks ≡ []
each_none f [] h = refl
each_none f (c ∷ cs) h =
    begun_calls-append (f c).marks (each_cell f cs).marks
    ∙ ap (λ (z : List ℕ). z ++ begun_calls (each_cell f cs).marks) (h c)
    ∙ each_none f cs h

-- ---- every step

module _ (owner : PlacementTable → ActorKey → Option HostInfo) where
  abbrev Asks : PartStep → Type 0
  Asks s = AskTells s.reply (begun_calls s.marks)

  abbrev Ends : PartStep → Type 0
  Ends s = EndTells s.reply (begun_calls s.marks)

  abbrev Closes : PartStep → Type 0
  Closes s = CloseTells s.reply (begun_calls s.marks)

  abbrev Tables : PartStep → Type 0
  Tables s = TableTells s.reply (begun_calls s.marks)

  abbrev None_ : PartStep → Type 0
  None_ s = begun_calls s.marks ≡ []

  asked_tells : (p : PartState) (c : ActorCell) (chain : Option (List ℕ)) (inner : CellState) (answer : Result Asked CellError) → Asks (asked_step p c chain inner answer)
  asked_tells p c chain inner (Ok asked.Begun) = begin_calls c.active c.key p.opened (p.drawn + 1) chain
  asked_tells p c chain inner (Ok (asked.Waits place)) = refl
  asked_tells p c chain inner (Err (deny.Depth turns)) = refl
  asked_tells p c chain inner (Err (deny.QueueFull n)) = refl
  asked_tells p c chain inner (Err deny.OutOfMemory) = refl

  ask_cell_tells : (full : Bool) (p : PartState) (c : ActorCell) (chain : Option (List ℕ)) (may : Bool) → Asks (ask_cell full p c chain may)
  ask_cell_tells full p c chain may = cond_both full _ _ Asks (λ _. refl) (λ _. asked_tells p c chain _ (admit_call c.inner (p.drawn + 1) chain may).answer)

  ask_owned_tells : (full : Bool) (p : PartState) (c : ActorCell) (chain : Option (List ℕ)) (found : Option HostInfo) → Asks (ask_owned full p c chain found)
  ask_owned_tells full p c chain None = refl
  ask_owned_tells full p c chain (Some host) = cond_both (same_member host.member p.member) _ _ Asks (λ _. ask_cell_tells full p c chain (not c.closing)) (λ _. refl)

  ask_tells : (p : PartState) (key : ActorKey) (chain : Option (List ℕ)) (least : ℕ) → Asks (Part.ask_part owner p key chain least)
  ask_tells p key chain least =
      let c = found_or_first p key (cell_at p.cells key) in
      let x = call_chain p c.inner.depth chain in
      cond_both (is_spent p) _ _ Asks (λ _. refl)
      (λ _. cond_both (nat_lt p.seen least) _ _ Asks (λ _. refl)
      (λ _. cond_both (is_open_chain c.inner x) _ _ Asks (λ _. ask_cell_tells (is_full p (cell_at p.cells key)) p c x false)
      (λ _. cond_both (is_open p.stage) _ _ Asks (λ _. ask_owned_tells (is_full p (cell_at p.cells key)) p c x (owner p.table c.key))
      (λ _. ask_cell_tells (is_full p (cell_at p.cells key)) p c x false))))

  poll_none : (p : PartState) (call : ℕ) (found : Option ActorCell) → None_ (Part.poll_cell owner p call found)
  poll_none p call None = refl
  poll_none p call (Some c) = go (cell_poll c.inner call).cell (cell_poll c.inner call).answer
    where
      go : (inner : CellState) (answer : CellPoll) → None_ (Part.polled_step owner p c call inner answer)
      go inner polling.Begun = refl
      go inner (polling.Waits place) = refl
      go inner polling.Moved = refl
      go inner polling.Gone = refl

  end_tells : (p : PartState) (call now : ℕ) (found : Option ActorCell) → Ends (Part.end_cell owner p call now found)
  end_tells p call now None = refl
  end_tells p call now (Some c) =
      cond_both (has_turn call c.inner.turns) _ _ (λ (a : EndStep). Ends (Part.ended_step owner p c call now a.cell a.answer)) (λ _. ends) (λ _. go (waiter_of call c.inner.queue))
    where
      go : (w : Option Waiter) → Ends (Part.ended_step owner p c call now c.inner (not_open w))
      go None = refl
      go (Some w) = refl

      less : CellState
      less = without_call c.inner call

      next : Option Waiter
      next = next_call (Part.may_begin owner p c) less

      ends : Ends (Part.ended_step owner p c call now (begun_next less next) (ending.Ended (option_map call_of next)))
      ends = next_calls c.active c.key p.opened next

  hold_none : (p : PartState) (found : Option ActorCell) → None_ (Part.hold_cell owner p found)
  hold_none p None = refl
  hold_none p (Some c) = cond_both (c.active && not c.closing) _ _ None_ (λ _. cond_both (is_spent p) _ _ None_ (λ _. refl) (λ _. refl)) (λ _. refl)

  release_none : (p : PartState) (now : ℕ) (found : Option ActorCell) → None_ (Part.release_cell owner p now found)
  release_none p now None = refl
  release_none p now (Some c) = cond_both (c.inner.holds == 0) _ _ None_ (λ _. refl) (λ _. refl)

  open_count : (p : PartState) (c : ActorCell) (next : Option Waiter) → length (begun_calls (Part.begin_in owner p c next).marks) ≡ (Part.begin_in owner p c next).first
  open_count p c None = refl
  open_count p c (Some w) = ap (λ (z : List ℕ). length z) (begin_calls c.active c.key p.opened w.call w.chain)

  unlock_tells : (p : PartState) (version : ℕ) → Tables (Part.unlock_part owner p version)
  unlock_tells p version =
      let q = Part.as_open owner p in
      cond_both (is_updated p.stage && (version == p.seen)) _ _ Tables
      (λ _. cond_both (is_drained owner p) _ _ Tables
      (λ _. each_count (Part.open_cell owner q) p.cells
      (λ c. cond_both (is_own owner q c.key) _ _ (λ (s : CellStep). length (begun_calls s.marks) ≡ s.first) (λ _. open_count q c (next_call (not c.closing) c.inner)) (λ _. refl)))
      (λ _. refl))
      (λ _. refl)

  tick_none : (p : PartState) (now : ℕ) → None_ (Part.tick_part owner p now)
  tick_none p now =
      cond_both (is_updated p.stage) _ _ None_
      (λ _. each_none (Part.tick_cell owner p now) p.cells
      (λ c. cond_both (not (is_free c.inner) && (is_foreign owner p c.key && Part.is_overdue owner p now c)) _ _ (λ (s : CellStep). begun_calls s.marks ≡ []) (λ _. ends_begin_none c.key c.inner.turns) (λ _. refl)))
      (λ _. refl)

  take_none : (p : PartState) (found : Option ActorCell) → None_ (Part.close_cell owner p found)
  take_none p None = refl
  take_none p (Some c) = refl

  closed_tells : (p : PartState) (found : Option ActorCell) → Closes (Part.closed_cell owner p found)
  closed_tells p None = refl
  closed_tells p (Some c) =
      cond_both c.closing _ _ Closes (λ _. next_calls false c.key p.opened (next_call (is_open p.stage && is_own owner p c.key) c.inner)) (λ _. refl)

  abbrev Tells : PartEvent → PartStep → Type 0
  Tells e s = StepTells e s.reply (begun_calls s.marks)

  running_tells : (p : PartState) (e : PartEvent) → Tells e (Part.running_step owner p e)
  running_tells p (events.Ask key chain now) = ask_tells p key chain 0
  running_tells p (events.AskAt key chain least now) = ask_tells p key chain least
  running_tells p events.Draw = cond_both (is_spent p) _ _ None_ (λ _. refl) (λ _. refl)
  running_tells p (events.Poll call) = poll_none p call (cell_of_call p.cells call)
  running_tells p (events.End call now) = end_tells p call now (cell_of_call p.cells call)
  running_tells p (events.Hold key) = hold_none p (cell_at p.cells key)
  running_tells p (events.Release key now) = release_none p now (cell_at p.cells key)
  running_tells p (events.Lock version) = cond_both (nat_lt p.seen version) _ _ Tables (λ _. refl) (λ _. refl)
  running_tells p (events.Update table now) = cond_both (is_locked p.stage && (table.version == p.seen)) _ _ Tables (λ _. refl) (λ _. refl)
  running_tells p (events.Unlock version) = unlock_tells p version
  running_tells p (events.Tick now) = tick_none p now
  running_tells p (events.TakeClosing now) = take_none p (Part.first_to_close owner p now p.cells)
  running_tells p (events.Closed key) = closed_tells p (cell_at p.cells key)
  running_tells p events.StopPart = stop_begins_none p.cells

  stopped_tells : (p : PartState) (e : PartEvent) → Tells e (Part.stopped_step owner p e)
  stopped_tells p events.StopPart = refl
  stopped_tells p e = refl

  tells_at : (p : PartState) (stage : Stage) (e : PartEvent) → Tells e (Part.step_at owner p stage e)
  tells_at p Stopped e = stopped_tells p e
  tells_at p stage e = running_tells p e

  pub step_tells : (p : PartState) (e : PartEvent) → StepTells e (part_step owner p e).reply (begun_calls (part_step owner p e).marks)
  step_tells p e = tells_at p p.stage e

  -- a call, whether its line names a version or not
  pub call_tells : (p : PartState) (key : ActorKey) (least : ℕ) (chain : Option (List ℕ)) (now : ℕ) → AskTells (part_step owner p (ask_of key least chain now)).reply (begun_calls (part_step owner p (ask_of key least chain now)).marks)
  call_tells p key zero chain now = step_tells p (events.Ask key chain now)
  call_tells p key (suc least) chain now = step_tells p (events.AskAt key chain (suc least) now)
