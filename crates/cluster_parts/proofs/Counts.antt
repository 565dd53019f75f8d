-- How many turns a step of a part begins and ends, as given by its reply and by the calls that it lends.
use Rattle.std.proofs.Common.{◌≡◌, ℕ, Bool, true, false, cond, not, List, [], ◌∷◌, ◌++◌, length, refl, sym, ap}
use Rattle.std.specs.Prelude.{Option, None, Some, Result, Ok, Err, ◌&&◌, ◌==◌, nat_lt}
use Rattle.std.proofs.lemmas.Bool.{cond_both}
use Rattle.actor_names.specs.declared.actor_key.ActorKey.{ActorKey}
use Rattle.place_table.specs.declared.host.HostInfo.{HostInfo}
use Rattle.turn_core.specs.declared.cell.Turn.{Turn}
use Rattle.turn_core.specs.declared.cell.Waiter.{Waiter}
use Rattle.turn_core.specs.declared.answer.Asked.{Asked}
use Rattle.turn_core.specs.declared.answer.Asked.TheVariants as asked
use Rattle.turn_core.specs.declared.answer.CellError.{CellError}
use Rattle.turn_core.specs.declared.answer.CellError.TheVariants as deny
use Rattle.turn_core.specs.declared.answer.CellEnd.{CellEnd}
use Rattle.turn_core.specs.declared.answer.CellEnd.TheVariants as ending
use Rattle.turn_core.specs.declared.answer.CellPoll.{CellPoll}
use Rattle.turn_core.specs.declared.answer.CellPoll.TheVariants as polling
use Rattle.turn_core.specs.Cell.{CellState, is_free, is_open_chain}
use Rattle.part_model.specs.declared.actor_cell.ActorCell.{ActorCell}
use Rattle.part_model.specs.Cells.{cell_at, cell_of_call}
use Rattle.actor_names.specs.Same.{same_member}
use Rattle.part_model.specs.declared.stage.Stage.{Stage}
use Rattle.part_model.specs.declared.stage.Stage.TheVariants.{Locked, Updated, Open, Stopped}
use Rattle.part_model.specs.declared.event.PartEvent.{PartEvent}
use Rattle.part_model.specs.declared.event.PartEvent.TheVariants as events
use Rattle.part_model.specs.Marks.{PartMark, TurnBegan, TurnEnded, BecameActive, BecameInactive, PartOpened, begun_calls, ended_calls, marks_of_begin, marks_of_next, marks_of_ends, marks_of_inactive, marks_of_stop}
use Rattle.part_model.specs.Part as Part
use Rattle.part_model.specs.Part.{PartState, PartStep, CellStep, each_cell, is_open, is_updated, is_locked, is_spent, is_full, found_or_first, call_chain, asked_step, ask_cell, ask_owned, ask_here, ask_found, ask_part, polled_step, poll_cell, ended_step, end_cell, draw_part, hold_cell, release_cell, lock_part, update_part, unlock_part, is_drained, open_cell, as_open, tick_cell, tick_part, is_foreign, is_own, is_overdue, may_begin, close_cell, first_to_close, closed_cell, running_step, stopped_step, step_at, part_step, ring_owner}
use Rattle.cluster_parts.specs.declared.tally.Tally.{Tally}
use Rattle.cluster_parts.specs.Views.{began_in, ended_in, closes, is_ended, tally_of, told_calls}

-- one turn ended exactly if the reply says so
abbrev Fits : PartStep → Type 0
Fits s = length (ended_calls s.marks) ≡ cond (is_ended s.reply) 1 0

ended-append : (xs ys : List PartMark) → ended_calls xs ≡ [] → ended_calls ys ≡ [] → ended_calls (xs ++ ys) ≡ []
ended-append [] ys e f = f
ended-append (TurnBegan key call chain ∷ xs) ys e f = ended-append xs ys e f
ended-append (TurnEnded key call ∷ xs) ys e f = absurd (cc)
ended-append (BecameActive key version ∷ xs) ys e f = ended-append xs ys e f
ended-append (BecameInactive key ∷ xs) ys e f = ended-append xs ys e f
ended-append (PartOpened number version ∷ xs) ys e f = ended-append xs ys e f

begun-append : (xs ys : List PartMark) → begun_calls xs ≡ [] → begun_calls ys ≡ [] → begun_calls (xs ++ ys) ≡ []
begun-append [] ys e f = f
begun-append (TurnBegan key call chain ∷ xs) ys e f = absurd (cc)
begun-append (TurnEnded key call ∷ xs) ys e f = begun-append xs ys e f
begun-append (BecameActive key version ∷ xs) ys e f = begun-append xs ys e f
begun-append (BecameInactive key ∷ xs) ys e f = begun-append xs ys e f
begun-append (PartOpened number version ∷ xs) ys e f = begun-append xs ys e f

begin_ends : (a : Bool) (key : ActorKey) (v n : ℕ) (chain : Option (List ℕ)) → ended_calls (marks_of_begin a key v n chain) ≡ []
begin_ends true key v n chain = refl
begin_ends false key v n chain = refl

next_ends : (a : Bool) (key : ActorKey) (v : ℕ) (o : Option Waiter) → ended_calls (marks_of_next a key v o) ≡ []
next_ends a key v None = refl
next_ends a key v (Some w) = begin_ends a key v w.call w.chain

asked_fits : (p : PartState) (c : ActorCell) (chain : Option (List ℕ)) (inner : CellState) (r : Result Asked CellError) → Fits (asked_step p c chain inner r)
asked_fits p c chain inner (Ok asked.Begun) = ap (λ (z : List ℕ). length z) (begin_ends c.active c.key p.opened _ chain)
asked_fits p c chain inner (Ok (asked.Waits place)) = refl
asked_fits p c chain inner (Err (deny.Depth turns)) = refl
asked_fits p c chain inner (Err (deny.QueueFull n)) = refl
asked_fits p c chain inner (Err deny.OutOfMemory) = refl

cell_fits : (full : Bool) (p : PartState) (c : ActorCell) (chain : Option (List ℕ)) (may : Bool) → Fits (ask_cell full p c chain may)
cell_fits true p c chain may = refl
cell_fits false p c chain may = asked_fits p c chain _ _

owned_fits : (full : Bool) (p : PartState) (c : ActorCell) (chain : Option (List ℕ)) (o : Option HostInfo) → Fits (ask_owned full p c chain o)
owned_fits full p c chain None = refl
owned_fits full p c chain (Some host) = cond_both (same_member host.member p.member) _ _ Fits (λ _. cell_fits full p c chain _) (λ _. refl)

here_fits : (full : Bool) (p : PartState) (c : ActorCell) (chain : Option (List ℕ)) → Fits (ask_here ring_owner full p c chain)
here_fits full p c chain =
    cond_both (is_open_chain c.inner chain) _ _ Fits (λ _. cell_fits full p c chain false)
    (λ _. cond_both (is_open p.stage) _ _ Fits (λ _. owned_fits full p c chain _) (λ _. cell_fits full p c chain false))

ask_fits : (p : PartState) (key : ActorKey) (chain : Option (List ℕ)) (least : ℕ) → Fits (ask_part ring_owner p key chain least)
ask_fits p key chain least =
    cond_both (is_spent p) _ _ Fits (λ _. refl) (λ _. cond_both (nat_lt p.seen least) _ _ Fits (λ _. refl) (λ _. here_fits (is_full p (cell_at p.cells key)) p (found_or_first p key (cell_at p.cells key)) (call_chain p (found_or_first p key (cell_at p.cells key)).inner.depth chain)))

polled_fits : (p : PartState) (c : ActorCell) (call : ℕ) (inner : CellState) (r : CellPoll) → Fits (polled_step ring_owner p c call inner r)
polled_fits p c call inner polling.Begun = refl
polled_fits p c call inner (polling.Waits place) = refl
polled_fits p c call inner polling.Moved = go (ring_owner p.table c.key)
  where
    go : (o : Option HostInfo) → ◌≡◌ {A = ℕ} 0 (cond (is_ended (Part.owner_reply p.table.version o)) 1 0)
    go None = refl
    go (Some h) = refl
polled_fits p c call inner polling.Gone = refl

poll_fits : (p : PartState) (call : ℕ) (o : Option ActorCell) → Fits (poll_cell ring_owner p call o)
poll_fits p call None = refl
poll_fits p call (Some c) = polled_fits p c call _ _

ended_fits : (p : PartState) (c : ActorCell) (call now : ℕ) (inner : CellState) (r : CellEnd) → Fits (ended_step ring_owner p c call now inner r)
ended_fits p c call now inner (ending.Ended next) = ap (λ (z : List ℕ). length (call ∷ z)) (next_ends c.active c.key p.opened _)
ended_fits p c call now inner ending.AlreadyEnded = refl
ended_fits p c call now inner ending.StillWaiting = refl

end_fits : (p : PartState) (call now : ℕ) (o : Option ActorCell) → Fits (end_cell ring_owner p call now o)
end_fits p call now None = refl
end_fits p call now (Some c) = ended_fits p c call now _ _

hold_fits : (p : PartState) (o : Option ActorCell) → Fits (hold_cell ring_owner p o)
hold_fits p None = refl
hold_fits p (Some c) = cond_both (c.active && not c.closing) _ _ Fits (λ _. cond_both (is_spent p) _ _ Fits (λ _. refl) (λ _. refl)) (λ _. refl)

release_fits : (p : PartState) (now : ℕ) (o : Option ActorCell) → Fits (release_cell ring_owner p now o)
release_fits p now None = refl
release_fits p now (Some c) = cond_both (c.inner.holds == 0) _ _ Fits (λ _. refl) (λ _. refl)

each_ends : (f : ActorCell → CellStep) (cs : List ActorCell) → ((c : ActorCell) → ended_calls (f c).marks ≡ []) → ended_calls (each_cell f cs).marks ≡ []
each_ends f [] h = refl
each_ends f (c ∷ cs) h = ended-append (f c).marks (each_cell f cs).marks (h c) (each_ends f cs h)

each_begins : (f : ActorCell → CellStep) (cs : List ActorCell) → ((c : ActorCell) → begun_calls (f c).marks ≡ []) → begun_calls (each_cell f cs).marks ≡ []
each_begins f [] h = refl
each_begins f (c ∷ cs) h = begun-append (f c).marks (each_cell f cs).marks (h c) (each_begins f cs h)

open_ends : (p : PartState) (c : ActorCell) → ended_calls (open_cell ring_owner p c).marks ≡ []
open_ends p c = cond_both (is_own ring_owner p c.key) _ _ (λ (s : CellStep). ended_calls s.marks ≡ []) (λ _. next_ends c.active c.key p.opened _) (λ _. refl)

unlock_fits : (p : PartState) (version : ℕ) → Fits (unlock_part ring_owner p version)
unlock_fits p version =
    cond_both (is_updated p.stage && (version == p.seen)) _ _ Fits
    (λ _. cond_both (is_drained ring_owner p) _ _ Fits (λ _. ap (λ (z : List ℕ). length z) (each_ends (open_cell ring_owner (as_open ring_owner p)) p.cells (open_ends (as_open ring_owner p)))) (λ _. refl))
    (λ _. refl)

closing_fits : (p : PartState) (o : Option ActorCell) → Fits (close_cell ring_owner p o)
closing_fits p None = refl
closing_fits p (Some c) = refl

closed_fits : (p : PartState) (o : Option ActorCell) → Fits (closed_cell ring_owner p o)
closed_fits p None = refl
closed_fits p (Some c) = cond_both c.closing _ _ Fits (λ _. ap (λ (z : List ℕ). length z) (next_ends false c.key p.opened _)) (λ _. refl)

-- ---- turns that are ended by time or for good

ends_begin : (key : ActorKey) (ts : List Turn) → begun_calls (marks_of_ends key ts) ≡ []
ends_begin key [] = refl
ends_begin key (t ∷ ts) = ends_begin key ts

tick_begins : (p : PartState) (now : ℕ) (c : ActorCell) → begun_calls (tick_cell ring_owner p now c).marks ≡ []
tick_begins p now c =
    cond_both (not (is_free c.inner) && (is_foreign ring_owner p c.key && is_overdue ring_owner p now c)) _ _ (λ (s : CellStep). begun_calls s.marks ≡ []) (λ _. ends_begin c.key c.inner.turns) (λ _. refl)

no_begins : (p : PartState) (now : ℕ) → begun_calls (tick_part ring_owner p now).marks ≡ []
no_begins p now = cond_both (is_updated p.stage) _ _ (λ (s : PartStep). begun_calls s.marks ≡ []) (λ _. each_begins (tick_cell ring_owner p now) p.cells (tick_begins p now)) (λ _. refl)

inactive_begins : (a : Bool) (key : ActorKey) → begun_calls (marks_of_inactive a key) ≡ []
inactive_begins true key = refl
inactive_begins false key = refl

stop_begins : (cs : List ActorCell) → begun_calls (marks_of_stop cs) ≡ []
stop_begins [] = refl
stop_begins (c ∷ cs) = begun-append (marks_of_ends c.key c.inner.turns ++ marks_of_inactive c.active c.key) (marks_of_stop cs) (begun-append (marks_of_ends c.key c.inner.turns) (marks_of_inactive c.active c.key) (ends_begin c.key c.inner.turns) (inactive_begins c.active c.key)) (stop_begins cs)

-- ---- the tally of a step

abbrev Tells : PartEvent → PartStep → Type 0
Tells e s = tally_of (closes e) (is_ended s.reply) (length (told_calls e s.marks)) ≡ record { began = began_in s.marks; ended = ended_in s.marks }

abbrev tally : ℕ → ℕ → Tally
tally a b = record { began = a; ended = b }

by_fits : (s : PartStep) → Fits s → tally (began_in s.marks) (cond (is_ended s.reply) 1 0) ≡ tally (began_in s.marks) (ended_in s.marks)
by_fits s f = ap (λ (n : ℕ). tally (began_in s.marks) n) (sym f)

by_none : (s : PartStep) → begun_calls s.marks ≡ [] → tally 0 (ended_in s.marks) ≡ tally (began_in s.marks) (ended_in s.marks)
by_none s e = ap (λ (z : List ℕ). tally (length z) (ended_in s.marks)) (sym e)

running_tells : (p : PartState) (e : PartEvent) → Tells e (running_step ring_owner p e)
running_tells p (events.Ask key chain now) = by_fits (running_step ring_owner p (events.Ask key chain now)) (ask_fits p key chain 0)
running_tells p (events.AskAt key chain least now) = by_fits (running_step ring_owner p (events.AskAt key chain least now)) (ask_fits p key chain least)
running_tells p events.Draw = by_fits (running_step ring_owner p events.Draw) (cond_both (is_spent p) _ _ Fits (λ _. refl) (λ _. refl))
running_tells p (events.Poll call) = by_fits (running_step ring_owner p (events.Poll call)) (poll_fits p call (cell_of_call p.cells call))
running_tells p (events.End call now) = by_fits (running_step ring_owner p (events.End call now)) (end_fits p call now (cell_of_call p.cells call))
running_tells p (events.Hold key) = by_fits (running_step ring_owner p (events.Hold key)) (hold_fits p (cell_at p.cells key))
running_tells p (events.Release key now) = by_fits (running_step ring_owner p (events.Release key now)) (release_fits p now (cell_at p.cells key))
running_tells p (events.Lock version) = by_fits (running_step ring_owner p (events.Lock version)) (cond_both (nat_lt p.seen version) _ _ Fits (λ _. refl) (λ _. refl))
running_tells p (events.Update table now) = by_fits (running_step ring_owner p (events.Update table now)) (cond_both (is_locked p.stage && (table.version == p.seen)) _ _ Fits (λ _. refl) (λ _. refl))
running_tells p (events.Unlock version) = by_fits (running_step ring_owner p (events.Unlock version)) (unlock_fits p version)
running_tells p (events.Tick now) = by_none (running_step ring_owner p (events.Tick now)) (no_begins p now)
running_tells p (events.TakeClosing now) = by_fits (running_step ring_owner p (events.TakeClosing now)) (closing_fits p (first_to_close ring_owner p now p.cells))
running_tells p (events.Closed key) = by_fits (running_step ring_owner p (events.Closed key)) (closed_fits p (cell_at p.cells key))
running_tells p events.StopPart = by_none (running_step ring_owner p events.StopPart) (stop_begins p.cells)

stopped_tells : (p : PartState) (e : PartEvent) → Tells e (stopped_step ring_owner p e)
stopped_tells p (events.Ask key chain now) = refl
stopped_tells p (events.AskAt key chain least now) = refl
stopped_tells p events.Draw = refl
stopped_tells p (events.Poll call) = refl
stopped_tells p (events.End call now) = refl
stopped_tells p (events.Hold key) = refl
stopped_tells p (events.Release key now) = refl
stopped_tells p (events.Lock version) = refl
stopped_tells p (events.Update table now) = refl
stopped_tells p (events.Unlock version) = refl
stopped_tells p (events.Tick now) = refl
stopped_tells p (events.TakeClosing now) = refl
stopped_tells p (events.Closed key) = refl
stopped_tells p events.StopPart = refl

-- the tally of the reply and the calls is that of the marks
pub step_tells : (p : PartState) (e : PartEvent) → Tells e (part_step ring_owner p e)
step_tells p e = go p.stage
  where
    go : (s : Stage) → Tells e (step_at ring_owner p s e)
    go Stopped = stopped_tells p e
    go Locked = running_tells p e
    go Updated = running_tells p e
    go Open = running_tells p e
