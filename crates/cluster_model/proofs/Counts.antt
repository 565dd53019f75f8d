-- How many turns a step of a part begins and ends, as given by the calls that the part lends after it.
use Rattle.std.proofs.Common.{◌≡◌, ◌⊎◌, ℕ, Bool, true, false, not, ◌&&◌, ◌+◌, List, [], ◌∷◌, ◌++◌, length, Option, None, Some, refl, sym, ap, ◌∙◌, inl, inr, arith}
use Rattle.std.specs.Prelude.{nat_lt, ◌==◌}
use Rattle.std.specs.declared.result.Result.{Result}
use Rattle.std.specs.declared.result.Result.TheVariants.{Ok, Err}
use Rattle.std.proofs.lemmas.Bool.{cond_both}
use Rattle.actor_names.specs.declared.actor_key.ActorKey.{ActorKey}
use Rattle.actor_names.specs.declared.member.Member.{Member}
use Rattle.place_table.specs.declared.host.HostInfo.{HostInfo}
use Rattle.place_table.specs.Hosts.{PlacementTable}
use Rattle.turn_core.specs.declared.cell.Turn.{Turn}
use Rattle.turn_core.specs.declared.cell.Waiter.{Waiter}
use Rattle.turn_core.specs.declared.answer.Asked.{Asked}
use Rattle.turn_core.specs.declared.answer.Asked.TheVariants as asked
use Rattle.turn_core.specs.declared.answer.CellError.{CellError}
use Rattle.turn_core.specs.declared.answer.CellError.TheVariants as deny
use Rattle.turn_core.specs.declared.answer.CellEnd.{CellEnd}
use Rattle.turn_core.specs.declared.answer.CellEnd.TheVariants as ending
use Rattle.turn_core.specs.declared.answer.CellPoll.{CellPoll}
use Rattle.turn_core.specs.declared.answer.CellPoll.TheVariants as polling
use Rattle.turn_core.specs.Cell.{CellState, admit_call, cell_end, cell_poll, is_free, next_call, without_call, is_open_chain}
use Rattle.part_model.specs.declared.actor_cell.ActorCell.{ActorCell}
use Rattle.part_model.specs.Cells.{cell_at, cell_of_call}
use Rattle.part_model.specs.declared.stage.Stage.{Stage}
use Rattle.part_model.specs.declared.stage.Stage.TheVariants.{Stopped}
use Rattle.part_model.specs.declared.event.PartEvent.{PartEvent}
use Rattle.part_model.specs.declared.event.PartEvent.TheVariants as events
use Rattle.part_model.specs.Receipts.{PartReply}
use Rattle.part_model.specs.declared.event.Reply.TheVariants as replies
use Rattle.actor_names.specs.Same.{same_member}
use Rattle.part_model.specs.Marks.{PartMark, TurnBegan, TurnEnded, PartOpened, begun_calls, ended_calls, marks_of_begin, marks_of_next, marks_of_ends, marks_of_inactive, marks_of_stop}
use Rattle.part_model.specs.Part
use Rattle.part_model.specs.Part.{PartState, PartStep, CellStep, asked_step, ask_cell, ask_owned, found_or_first, call_chain, is_full, is_spent, is_open, is_own, is_foreign, is_locked, is_updated, is_drained, each_cell, ring_owner, part_step}
use Rattle.part_model.specs.Rooms.{PartView, GivesInMemory}
use Rattle.cluster_model.specs.Counts.{begun_turns, over_turns, begun_by, ended_in, ended_by}
use Rattle.cluster_model.specs.World.{TraceMark, tagged}

-- ---- lists of marks

pub begun_turns-append : (xs ys : List TraceMark) → begun_turns (xs ++ ys) ≡ begun_turns xs + begun_turns ys
begun_turns-append [] ys = omega arith
begun_turns-append (x ∷ xs) ys = let more = begun_turns-append xs ys in omega arith

pub over_turns-append : (xs ys : List TraceMark) → over_turns (xs ++ ys) ≡ over_turns xs + over_turns ys
over_turns-append [] ys = omega arith
over_turns-append (x ∷ xs) ys = let more = over_turns-append xs ys in omega arith

pub begun_turns-tagged : (m : Member) (xs : List PartMark) → begun_turns (tagged m xs) ≡ length (begun_calls xs)
begun_turns-tagged m [] = refl
begun_turns-tagged m (PartOpened number version ∷ xs) = let more = begun_turns-tagged m xs in omega arith
begun_turns-tagged m (x ∷ xs) = let more = begun_turns-tagged m xs in omega arith

pub over_turns-tagged : (m : Member) (xs : List PartMark) → over_turns (tagged m xs) ≡ length (ended_calls xs)
over_turns-tagged m [] = refl
over_turns-tagged m (PartOpened number version ∷ xs) = let more = over_turns-tagged m xs in omega arith
over_turns-tagged m (x ∷ xs) = let more = over_turns-tagged m xs in omega arith

begun_calls-append : (xs ys : List PartMark) → begun_calls xs ≡ [] → begun_calls ys ≡ [] → begun_calls (xs ++ ys) ≡ []
begun_calls-append [] ys a b = b
begun_calls-append (TurnBegan key call chain ∷ xs) ys a b = absurd (cc)
begun_calls-append (PartOpened number version ∷ xs) ys a b = begun_calls-append xs ys a b
begun_calls-append (x ∷ xs) ys a b = begun_calls-append xs ys a b

ended_calls-append : (xs ys : List PartMark) → ended_calls xs ≡ [] → ended_calls ys ≡ [] → ended_calls (xs ++ ys) ≡ []
ended_calls-append [] ys a b = b
ended_calls-append (TurnEnded key call ∷ xs) ys a b = absurd (cc)
ended_calls-append (PartOpened number version ∷ xs) ys a b = ended_calls-append xs ys a b
ended_calls-append (x ∷ xs) ys a b = ended_calls-append xs ys a b

pub begin_ends_none : (a : Bool) (key : ActorKey) (v call : ℕ) (chain : Option (List ℕ)) → ended_calls (marks_of_begin a key v call chain) ≡ []
begin_ends_none true key v call chain = refl
begin_ends_none false key v call chain = refl

pub next_ends_none : (a : Bool) (key : ActorKey) (v : ℕ) (next : Option Waiter) → ended_calls (marks_of_next a key v next) ≡ []
next_ends_none a key v None = refl
next_ends_none a key v (Some w) = begin_ends_none a key v w.call w.chain

pub ends_begin_none : (key : ActorKey) (ts : List Turn) → begun_calls (marks_of_ends key ts) ≡ []
ends_begin_none key [] = refl
ends_begin_none key (t ∷ ts) = ends_begin_none key ts

pub inactive_begins_none : (a : Bool) (key : ActorKey) → begun_calls (marks_of_inactive a key) ≡ []
inactive_begins_none true key = refl
inactive_begins_none false key = refl

pub stop_begins_none : (cs : List ActorCell) → begun_calls (marks_of_stop cs) ≡ []
stop_begins_none [] = refl
stop_begins_none (c ∷ cs) =
    begun_calls-append (marks_of_ends c.key c.inner.turns ++ marks_of_inactive c.active c.key) (marks_of_stop cs)
    (begun_calls-append (marks_of_ends c.key c.inner.turns) (marks_of_inactive c.active c.key) (ends_begin_none c.key c.inner.turns) (inactive_begins_none c.active c.key))
    (stop_begins_none cs)

each_begins_none : (f : ActorCell → CellStep) (cs : List ActorCell) → ((c : ActorCell) → begun_calls (f c).marks ≡ []) → begun_calls (each_cell f cs).marks ≡ []
each_begins_none f [] h = refl
each_begins_none f (c ∷ cs) h = begun_calls-append (f c).marks (each_cell f cs).marks (h c) (each_begins_none f cs h)

each_ends_none : (f : ActorCell → CellStep) (cs : List ActorCell) → ((c : ActorCell) → ended_calls (f c).marks ≡ []) → ended_calls (each_cell f cs).marks ≡ []
each_ends_none f [] h = refl
each_ends_none f (c ∷ cs) h = ended_calls-append (f c).marks (each_cell f cs).marks (h c) (each_ends_none f cs h)

module _ (owner : PlacementTable → ActorKey → Option HostInfo) where
  -- ---- what each event may not do

  -- the number of turns that ended
  abbrev EndsSo : (PartReply → ℕ) → PartStep → Type 0
  EndsSo many s = length (ended_calls s.marks) ≡ many s.reply

  abbrev none : PartReply → ℕ
  none reply = 0

  abbrev EndsNone : PartStep → Type 0
  EndsNone s = EndsSo none s

  count_none : (calls : List ℕ) → calls ≡ [] → length calls ≡ 0
  count_none calls e = ap (λ (z : List ℕ). length z) e

  asked_ends : (p : PartState) (c : ActorCell) (chain : Option (List ℕ)) (inner : CellState) (answer : Result Asked CellError) → EndsNone (asked_step p c chain inner answer)
  asked_ends p c chain inner (Ok asked.Begun) = count_none _ (begin_ends_none c.active c.key p.opened (p.drawn + 1) chain)
  asked_ends p c chain inner (Err (deny.Depth turns)) = refl
  asked_ends p c chain inner answer = refl

  ask_cell_ends : (full : Bool) (p : PartState) (c : ActorCell) (chain : Option (List ℕ)) (may : Bool) → EndsNone (ask_cell full p c chain may)
  ask_cell_ends full p c chain may = cond_both full _ _ EndsNone (λ _. refl) (λ _. asked_ends p c chain _ (admit_call c.inner (p.drawn + 1) chain may).answer)

  ask_owned_ends : (full : Bool) (p : PartState) (c : ActorCell) (chain : Option (List ℕ)) (found : Option HostInfo) → EndsNone (ask_owned full p c chain found)
  ask_owned_ends full p c chain None = refl
  ask_owned_ends full p c chain (Some host) = cond_both (same_member host.member p.member) _ _ EndsNone (λ _. ask_cell_ends full p c chain (not c.closing)) (λ _. refl)

  ask_ends : (p : PartState) (key : ActorKey) (chain : Option (List ℕ)) (least : ℕ) → EndsNone (Part.ask_part owner p key chain least)
  ask_ends p key chain least =
      let c = found_or_first p key (cell_at p.cells key) in
      let x = call_chain p c.inner.depth chain in
      cond_both (is_spent p) _ _ EndsNone (λ _. refl)
      (λ _. cond_both (nat_lt p.seen least) _ _ EndsNone (λ _. refl)
      (λ _. cond_both (is_open_chain c.inner x) _ _ EndsNone (λ _. ask_cell_ends (is_full p (cell_at p.cells key)) p c x false)
      (λ _. cond_both (is_open p.stage) _ _ EndsNone (λ _. ask_owned_ends (is_full p (cell_at p.cells key)) p c x (owner p.table c.key))
      (λ _. ask_cell_ends (is_full p (cell_at p.cells key)) p c x false))))

  poll_ends : (p : PartState) (call : ℕ) (found : Option ActorCell) → EndsNone (Part.poll_cell owner p call found)
  poll_ends p call None = refl
  poll_ends p call (Some c) = go (cell_poll c.inner call).cell (cell_poll c.inner call).answer
    where
      go : (inner : CellState) (answer : CellPoll) → EndsNone (Part.polled_step owner p c call inner answer)
      go inner polling.Begun = refl
      go inner (polling.Waits place) = refl
      go inner polling.Moved = refl
      go inner polling.Gone = refl

  end_ends : (p : PartState) (call now : ℕ) (found : Option ActorCell) → EndsSo ended_in (Part.end_cell owner p call now found)
  end_ends p call now None = refl
  end_ends p call now (Some c) = go (cell_end c.inner call (Part.may_begin owner p c)).cell (cell_end c.inner call (Part.may_begin owner p c)).answer
    where
      go : (inner : CellState) (answer : CellEnd) → EndsSo ended_in (Part.ended_step owner p c call now inner answer)
      go inner (ending.Ended next) = let none = count_none _ (next_ends_none c.active c.key p.opened (next_call (Part.may_begin owner p c) (without_call c.inner call))) in omega arith
      go inner ending.AlreadyEnded = refl
      go inner ending.StillWaiting = refl

  hold_ends : (p : PartState) (found : Option ActorCell) → EndsNone (Part.hold_cell owner p found)
  hold_ends p None = refl
  hold_ends p (Some c) = cond_both (c.active && not c.closing) _ _ EndsNone (λ _. cond_both (is_spent p) _ _ EndsNone (λ _. refl) (λ _. refl)) (λ _. refl)

  release_ends : (p : PartState) (now : ℕ) (found : Option ActorCell) → EndsNone (Part.release_cell owner p now found)
  release_ends p now None = refl
  release_ends p now (Some c) = cond_both (c.inner.holds == 0) _ _ EndsNone (λ _. refl) (λ _. refl)

  unlock_ends : (p : PartState) (version : ℕ) → EndsNone (Part.unlock_part owner p version)
  unlock_ends p version =
      cond_both (is_updated p.stage && (version == p.seen)) _ _ EndsNone
      (λ _. cond_both (is_drained owner p) _ _ EndsNone
      (λ _. count_none _ (each_ends_none (Part.open_cell owner (Part.as_open owner p)) p.cells
      (λ c. cond_both (is_own owner (Part.as_open owner p) c.key) _ _ (λ (s : CellStep). ended_calls s.marks ≡ [])
      (λ _. next_ends_none c.active c.key p.seen (next_call (not c.closing) c.inner)) (λ _. refl))))
      (λ _. refl))
      (λ _. refl)

  take_ends : (p : PartState) (found : Option ActorCell) → EndsNone (Part.close_cell owner p found)
  take_ends p None = refl
  take_ends p (Some c) = refl

  closed_ends : (p : PartState) (found : Option ActorCell) → EndsNone (Part.closed_cell owner p found)
  closed_ends p None = refl
  closed_ends p (Some c) =
      cond_both c.closing _ _ EndsNone (λ _. count_none _ (next_ends_none false c.key p.opened (next_call (is_open p.stage && is_own owner p c.key) c.inner))) (λ _. refl)

  tick_begins : (p : PartState) (now : ℕ) → begun_calls (Part.tick_part owner p now).marks ≡ []
  tick_begins p now =
      cond_both (is_updated p.stage) _ _ (λ (s : PartStep). begun_calls s.marks ≡ [])
      (λ _. each_begins_none (Part.tick_cell owner p now) p.cells
      (λ c. cond_both (not (is_free c.inner) && (is_foreign owner p c.key && Part.is_overdue owner p now c)) _ _ (λ (s : CellStep). begun_calls s.marks ≡ []) (λ _. ends_begin_none c.key c.inner.turns) (λ _. refl)))
      (λ _. refl)

  -- ---- every step, by event, reply and the calls of its marks

  -- the calls that a part lends after the step
  abbrev pub lent : PartEvent → PartStep → List ℕ
  lent (events.Tick now) s = ended_calls s.marks
  lent events.StopPart s = ended_calls s.marks
  lent event s = begun_calls s.marks

  pub record AreCounted (e : PartEvent) (s : PartStep) : Type 0 where
    pub begun : length (begun_calls s.marks) ≡ begun_by e (lent e s)
    pub ended : length (ended_calls s.marks) ≡ ended_by e s.reply (lent e s)

  running_counted : (p : PartState) (e : PartEvent) → AreCounted e (Part.running_step owner p e)
  running_counted p (events.Ask key chain now) = record { begun = refl; ended = ask_ends p key chain 0 }
  running_counted p (events.AskAt key chain least now) = record { begun = refl; ended = ask_ends p key chain least }
  running_counted p events.Draw = record { begun = refl; ended = cond_both (is_spent p) _ _ EndsNone (λ _. refl) (λ _. refl) }
  running_counted p (events.Poll call) = record { begun = refl; ended = poll_ends p call (cell_of_call p.cells call) }
  running_counted p (events.End call now) = record { begun = refl; ended = end_ends p call now (cell_of_call p.cells call) }
  running_counted p (events.Hold key) = record { begun = refl; ended = hold_ends p (cell_at p.cells key) }
  running_counted p (events.Release key now) = record { begun = refl; ended = release_ends p now (cell_at p.cells key) }
  running_counted p (events.Lock version) = record { begun = refl; ended = cond_both (nat_lt p.seen version) _ _ EndsNone (λ _. refl) (λ _. refl) }
  running_counted p (events.Update table now) = record { begun = refl; ended = cond_both (is_locked p.stage && (table.version == p.seen)) _ _ EndsNone (λ _. refl) (λ _. refl) }
  running_counted p (events.Unlock version) = record { begun = refl; ended = unlock_ends p version }
  running_counted p (events.Tick now) = record { begun = count_none _ (tick_begins p now); ended = refl }
  running_counted p (events.TakeClosing now) = record { begun = refl; ended = take_ends p (Part.first_to_close owner p now p.cells) }
  running_counted p (events.Closed key) = record { begun = refl; ended = closed_ends p (cell_at p.cells key) }
  running_counted p events.StopPart = record { begun = count_none _ (stop_begins_none p.cells); ended = refl }

  stopped_counted : (p : PartState) (e : PartEvent) → AreCounted e (Part.stopped_step owner p e)
  stopped_counted p events.StopPart = record { begun = refl; ended = refl }
  stopped_counted p (events.Tick now) = record { begun = refl; ended = refl }
  stopped_counted p e = record { begun = refl; ended = refl }

  counted_at : (p : PartState) (stage : Stage) (e : PartEvent) → AreCounted e (Part.step_at owner p stage e)
  counted_at p Stopped e = stopped_counted p e
  counted_at p stage e = running_counted p e

  pub step_counted : (p : PartState) (e : PartEvent) → AreCounted e (part_step owner p e)
  step_counted p e = counted_at p p.stage e

-- ---- what `Part::step` and `Part::calls` tell

-- the step's reply and part, and how many turns it began and ended
pub record TellsCounts (e : PartEvent) (reply : PartReply) (new : PartView) (s : PartStep) : Type 0 where
  pub answer : reply ≡ s.reply
  pub part : new.state ≡ s.part
  pub begun : length (begun_calls s.marks) ≡ begun_by e new.recent
  pub ended : length (ended_calls s.marks) ≡ ended_by e reply new.recent

counts_from : (e : PartEvent) (reply : PartReply) (old : PartState) (new : PartView) → reply ≡ (part_step ring_owner old e).reply
    → new ≡ record { state = (part_step ring_owner old e).part; recent = lent ring_owner e (part_step ring_owner old e) } → TellsCounts e reply new (part_step ring_owner old e)
counts_from e reply old new r n =
    let s = part_step ring_owner old e in
    let c = step_counted ring_owner old e in
    let recent : new.recent ≡ lent ring_owner e s = ap (λ (v : PartView). v.recent) n in
    record {
      answer = r;
      part = ap (λ (v : PartView). v.state) n;
      begun = c.begun ∙ sym (ap (λ (z : List ℕ). begun_by e z) recent);
      ended = c.ended ∙ sym (ap (λ (z : List ℕ). ended_by e reply z) recent ∙ ap (λ (z : PartReply). ended_by e z (lent ring_owner e s)) r);
    }

-- the part ran out of memory and is as before, or the counts of the step are those that the part reports
abbrev pub Counts : PartEvent → PartReply → PartState → PartView → Type 0
Counts e reply old new = ((reply ≡ replies.OutOfMemory) × (new ≡ record { state = old; recent = [] })) ⊎ TellsCounts e reply new (part_step ring_owner old e)

in_memory : (e : PartEvent) (reply : PartReply) (old : PartState) (new : PartView) → lent ring_owner e (part_step ring_owner old e) ≡ begun_calls (part_step ring_owner old e).marks
    → GivesInMemory (part_step ring_owner old e) reply old new → Counts e reply old new
in_memory e replies.OutOfMemory old new same g = inl (refl, g.0)
in_memory e reply old new same g = inr (counts_from e reply old new g.0 (g.1 ∙ ap (λ (z : List ℕ). let v : PartView = record { state = (part_step ring_owner old e).part; recent = z } in v) (sym same)))
