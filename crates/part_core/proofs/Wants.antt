-- Where memory may run out: the step's answer takes some.
use Rattle.std.proofs.Common.{◌≡◌, ℕ, ◌+◌, ◌<◌, ◌≤◌, ◌^◌, Bool, true, false, not, List, Option, None, Some, IsSome, refl, sym, ap, ◌∙◌, subst}
use Rattle.std.specs.Prelude.{nat_lt}
use Rattle.std.specs.declared.result.Result.{Result}
use Rattle.std.specs.declared.result.Result.TheVariants.{Ok, Err}
use Rattle.std.proofs.lemmas.Bool.{cond_both, cond-false, lt-leb, le-ltb}
use Rattle.actor_names.specs.declared.actor_key.ActorKey.{ActorKey}
use Rattle.actor_names.specs.Same.{same_member}
use Rattle.place_table.specs.declared.host.HostInfo.{HostInfo}
use Rattle.turn_core.specs.declared.answer.Asked.{Asked}
use Rattle.turn_core.specs.declared.answer.Asked.TheVariants as asked
use Rattle.turn_core.specs.declared.answer.CellError.{CellError}
use Rattle.turn_core.specs.declared.answer.CellError.TheVariants as deny
use Rattle.turn_core.specs.declared.answer.CellPoll.{CellPoll}
use Rattle.turn_core.specs.declared.answer.CellPoll.TheVariants as polling
use Rattle.turn_core.specs.Cell.{CellState, is_open_chain, cell_poll, admit_call}
use Rattle.part_model.specs.declared.actor_cell.ActorCell.{ActorCell}
use Rattle.part_model.specs.Cells.{cell_at, cell_of_call}
use Rattle.part_model.specs.declared.event.PartEvent.{PartEvent}
use Rattle.part_model.specs.declared.event.PartEvent.TheVariants as events
use Rattle.part_model.specs.Receipts.{PartReply}
use Rattle.part_model.specs.declared.event.Reply.TheVariants as replies
use Rattle.part_model.specs.Part.{PartState, PartStep, is_spent, most_drawn, is_open, is_stopped, is_full, found_or_first, call_chain, asked_step, ask_cell, ask_owned, ask_here, ask_part, owner_reply, polled_step, poll_cell, poll_part, first_to_close, close_cell, take_closing, stopped_step, running_step, part_step, ring_owner}
use Rattle.part_model.specs.Rooms.{ask_takes, hands_out, RunsOutFor, RunsOutRightly}
use Rattle.part_core.proofs.Runnings.{running}

-- ---- an Ask that the first tests let go on

asked_takes : (p : PartState) (c : ActorCell) (chain : Option (List ℕ)) (inner : CellState) (answer : Result Asked CellError) → ask_takes (asked_step p c chain inner answer).reply ≡ true
asked_takes p c chain inner (Ok asked.Begun) = refl
asked_takes p c chain inner (Ok (asked.Waits place)) = refl
asked_takes p c chain inner (Err (deny.Depth turns)) = refl
asked_takes p c chain inner (Err (deny.QueueFull n)) = refl
asked_takes p c chain inner (Err deny.OutOfMemory) = refl

cell_takes : (full : Bool) (p : PartState) (c : ActorCell) (chain : Option (List ℕ)) (may : Bool) → ask_takes (ask_cell full p c chain may).reply ≡ true
cell_takes full p c chain may =
    cond_both full _ _ (λ (x : PartStep). ask_takes x.reply ≡ true) (λ _. refl)
    (λ _. asked_takes p c chain (admit_call c.inner (p.drawn + 1) chain may).cell (admit_call c.inner (p.drawn + 1) chain may).answer)

owned_takes : (full : Bool) (p : PartState) (c : ActorCell) (chain : Option (List ℕ)) (found : Option HostInfo) → ask_takes (ask_owned full p c chain found).reply ≡ true
owned_takes full p c chain None = refl
owned_takes full p c chain (Some host) =
    cond_both (same_member host.member p.member) _ _ (λ (x : PartStep). ask_takes x.reply ≡ true) (λ _. cell_takes full p c chain (not c.closing)) (λ _. refl)

here_takes : (full : Bool) (p : PartState) (c : ActorCell) (chain : Option (List ℕ)) → ask_takes (ask_here ring_owner full p c chain).reply ≡ true
here_takes full p c chain =
    cond_both (is_open_chain c.inner chain) _ _ (λ (x : PartStep). ask_takes x.reply ≡ true) (λ _. cell_takes full p c chain false)
    (λ _. cond_both (is_open p.stage) _ _ (λ (x : PartStep). ask_takes x.reply ≡ true) (λ _. owned_takes full p c chain (ring_owner p.table c.key)) (λ _. cell_takes full p c chain false))

pub ask_goes_on : (p : PartState) (key : ActorKey) (chain : Option (List ℕ)) (least : ℕ) → p.drawn < 2 ^ 62 → least ≤ p.seen → ask_takes (ask_part ring_owner p key chain least).reply ≡ true
ask_goes_on p key chain least fresh known =
    let found = cell_at p.cells key in
    ap (λ (x : PartStep). ask_takes x.reply) (cond-false (is_spent p) _ _ (lt-leb most_drawn p.drawn fresh) ∙ cond-false (nat_lt p.seen least) _ _ (le-ltb p.seen least known))
    ∙ here_takes (is_full p found) p (found_or_first p key found) (call_chain p (found_or_first p key found).inner.depth chain)

-- ---- copies that are handed out

some_owner : (version : ℕ) (host : Option HostInfo) → IsSome host → hands_out (owner_reply version host) ≡ true
some_owner version None some = some
some_owner version (Some host) some = refl

module _ (p : PartState) (call : ℕ) (c : ActorCell) (found : cell_of_call p.cells call ≡ Some c) where
  pub moved_hands : (cell_poll c.inner call).answer ≡ polling.Moved → IsSome (ring_owner p.table c.key) → hands_out (poll_part ring_owner p call).reply ≡ true
  moved_hands is some =
      ap (λ (f : Option ActorCell). hands_out (poll_cell ring_owner p call f).reply) found
      ∙ ap (λ (a : CellPoll). hands_out (polled_step ring_owner p c call (cell_poll c.inner call).cell a).reply) is
      ∙ some_owner p.table.version (ring_owner p.table c.key) some

pub closing_hands : (p : PartState) (now : ℕ) (c : ActorCell) → first_to_close ring_owner p now p.cells ≡ Some c → hands_out (take_closing ring_owner p now).reply ≡ true
closing_hands p now c found = ap (λ (f : Option ActorCell). hands_out (close_cell ring_owner p f).reply) found

-- ---- any part

-- where memory may run out in a part that has not stopped
abbrev pub RunsOutRunning : PartEvent → PartReply → PartState → Type 0
RunsOutRunning (events.Ask key chain now) reply old = RunsOutFor ask_takes (running_step ring_owner old (events.Ask key chain now)) reply
RunsOutRunning (events.AskAt key chain least now) reply old = RunsOutFor ask_takes (running_step ring_owner old (events.AskAt key chain least now)) reply
RunsOutRunning (events.Poll call) reply old = RunsOutFor hands_out (running_step ring_owner old (events.Poll call)) reply
RunsOutRunning (events.TakeClosing now) reply old = RunsOutFor hands_out (running_step ring_owner old (events.TakeClosing now)) reply
RunsOutRunning event reply old = Unit {0}

module _ (reply : PartReply) (old : PartState) where
  at_step : (takes : PartReply → Bool) (event : PartEvent) → is_stopped old.stage ≡ false → RunsOutFor takes (running_step ring_owner old event) reply → RunsOutFor takes (part_step ring_owner old event) reply
  at_step takes event r h = subst (λ (z : PartStep). RunsOutFor takes z reply) (running old event r) h

  pub runs_out : (event : PartEvent) → is_stopped old.stage ≡ false → RunsOutRunning event reply old → RunsOutRightly event reply old
  runs_out (events.Ask key chain now) r h = at_step ask_takes (events.Ask key chain now) r h
  runs_out (events.AskAt key chain least now) r h = at_step ask_takes (events.AskAt key chain least now) r h
  runs_out (events.Poll call) r h = at_step hands_out (events.Poll call) r h
  runs_out (events.TakeClosing now) r h = at_step hands_out (events.TakeClosing now) r h
  runs_out events.Draw r h = tt
  runs_out (events.End call now) r h = tt
  runs_out (events.Hold key) r h = tt
  runs_out (events.Release key now) r h = tt
  runs_out (events.Lock version) r h = tt
  runs_out (events.Update table now) r h = tt
  runs_out (events.Unlock version) r h = tt
  runs_out (events.Tick now) r h = tt
  runs_out (events.Closed key) r h = tt
  runs_out events.StopPart r h = tt

  -- a part that has stopped never runs out
  pub stopped_out : (event : PartEvent) → reply ≡ (stopped_step ring_owner old event).reply → RunsOutRightly event reply old
  stopped_out (events.Ask key chain now) e = λ q. absurd (let w : replies.Stopped ≡ replies.OutOfMemory = sym e ∙ q in cc)
  stopped_out (events.AskAt key chain least now) e = λ q. absurd (let w : replies.Stopped ≡ replies.OutOfMemory = sym e ∙ q in cc)
  stopped_out (events.Poll call) e = λ q. absurd (let w : replies.Stopped ≡ replies.OutOfMemory = sym e ∙ q in cc)
  stopped_out (events.TakeClosing now) e = λ q. absurd (let w : replies.Stopped ≡ replies.OutOfMemory = sym e ∙ q in cc)
  stopped_out events.Draw e = tt
  stopped_out (events.End call now) e = tt
  stopped_out (events.Hold key) e = tt
  stopped_out (events.Release key now) e = tt
  stopped_out (events.Lock version) e = tt
  stopped_out (events.Update table now) e = tt
  stopped_out (events.Unlock version) e = tt
  stopped_out (events.Tick now) e = tt
  stopped_out (events.Closed key) e = tt
  stopped_out events.StopPart e = tt
