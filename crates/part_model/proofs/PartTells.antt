-- What replies say: receipts are those of the new state, and a refused event leaves the part as it was.
use Rattle.std.proofs.Common.{◌≡◌, ℕ, Bool, true, false, not, ◌&&◌, List, [], Option, None, Some, refl}
use Rattle.std.specs.Prelude.{nat_lt, ◌==◌}
use Rattle.std.specs.declared.result.Result.{Result}
use Rattle.std.specs.declared.result.Result.TheVariants.{Ok, Err}
use Rattle.std.proofs.lemmas.Bool.{cond_both, false≢true}
use Rattle.actor_names.specs.declared.actor_key.ActorKey.{ActorKey}
use Rattle.place_table.specs.declared.host.HostInfo.{HostInfo}
use Rattle.place_table.specs.Hosts.{PlacementTable}
use Rattle.turn_core.specs.declared.answer.Asked.{Asked}
use Rattle.turn_core.specs.declared.answer.Asked.TheVariants as asked
use Rattle.turn_core.specs.declared.answer.CellError.{CellError}
use Rattle.turn_core.specs.declared.answer.CellError.TheVariants as deny
use Rattle.turn_core.specs.declared.answer.CellEnd.{CellEnd}
use Rattle.turn_core.specs.declared.answer.CellEnd.TheVariants as ending
use Rattle.turn_core.specs.declared.answer.CellPoll.{CellPoll}
use Rattle.turn_core.specs.declared.answer.CellPoll.TheVariants as polling
use Rattle.turn_core.specs.Cell.{CellState, is_open_chain}
use Rattle.part_model.specs.declared.stage.Stage.{Stage}
use Rattle.part_model.specs.declared.stage.Stage.TheVariants.{Locked, Updated, Open, Stopped}
use Rattle.part_model.specs.declared.event.PartEvent.{PartEvent}
use Rattle.part_model.specs.declared.event.PartEvent.TheVariants as events
use Rattle.part_model.specs.Receipts.{PartReply}
use Rattle.part_model.specs.declared.actor_cell.ActorCell.{ActorCell}
use Rattle.actor_names.specs.Same.{same_member}
use Rattle.part_model.specs.Cells.{cell_at, cell_of_call}
use Rattle.part_model.specs.Part
use Rattle.part_model.specs.Part.{PartState, PartStep, refused, asked_step, ask_cell, ask_owned, owner_reply, found_or_first, is_spent, is_open, is_updated, is_locked, is_drained, may_begin}
use Rattle.part_model.specs.Sound.{TellsState}
use Rattle.part_model.specs.PartRuns.{is_refusal, refuses_ask, refuses, LeavesAsWas}

module _ (owner : PlacementTable → ActorKey → Option HostInfo) where
  -- the reply's receipt is that of the new state, and if the reply refuses, nothing changed
  pub record IsHonest (r : PartReply → Bool) (p : PartState) (s : PartStep) : Type 0 where
    pub tells : TellsState owner s.reply s.part
    pub as_was : r s.reply ≡ true → LeavesAsWas p s

  nothing : (r : PartReply → Bool) (p : PartState) (reply : PartReply) → TellsState owner reply p → IsHonest r p (refused p reply)
  nothing r p reply t = record { tells = t; as_was = λ _. record { same = refl; quiet = refl } }

  -- ---- asks

  asked_honest : (p : PartState) (c : ActorCell) (chain : Option (List ℕ)) (inner : CellState) (a : Result Asked CellError) → IsHonest refuses_ask p (asked_step p c chain inner a)
  asked_honest p c chain inner (Ok asked.Begun) = record { tells = tt; as_was = λ e. absurd (false≢true e) }
  asked_honest p c chain inner (Ok (asked.Waits place)) = record { tells = tt; as_was = λ e. absurd (false≢true e) }
  asked_honest p c chain inner (Err (deny.Depth turns)) = nothing refuses_ask p _ tt
  asked_honest p c chain inner (Err (deny.QueueFull n)) = nothing refuses_ask p _ tt
  asked_honest p c chain inner (Err deny.OutOfMemory) = nothing refuses_ask p _ tt

  ask_cell_honest : (full : Bool) (p : PartState) (c : ActorCell) (chain : Option (List ℕ)) (may : Bool) → IsHonest refuses_ask p (ask_cell full p c chain may)
  ask_cell_honest full p c chain may = cond_both full _ _ (λ (s : PartStep). IsHonest refuses_ask p s) (λ _. nothing refuses_ask p _ tt) (λ _. asked_honest p c chain _ _)

  ask_owned_honest : (full : Bool) (p : PartState) (c : ActorCell) (chain : Option (List ℕ)) (found : Option HostInfo) → IsHonest refuses_ask p (ask_owned full p c chain found)
  ask_owned_honest full p c chain None = nothing refuses_ask p _ tt
  ask_owned_honest full p c chain (Some host) =
      cond_both (same_member host.member p.member) _ _ (λ (s : PartStep). IsHonest refuses_ask p s) (λ _. ask_cell_honest full p c chain (not c.closing)) (λ _. nothing refuses_ask p _ tt)

  ask_here_honest : (full : Bool) (p : PartState) (c : ActorCell) (chain : Option (List ℕ)) → IsHonest refuses_ask p (Part.ask_here owner full p c chain)
  ask_here_honest full p c chain =
      cond_both (is_open_chain c.inner chain) _ _ (λ (s : PartStep). IsHonest refuses_ask p s)
      (λ _. ask_cell_honest full p c chain false)
      (λ _. cond_both (is_open p.stage) _ _ (λ (s : PartStep). IsHonest refuses_ask p s) (λ _. ask_owned_honest full p c chain (owner p.table c.key)) (λ _. ask_cell_honest full p c chain false))

  ask_honest : (p : PartState) (key : ActorKey) (chain : Option (List ℕ)) (least : ℕ) → IsHonest refuses_ask p (Part.ask_part owner p key chain least)
  ask_honest p key chain least =
      cond_both (is_spent p) _ _ (λ (s : PartStep). IsHonest refuses_ask p s) (λ _. nothing refuses_ask p _ tt)
      (λ _. cond_both (nat_lt p.seen least) _ _ (λ (s : PartStep). IsHonest refuses_ask p s) (λ _. nothing refuses_ask p _ tt)
      (λ _. ask_here_honest _ p (found_or_first p key (cell_at p.cells key)) _))

  -- ---- polls and ends

  polled_honest : (p : PartState) (c : ActorCell) (call : ℕ) (inner : CellState) (a : CellPoll) → IsHonest is_refusal p (Part.polled_step owner p c call inner a)
  polled_honest p c call inner polling.Begun = nothing is_refusal p _ tt
  polled_honest p c call inner (polling.Waits place) = nothing is_refusal p _ tt
  polled_honest p c call inner polling.Moved = go (owner p.table c.key)
    where
      go : (o : Option HostInfo) → IsHonest is_refusal p (record { part = Part.with_cell p (record c { inner = inner }); reply = owner_reply p.table.version o; marks = [] })
      go None = record { tells = tt; as_was = λ e. absurd (false≢true e) }
      go (Some host) = record { tells = tt; as_was = λ e. absurd (false≢true e) }
  polled_honest p c call inner polling.Gone = nothing is_refusal p _ tt

  poll_honest : (p : PartState) (call : ℕ) (found : Option ActorCell) → IsHonest is_refusal p (Part.poll_cell owner p call found)
  poll_honest p call None = nothing is_refusal p _ tt
  poll_honest p call (Some c) = polled_honest p c call _ _

  ended_honest : (p : PartState) (c : ActorCell) (call now : ℕ) (inner : CellState) (a : CellEnd) → IsHonest is_refusal p (Part.ended_step owner p c call now inner a)
  ended_honest p c call now inner (ending.Ended next) = record { tells = tt; as_was = λ e. absurd (false≢true e) }
  ended_honest p c call now inner ending.AlreadyEnded = nothing is_refusal p _ tt
  ended_honest p c call now inner ending.StillWaiting = nothing is_refusal p _ tt

  end_honest : (p : PartState) (call now : ℕ) (found : Option ActorCell) → IsHonest is_refusal p (Part.end_cell owner p call now found)
  end_honest p call now None = nothing is_refusal p _ tt
  end_honest p call now (Some c) = ended_honest p c call now _ _

  draw_honest : (p : PartState) → IsHonest is_refusal p (Part.draw_part owner p)
  draw_honest p = cond_both (is_spent p) _ _ (λ (s : PartStep). IsHonest is_refusal p s) (λ _. nothing is_refusal p _ tt) (λ _. record { tells = tt; as_was = λ e. absurd (false≢true e) })

  -- ---- holds and deactivation

  hold_honest : (p : PartState) (found : Option ActorCell) → IsHonest is_refusal p (Part.hold_cell owner p found)
  hold_honest p None = nothing is_refusal p _ tt
  hold_honest p (Some c) =
      cond_both (c.active && not c.closing) _ _ (λ (s : PartStep). IsHonest is_refusal p s)
      (λ _. cond_both (is_spent p) _ _ (λ (s : PartStep). IsHonest is_refusal p s) (λ _. nothing is_refusal p _ tt) (λ _. record { tells = tt; as_was = λ e. absurd (false≢true e) }))
      (λ _. nothing is_refusal p _ tt)

  release_honest : (p : PartState) (now : ℕ) (found : Option ActorCell) → IsHonest is_refusal p (Part.release_cell owner p now found)
  release_honest p now None = nothing is_refusal p _ tt
  release_honest p now (Some c) =
      cond_both (c.inner.holds == 0) _ _ (λ (s : PartStep). IsHonest is_refusal p s) (λ _. nothing is_refusal p _ tt) (λ _. record { tells = tt; as_was = λ e. absurd (false≢true e) })

  take_honest : (p : PartState) (found : Option ActorCell) → IsHonest is_refusal p (Part.close_cell owner p found)
  take_honest p None = nothing is_refusal p _ tt
  take_honest p (Some c) = record { tells = tt; as_was = λ e. absurd (false≢true e) }

  closed_honest : (p : PartState) (found : Option ActorCell) → IsHonest is_refusal p (Part.closed_cell owner p found)
  closed_honest p None = nothing is_refusal p _ tt
  closed_honest p (Some c) =
      cond_both c.closing _ _ (λ (s : PartStep). IsHonest is_refusal p s) (λ _. record { tells = tt; as_was = λ e. absurd (false≢true e) }) (λ _. nothing is_refusal p _ tt)

  -- ---- tables, time and the end

  lock_honest : (p : PartState) (version : ℕ) → IsHonest is_refusal p (Part.lock_part owner p version)
  lock_honest p version =
      cond_both (nat_lt p.seen version) _ _ (λ (s : PartStep). IsHonest is_refusal p s) (λ _. record { tells = refl; as_was = λ e. absurd (false≢true e) }) (λ _. nothing is_refusal p _ refl)

  update_honest : (p : PartState) (table : PlacementTable) (now : ℕ) → IsHonest is_refusal p (Part.update_part owner p table now)
  update_honest p table now =
      cond_both (is_locked p.stage && (table.version == p.seen)) _ _ (λ (s : PartStep). IsHonest is_refusal p s)
      (λ _. record { tells = refl; as_was = λ e. absurd (false≢true e) })
      (λ _. nothing is_refusal p _ refl)

  unlock_honest : (p : PartState) (version : ℕ) → IsHonest is_refusal p (Part.unlock_part owner p version)
  unlock_honest p version =
      cond_both (is_updated p.stage && (version == p.seen)) _ _ (λ (s : PartStep). IsHonest is_refusal p s)
      (λ _. cond_both (is_drained owner p) _ _ (λ (s : PartStep). IsHonest is_refusal p s) (λ _. record { tells = refl; as_was = λ e. absurd (false≢true e) }) (λ _. nothing is_refusal p _ refl))
      (λ _. nothing is_refusal p _ refl)

  tick_honest : (p : PartState) (now : ℕ) → IsHonest is_refusal p (Part.tick_part owner p now)
  tick_honest p now =
      cond_both (is_updated p.stage) _ _ (λ (s : PartStep). IsHonest is_refusal p s) (λ _. record { tells = refl; as_was = λ e. absurd (false≢true e) }) (λ _. nothing is_refusal p _ refl)

  -- ---- every event

  running_honest : (p : PartState) (e : PartEvent) → IsHonest (refuses e) p (Part.running_step owner p e)
  running_honest p (events.Ask key chain now) = ask_honest p key chain 0
  running_honest p (events.AskAt key chain least now) = ask_honest p key chain least
  running_honest p events.Draw = draw_honest p
  running_honest p (events.Poll call) = poll_honest p call (cell_of_call p.cells call)
  running_honest p (events.End call now) = end_honest p call now (cell_of_call p.cells call)
  running_honest p (events.Hold key) = hold_honest p (cell_at p.cells key)
  running_honest p (events.Release key now) = release_honest p now (cell_at p.cells key)
  running_honest p (events.Lock version) = lock_honest p version
  running_honest p (events.Update table now) = update_honest p table now
  running_honest p (events.Unlock version) = unlock_honest p version
  running_honest p (events.Tick now) = tick_honest p now
  running_honest p (events.TakeClosing now) = take_honest p (Part.first_to_close owner p now p.cells)
  running_honest p (events.Closed key) = closed_honest p (cell_at p.cells key)
  running_honest p events.StopPart = record { tells = refl; as_was = λ e. absurd (false≢true e) }

  stopped_honest : (p : PartState) (e : PartEvent) → IsHonest (refuses e) p (Part.stopped_step owner p e)
  stopped_honest p events.StopPart = nothing (refuses events.StopPart) p _ refl
  stopped_honest p e = nothing (refuses e) p _ tt

  honest_at : (p : PartState) (stage : Stage) (e : PartEvent) → IsHonest (refuses e) p (Part.step_at owner p stage e)
  honest_at p Stopped e = stopped_honest p e
  honest_at p Locked e = running_honest p e
  honest_at p Updated e = running_honest p e
  honest_at p Open e = running_honest p e

  -- every step answers honestly
  pub part_honest : (p : PartState) (e : PartEvent) → IsHonest (refuses e) p (Part.part_step owner p e)
  part_honest p e = honest_at p p.stage e
