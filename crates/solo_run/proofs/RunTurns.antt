-- The marks of a run are the turns in its log, at the actors and under the chains of the events that made the calls.
use Rattle.std.proofs.Common.{◌≡◌, ℕ, Bool, true, false, List, [], ◌∷◌, ◌++◌, Option, None, Some, Result, Ok, Err, refl, sym, ap, subst, ◌∙◌, append_assoc}
use Rattle.std.specs.Prelude.{◌==◌, option_map}
use Rattle.std.proofs.lemmas.Bool.{cond_both}
use Rattle.actor_names.specs.Names.{before_slash}
use Rattle.turn_core.specs.declared.answer.Asked.{Asked}
use Rattle.turn_core.specs.declared.answer.Asked.TheVariants as asked
use Rattle.turn_core.specs.declared.answer.CellError.{CellError}
use Rattle.turn_core.specs.declared.answer.CellError.TheVariants as refusing
use Rattle.turn_core.specs.declared.cell.Waiter.{Waiter}
use Rattle.turn_core.specs.Cell.{CellState, new_cell, kept_chain, has_turn, waiter_of, without_call, next_call, call_of, not_open}
use Rattle.turn_core.specs.CellMarks.{Began, Ended, asked_marks, next_marks}
use Rattle.world_events.specs.Solo.{SoloEvent, Call, End, Poll, Hold, Release}
use Rattle.world_events.specs.declared.outcome.TurnOutcome.TheVariants as out
use Rattle.world_events.specs.declared.error.WorldError.{WorldError}
use Rattle.solo_run.specs.World.{SoloState, WorldStep, ActorMark, TypeDepth, cell_at, cell_for, key_of_call, chain_for, depth_of, marks_at, ask_at, ask_outcome, end_outcome, call_step, end_at, poll_at, hold_step, release_step, solo_step, refusal_of}
use Rattle.solo_run.specs.Runs.{Said, said_of, after_event, marks_by, log_from, marks_from, state_with, solo_log, solo_marks}
use Rattle.solo_run.specs.TurnsTold.{CallTurn, Begins, Ends, told_turns, turns_of_log, asked_call, turn_call, turn_at, turns_told, actor_turns}
use Rattle.solo_run.proofs.LogLemmas.{asked-found}
use Rattle.solo_run.proofs.Actors.{each_at, each_for}
use Rattle.solo_run.proofs.CellFollows.{CellFollows, WaiterFollows, new_follows, longer_follows, kept-chain_for, next_in}
use Rattle.solo_run.proofs.RunFollows.{Follows, AsksOf, at_call_cases, asked_now, next_number, step_after, opening_follows}

turns_told-append : (depths : List TypeDepth) (log : List Said) (ts us : List CallTurn) → turns_told depths log (ts ++ us) ≡ turns_told depths log ts ++ turns_told depths log us
turns_told-append depths log [] us = refl
turns_told-append depths log (t ∷ ts) us =
    let first = turn_at depths t (asked_call (turn_call t) log) in
    ap (λ (ms : List ActorMark). first ++ ms) (turns_told-append depths log ts us) ∙ sym (append_assoc first (turns_told depths log ts) (turns_told depths log us))

-- ---- one event

module _ (depths : List TypeDepth) (log : List Said) (w : SoloState) (f : Follows depths log w) where
  -- a call that begins at once
  call_told : (n : ℕ) (key : List ℕ) (chain kept : Option (List ℕ)) (answer : Result Asked CellError) (whole : List Said) → asked_call n whole ≡ Some (record { key = key; chain = chain })
      → kept ≡ chain_for (depth_of (before_slash key) depths) n chain
      → marks_at key (asked_marks n kept answer) ≡ turns_told depths whole (told_turns (Call n key chain) (ask_outcome n answer))
  call_told n key chain kept (Ok asked.Begun) whole found is = rw (found, is)
  call_told n key chain kept (Ok (asked.Waits place)) whole found is = refl
  call_told n key chain kept (Err (refusing.Depth turns)) whole found is = refl
  call_told n key chain kept (Err (refusing.QueueFull k)) whole found is = refl
  call_told n key chain kept (Err refusing.OutOfMemory) whole found is = refl

  -- the depth of the cell that a call finds
  depth_found : (key : List ℕ) → (cell_for w.depths key w.actors).depth ≡ depth_of (before_slash key) depths
  depth_found key = (each_for (CellFollows depths log) w.depths key w.actors f.cells new).depth
    where
      new : CellFollows depths log key (new_cell (depth_of (before_slash key) w.depths))
      new = subst (λ (ds : List TypeDepth). CellFollows depths log key (new_cell (depth_of (before_slash key) ds))) (sym f.same_depths) (new_follows depths log key)

  begun_told : (key : List ℕ) (call n : ℕ) (chain brought kept : Option (List ℕ)) (whole : List Said) → asked_call call whole ≡ Some (record { key = key; chain = chain })
      → asked_call n whole ≡ Some (record { key = key; chain = brought }) → kept ≡ chain_for (depth_of (before_slash key) depths) n brought
      → record { key = key; mark = Ended call } ∷ record { key = key; mark = Began n kept } ∷ [] ≡ turns_told depths whole (Ends call ∷ Begins n ∷ [])
  begun_told key call n chain brought kept whole found next is = rw (found, next, is)

  -- an open turn ends, and a waiting call may begin
  next_told : (key : List ℕ) (cell : CellState) (call : ℕ) (chain : Option (List ℕ)) (whole : List Said) (next : Option Waiter) → asked_call call whole ≡ Some (record { key = key; chain = chain })
      → ((v : Waiter) → next ≡ Some v → WaiterFollows depths whole key v)
      → marks_at key (Ended call ∷ next_marks next) ≡ turns_told depths whole (told_turns (End call) (out.Ended call (option_map call_of next)))
  next_told key cell call chain whole None found each = rw found
  next_told key cell call chain whole (Some v) found each = (let q = each v refl in begun_told key call v.call chain q.brought v.chain whole found q.asked q.chain)

  not_open_told : (call : ℕ) (whole : List Said) (v : Option Waiter) → [] ≡ turns_told depths whole (told_turns (End call) (end_outcome call (not_open v)))
  not_open_told call whole None = refl
  not_open_told call whole (Some v) = refl

  -- the marks of the event's step are the event's turns in any log that has the event
  abbrev IsTold : SoloEvent → List Said → WorldStep → Type 0
  IsTold event more step =
      step.marks ≡ turns_told depths (log ++ record { event = event; outcome = step.outcome } ∷ more) (told_turns event step.outcome)

  end_told : (call : ℕ) (more : List Said) (key : List ℕ) (cell : CellState) → key_of_call call w.calls ≡ Some key → cell_at key w.actors ≡ Some cell → IsTold (End call) more (end_at w call key cell)
  end_told call more key cell k e = by (has_turn call cell.turns) refl
    where
      asked : AsksOf log call key
      asked = f.asked call key k

      follows : CellFollows depths log key cell
      follows = each_at (CellFollows depths log) key cell w.actors f.cells e

      next : (said : Said) (v : Waiter) → next_call true (without_call cell call) ≡ Some v → WaiterFollows depths (log ++ said ∷ more) key v
      next said v is = (longer_follows depths log key (said ∷ more) cell follows).queue v (next_in (without_call cell call) v is)

      by : (b : Bool) → has_turn call cell.turns ≡ b → IsTold (End call) more (end_at w call key cell)
      by true t =
          let said : Said = record { event = End call; outcome = out.Ended call (option_map call_of (next_call true (without_call cell call))) } in
          rw t
          (next_told key cell call asked.chain (log ++ said ∷ more) (next_call true (without_call cell call))
          (asked-found call (record { key = key; chain = asked.chain }) log (said ∷ more) asked.asked) (next said))
      by false t = rw t (not_open_told call (log ++ record { event = End call; outcome = end_outcome call (not_open (waiter_of call cell.queue)) } ∷ more) (waiter_of call cell.queue))

  hold_told : (key : List ℕ) (more : List Said) (found : Option CellState) → IsTold (Hold key) more (hold_step w key found)
  hold_told key more None = refl
  hold_told key more (Some cell) = refl

  release_told : (key : List ℕ) (more : List Said) (found : Option CellState) → IsTold (Release key) more (release_step w key found)
  release_told key more None = refl
  release_told key more (Some cell) = cond_both (cell.holds == 0) _ _ (IsTold (Release key) more) (λ _. refl) (λ _. refl)

  step_told : (event : SoloEvent) (more : List Said) → refusal_of w event ≡ None → IsTold event more (solo_step w event)
  step_told (Call n key chain) more allowed =
      let cell = cell_for w.depths key w.actors in
      let step = call_step w n key chain in
      call_told n key chain (kept_chain cell (chain_for cell.depth n chain)) (ask_at cell n chain).answer (log ++ record { event = Call n key chain; outcome = step.outcome } ∷ more)
      (asked_now depths log w f n key chain (next_number w n key chain allowed) step.outcome more)
      (kept-chain_for cell n chain ∙ ap (λ (d : ℕ). chain_for d n chain) (depth_found key))
  step_told (End call) more allowed = at_call_cases w (end_at w call) call (IsTold (End call) more) refl (λ key cell k e. end_told call more key cell k e)
  step_told (Poll call) more allowed = at_call_cases w (poll_at w call) call (IsTold (Poll call) more) refl (λ key cell k e. refl)
  step_told (Hold key) more allowed = hold_told key more (cell_at key w.actors)
  step_told (Release key) more allowed = release_told key more (cell_at key w.actors)

-- ---- a list of events

-- the marks of these events are those of the whole log after its earlier part
abbrev RunTold : List TypeDepth → List Said → SoloState → List SoloEvent → Type 0
RunTold depths log w events = marks_from w events ≡ turns_told depths (log ++ log_from w events) (turns_of_log (log_from w events))

one_told : (depths : List TypeDepth) (log : List Said) (w : SoloState) (event : SoloEvent) (events : List SoloEvent) (refusal : Option WorldError) → refusal_of w event ≡ refusal → Follows depths log w
    → ((l : List Said) (v : SoloState) → Follows depths l v → RunTold depths l v events)
    → marks_by w event refusal ++ marks_from (after_event w event refusal) events
    ≡ turns_told depths (log ++ (said_of w event refusal ++ log_from (after_event w event refusal) events)) (turns_of_log (said_of w event refusal ++ log_from (after_event w event refusal) events))
one_told depths log w event events None allowed f rest =
    let step = solo_step w event in
    let said : Said = record { event = event; outcome = step.outcome } in
    let later = log_from step.world events in
    let whole = log ++ (said ∷ later) in
    let same : (log ++ said ∷ []) ++ later ≡ whole = append_assoc log (said ∷ []) later in
    let behind : marks_from step.world events ≡ turns_told depths whole (turns_of_log later) =
    subst (λ (l : List Said). marks_from step.world events ≡ turns_told depths l (turns_of_log later)) same (rest (log ++ said ∷ []) step.world (step_after depths log w f event allowed)) in
    ap (λ (ms : List ActorMark). ms ++ marks_from step.world events) (step_told depths log w f event later allowed) ∙
    (ap (λ (ms : List ActorMark). turns_told depths whole (told_turns event step.outcome) ++ ms) behind ∙ sym (turns_told-append depths whole (told_turns event step.outcome) (turns_of_log later)))
one_told depths log w event events (Some error) refused f rest = rest log w f

pub run_turns : (depths : List TypeDepth) (log : List Said) (w : SoloState) (events : List SoloEvent) → Follows depths log w → RunTold depths log w events
run_turns depths log w [] f = refl
run_turns depths log w (event ∷ events) f = one_told depths log w event events (refusal_of w event) refl f (λ l v g. run_turns depths l v events g)

-- the marks of a run are the turns in its log
pub solo_turns : (depths : List TypeDepth) (events : List SoloEvent) → solo_marks depths events ≡ actor_turns depths (solo_log depths events)
solo_turns depths events = run_turns depths [] (state_with depths) events (opening_follows depths)
