-- Each event of a run preserves this for every actor: its marks so far are those of turns that entered beside turns of
-- their own chain, below the depth of its type.
use Rattle.std.proofs.Common.{◌≡◌, ℕ, ◌+◌, ◌-◌, ◌<◌, true, List, [], ◌∷◌, ◌++◌, Option, None, Some, IsSome, refl, subst, sym, arith, append_assoc}
use Rattle.std.specs.Prelude.{◌==◌, unwrap_or}
use Rattle.std.proofs.lemmas.Bool.{cond_both, eqb-true}
use Rattle.turn_core.specs.Cell.{CellState, cell_end, cell_poll, with_hold, without_hold}
use Rattle.turn_core.specs.CellMarks.{TurnMark, end_marks, open_after}
use Rattle.turn_core.proofs.CellKeeps.{ask_keeps, end_keeps, poll_keeps, holds_keep}
use Rattle.world_events.specs.Solo.{SoloEvent, Call, End, Poll, Hold, Release}
use Rattle.world_events.specs.declared.outcome.TurnOutcome.{TurnOutcome}
use Rattle.world_events.specs.declared.outcome.TurnOutcome.TheVariants as out
use Rattle.world_events.specs.declared.error.WorldError.{WorldError}
use Rattle.solo_run.specs.World.{SoloState, WorldStep, ActorMark, TypeDepth, cell_at, cell_for, key_of_call, made_chain, chain_for, ask_at, ask_marks_at, call_step, unchanged, end_at, poll_at, at_cell, at_key, at_call, hold_step, release_step, solo_step, refusal_of}
use Rattle.solo_run.specs.Runs.{after_event, marks_by, run_from, marks_from, state_with, solo_run, solo_marks}
use Rattle.solo_run.specs.TurnsTold.{turns_in}
use Rattle.solo_run.proofs.ActorMarks.{CellTold, ActorsTold, told_for, told_at, told-put, told-same}

abbrev pub StateTold : SoloState → List ActorMark → Type 0
StateTold w marks = ActorsTold w.depths w.actors marks

-- ---- each event keeps it

abbrev pub EventTold : List ActorMark → WorldStep → Type 0
EventTold marks step = StateTold step.world (marks ++ step.marks)

unchanged_told : (w : SoloState) (marks : List ActorMark) (outcome : TurnOutcome) → StateTold w marks → EventTold marks (unchanged w outcome)
unchanged_told w marks outcome told = told-same w.depths w.actors marks told

-- with reentrancy on each call has a chain
chain_given : (depth number : ℕ) (chain : Option (List ℕ)) → 0 < depth → IsSome (chain_for depth number chain)
chain_given depth number chain on =
    cond_both (depth == 0) None (Some (unwrap_or chain (made_chain number))) (λ (c : Option (List ℕ)). IsSome c) (λ off. let none = eqb-true depth 0 off in absurd (omega arith)) (λ _. refl)

call_told : (w : SoloState) (marks : List ActorMark) (number : ℕ) (key : List ℕ) (chain : Option (List ℕ)) → StateTold w marks → EventTold marks (call_step w number key chain)
call_told w marks number key chain told =
    let cell = cell_for w.depths key w.actors in
    let kept = told_for w.depths w.actors marks key told in
    told-put w.depths w.actors marks key cell (ask_at cell number chain).cell (ask_marks_at cell number chain) told kept
    (ask_keeps cell number (chain_for cell.depth number chain) true kept.sound (chain_given cell.depth number chain))

-- an event at the cell of a call, if there is one
at_call_told : (w : SoloState) (marks : List ActorMark) (step : List ℕ → CellState → WorldStep) (call : ℕ) → StateTold w marks
    → ((key : List ℕ) (cell : CellState) → cell_at key w.actors ≡ Some cell → EventTold marks (step key cell)) → EventTold marks (at_call w step call)
at_call_told w marks step call told each = by_key (key_of_call call w.calls)
  where
    by_cell : (key : List ℕ) (found : Option CellState) → cell_at key w.actors ≡ found → EventTold marks (at_cell w step key found)
    by_cell key None e = unchanged_told w marks out.NotThere told
    by_cell key (Some cell) e = each key cell e

    by_key : (found : Option (List ℕ)) → EventTold marks (at_key w step found)
    by_key None = unchanged_told w marks out.NotThere told
    by_key (Some key) = by_cell key (cell_at key w.actors) refl

end_told : (w : SoloState) (marks : List ActorMark) (call : ℕ) → StateTold w marks → (key : List ℕ) (cell : CellState) → cell_at key w.actors ≡ Some cell → EventTold marks (end_at w call key cell)
end_told w marks call told key cell e =
    let kept = told_at w.depths w.actors marks key cell told e in
    told-put w.depths w.actors marks key cell (cell_end cell call true).cell (end_marks cell call true) told kept (end_keeps cell call true kept.sound)

poll_told : (w : SoloState) (marks : List ActorMark) (call : ℕ) → StateTold w marks → (key : List ℕ) (cell : CellState) → cell_at key w.actors ≡ Some cell → EventTold marks (poll_at w call key cell)
poll_told w marks call told key cell e =
    let kept = told_at w.depths w.actors marks key cell told e in
    told-put w.depths w.actors marks key cell (cell_poll cell call).cell [] told kept (poll_keeps cell call kept.sound)

hold_told : (w : SoloState) (marks : List ActorMark) (key : List ℕ) → StateTold w marks → (found : Option CellState) → cell_at key w.actors ≡ found → EventTold marks (hold_step w key found)
hold_told w marks key told None e = unchanged_told w marks out.NotActive told
hold_told w marks key told (Some cell) e =
    let kept = told_at w.depths w.actors marks key cell told e in
    told-put w.depths w.actors marks key cell (with_hold cell) [] told kept (holds_keep cell (cell.holds + 1) kept.sound)

release_told : (w : SoloState) (marks : List ActorMark) (key : List ℕ) → StateTold w marks → (found : Option CellState) → cell_at key w.actors ≡ found → EventTold marks (release_step w key found)
release_told w marks key told None e = unchanged_told w marks out.NotHeld told
release_told w marks key told (Some cell) e =
    let kept = told_at w.depths w.actors marks key cell told e in
    cond_both (cell.holds == 0) _ _ (λ (step : WorldStep). EventTold marks step) (λ _. unchanged_told w marks out.NotHeld told)
    (λ _. told-put w.depths w.actors marks key cell (without_hold cell) [] told kept (holds_keep cell (cell.holds - 1) kept.sound))

pub step_kept : (w : SoloState) (marks : List ActorMark) (event : SoloEvent) → StateTold w marks → EventTold marks (solo_step w event)
step_kept w marks (Call number key chain) told = call_told w marks number key chain told
step_kept w marks (End call) told = at_call_told w marks (end_at w call) call told (end_told w marks call told)
step_kept w marks (Poll call) told = at_call_told w marks (poll_at w call) call told (poll_told w marks call told)
step_kept w marks (Hold key) told = hold_told w marks key told (cell_at key w.actors) refl
step_kept w marks (Release key) told = release_told w marks key told (cell_at key w.actors) refl

-- ---- a list of events

one_kept : (w : SoloState) (marks : List ActorMark) (event : SoloEvent) (refusal : Option WorldError) → StateTold w marks
    → StateTold (after_event w event refusal) (marks ++ marks_by w event refusal)
one_kept w marks event None told = step_kept w marks event told
one_kept w marks event (Some error) told = told-same w.depths w.actors marks told

pub run_kept : (w : SoloState) (marks : List ActorMark) (events : List SoloEvent) → StateTold w marks → StateTold (run_from w events) (marks ++ marks_from w events)
run_kept w marks [] told = told-same w.depths w.actors marks told
run_kept w marks (event ∷ events) told =
    let refusal = refusal_of w event in
    let next = after_event w event refusal in
    let rest = run_kept next (marks ++ marks_by w event refusal) events (one_kept w marks event refusal told) in
    subst (λ (ms : List ActorMark). StateTold (run_from next events) ms) (append_assoc marks (marks_by w event refusal) (marks_from next events)) rest

pub solo_kept : (depths : List TypeDepth) (events : List SoloEvent) → StateTold (solo_run depths events) (solo_marks depths events)
solo_kept depths events = run_kept (state_with depths) [] events (λ key. refl)

-- ---- what it gives

pub left_open : (depth : ℕ) (found : Option CellState) (marks : List TurnMark) → CellTold depth found marks → open_after [] marks ≡ turns_in found
left_open depth None marks none = subst (λ (ms : List TurnMark). open_after [] ms ≡ []) (sym none) refl
left_open depth (Some cell) marks kept = kept.opens
