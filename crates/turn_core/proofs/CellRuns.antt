-- For every list of calls the turns of a cell are isolated.
use Rattle.std.proofs.Common.{◌≡◌, ℕ, ◌+◌, ◌-◌, List, [], ◌∷◌, refl, sym, ap, subst, ◌∙◌}
use Rattle.turn_core.specs.declared.cell.Turn.{Turn}
use Rattle.turn_core.specs.Cell.{CellState, new_cell}
use Rattle.turn_core.specs.CellMarks.{TurnsIsolated, open_after, CellEvent, Asks, Ends, Polls, BeginsNext, Holds, Releases, MovesWaiting, EndsAll, cell_step, cell_marks, MayHappen, state_after, run_marks, AllMayHappen}
use Rattle.turn_core.specs.CellSound.{IsCellSound}
use Rattle.turn_core.proofs.Overlaps.{EntersAll, EntersAll-append, open_after-append, isolated_from_enters}
use Rattle.turn_core.proofs.CellKeeps.{KeepsTurns, new_cell_sound, ask_keeps, end_keeps, poll_keeps, begin_keeps, holds_keep, moves_keep, end_all_keeps}

pub step_keeps : (c : CellState) (e : CellEvent) → IsCellSound c → MayHappen c e → KeepsTurns c.depth c.turns (cell_step c e) (cell_marks c e)
step_keeps c (Asks call chain may_begin) s h = ask_keeps c call chain may_begin s h.1
step_keeps c (Ends call may_begin) s h = end_keeps c call may_begin s
step_keeps c (Polls call) s h = poll_keeps c call s
step_keeps c BeginsNext s h = begin_keeps c s h
step_keeps c Holds s h = holds_keep c (c.holds + 1) s
step_keeps c Releases s h = holds_keep c (c.holds - 1) s
step_keeps c MovesWaiting s h = moves_keep c s
step_keeps c EndsAll s h = end_all_keeps c s

pub run_enters : (c : CellState) (es : List CellEvent) → IsCellSound c → AllMayHappen c es → EntersAll c.depth c.turns (run_marks c es)
run_enters c [] s h = tt
run_enters c (e ∷ es) s h =
    let k = step_keeps c e s h.0 in
    let more = run_enters (cell_step c e) es k.sound h.1 in
    let rest = run_marks (cell_step c e) es in
    EntersAll-append c.depth c.turns (cell_marks c e) (run_marks (cell_step c e) es) k.enters
    (subst (λ (ts : List Turn). EntersAll c.depth ts (run_marks (cell_step c e) es)) (sym k.opens)
    (subst (λ (d : ℕ). EntersAll d (cell_step c e).turns (run_marks (cell_step c e) es)) k.same_depth more))

-- the marks say which turns are open
pub run_opens : (c : CellState) (es : List CellEvent) → IsCellSound c → AllMayHappen c es → open_after c.turns (run_marks c es) ≡ (state_after c es).turns
run_opens c [] s h = refl
run_opens c (e ∷ es) s h =
    let k = step_keeps c e s h.0 in
    open_after-append c.turns (cell_marks c e) (run_marks (cell_step c e) es)
    ∙ ap (λ (ts : List Turn). open_after ts (run_marks (cell_step c e) es)) k.opens
    ∙ run_opens (cell_step c e) es k.sound h.1

pub run_sound : (c : CellState) (es : List CellEvent) → IsCellSound c → AllMayHappen c es → IsCellSound (state_after c es)
run_sound c [] s h = s
run_sound c (e ∷ es) s h = run_sound (cell_step c e) es (step_keeps c e s h.0).sound h.1

pub runs_isolated : (depth : ℕ) (es : List CellEvent) → AllMayHappen (new_cell depth) es → TurnsIsolated depth (run_marks (new_cell depth) es)
runs_isolated depth es h = isolated_from_enters depth (run_marks (new_cell depth) es) (run_enters (new_cell depth) es (new_cell_sound depth) h)
