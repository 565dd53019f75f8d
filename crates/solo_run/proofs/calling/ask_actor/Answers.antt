use Rattle.std.proofs.Common.{sym, ap, ◌∙◌, arith}
use Rattle.turn_core.specs.Cell.{is_in_cell}
use Rattle.solo_run.proofs.PlaceLemmas.{place_below}
use Rattle.solo_run.proofs.ActorLemmas.{cell_for-place, cell_for-new, put_cell-place, put_cell-new, key_at_place, slice_get-last, keeps_set, keeps_push}
use Rattle.solo_run.proofs.calling.ask_actor.Goals as goal

pub index_mut-requires : goal.index_mut-requires
index_mut-requires c =
    let below = place_below c.args.key.now c.args.keys.now c.in-Some.at (sym c.in-Some.ensures) in
    let each = c.requires.each in
    let counted = c.args.cells.now.ok.0 in
    omega arith

pub ask_cell-requires : goal.ask_cell-requires
ask_cell-requires c =
    let below = place_below c.args.key.now c.args.keys.now c.in-Some.at (sym c.in-Some.ensures) in
    let each = c.requires.each in
    ap (λ cell. is_in_cell c.args.number cell) c.index_mut.ensures.value ∙ c.requires.later c.in-Some.at c.index_mut.result.now (omega arith)

pub returns-in_ok-admission-in-Some-clause-actors : goal.returns-in_ok-admission-in-Some-clause-actors
returns-in_ok-admission-in-Some-clause-actors c =
    let cell = cell_for-place c.args.types.now c.args.key.now c.args.keys.now c.args.cells.now.items c.in-Some.at c.index_mut.result.now c.requires.each (sym c.in-Some.ensures) in
    rw (c.in_ok-admission-in-Some.ensures.cell, cell, ← c.index_mut.ensures.value)
    (sym (put_cell-place c.args.key.now _ c.args.keys.now c.args.cells.now.items c.in-Some.at c.requires.each (sym c.in-Some.ensures)))

pub returns-in_ok-admission-in-Some-clause-outcome : goal.returns-in_ok-admission-in-Some-clause-outcome
returns-in_ok-admission-in-Some-clause-outcome c =
    let cell = cell_for-place c.args.types.now c.args.key.now c.args.keys.now c.args.cells.now.items c.in-Some.at c.index_mut.result.now c.requires.each (sym c.in-Some.ensures) in
    rw (cell, ← c.index_mut.ensures.value) c.in_ok-admission-in-Some.ensures.outcome

pub returns-in_ok-admission-in-Some-clause-admitted : goal.returns-in_ok-admission-in-Some-clause-admitted
returns-in_ok-admission-in-Some-clause-admitted c =
    let cell = cell_for-place c.args.types.now c.args.key.now c.args.keys.now c.args.cells.now.items c.in-Some.at c.index_mut.result.now c.requires.each (sym c.in-Some.ensures) in
    rw (cell, ← c.index_mut.ensures.value) c.in_ok-admission-in-Some.ensures.admitted

pub returns-in_ok-admission-in-Some-clause-place : goal.returns-in_ok-admission-in-Some-clause-place
returns-in_ok-admission-in-Some-clause-place c = key_at_place c.args.key.now c.args.keys.now c.in-Some.at (sym c.in-Some.ensures)

pub returns-in_ok-admission-in-Some-clause-below : goal.returns-in_ok-admission-in-Some-clause-below
returns-in_ok-admission-in-Some-clause-below c =
    let below = place_below c.args.key.now c.args.keys.now c.in-Some.at (sym c.in-Some.ensures) in
    omega arith

pub returns-in_ok-admission-in-Some-clause-keeps : goal.returns-in_ok-admission-in-Some-clause-keeps
returns-in_ok-admission-in-Some-clause-keeps c =
    let cell = cell_for-place c.args.types.now c.args.key.now c.args.keys.now c.args.cells.now.items c.in-Some.at c.index_mut.result.now c.requires.each (sym c.in-Some.ensures) in
    let below = place_below c.args.key.now c.args.keys.now c.in-Some.at (sym c.in-Some.ensures) in
    let each = c.requires.each in
    rw (c.in_ok-admission-in-Some.ensures.cell, cell, ← c.index_mut.ensures.value)
    (keeps_set c.args.keys.now c.args.cells.now.items c.in-Some.at _ c.requires.each c.requires.distinct (omega arith))

pub returns-in_ok-admission-in-None-clause-actors : goal.returns-in_ok-admission-in-None-clause-actors
returns-in_ok-admission-in-None-clause-actors c =
    let cell = cell_for-new c.args.types.now c.args.key.now c.args.keys.now c.args.cells.now.items (sym c.in-None.ensures) in
    rw (cell, c.in_ok-admission-in-None.ensures.keys, c.in_ok-admission-in-None.ensures.cells, c.depth_of-depth.ensures.depth, c.key_kind.ensures)
    (sym (put_cell-new c.args.key.now _ c.args.keys.now c.args.cells.now.items c.requires.each (sym c.in-None.ensures)))

pub returns-in_ok-admission-in-None-clause-outcome : goal.returns-in_ok-admission-in-None-clause-outcome
returns-in_ok-admission-in-None-clause-outcome c =
    let cell = cell_for-new c.args.types.now c.args.key.now c.args.keys.now c.args.cells.now.items (sym c.in-None.ensures) in
    rw (cell, ← c.key_kind.ensures, ← c.depth_of-depth.ensures.depth) c.in_ok-admission-in-None.ensures.outcome

pub returns-in_ok-admission-in-None-clause-admitted : goal.returns-in_ok-admission-in-None-clause-admitted
returns-in_ok-admission-in-None-clause-admitted c =
    let cell = cell_for-new c.args.types.now c.args.key.now c.args.keys.now c.args.cells.now.items (sym c.in-None.ensures) in
    rw (cell, ← c.key_kind.ensures, ← c.depth_of-depth.ensures.depth) c.in_ok-admission-in-None.ensures.admitted

pub returns-in_ok-admission-in-None-clause-place : goal.returns-in_ok-admission-in-None-clause-place
returns-in_ok-admission-in-None-clause-place c =
    rw c.in_ok-admission-in-None.ensures.keys (slice_get-last c.args.keys.now c.args.key.now c.len-at.result c.len-at.ensures.count)

pub returns-in_ok-admission-in-None-clause-keeps : goal.returns-in_ok-admission-in-None-clause-keeps
returns-in_ok-admission-in-None-clause-keeps c =
    let cell = cell_for-new c.args.types.now c.args.key.now c.args.keys.now c.args.cells.now.items (sym c.in-None.ensures) in
    rw (cell, c.in_ok-admission-in-None.ensures.keys, c.in_ok-admission-in-None.ensures.cells, c.depth_of-depth.ensures.depth, c.key_kind.ensures)
    (keeps_push c.args.keys.now c.args.cells.now.items c.args.key.now _ c.requires.each c.requires.distinct (sym c.in-None.ensures))
