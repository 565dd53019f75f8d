use Rattle.std.proofs.Common.{◌≡◌, ◌++◌, Some, sym, ap, ◌∙◌, arith}
use Rattle.std.specs.Prelude.{option_map}
use Rattle.std.specs.Option.{option_copied_mut}
use Rattle.slab.specs.Slab.{get}
use Rattle.part_model.specs.Cells.{calls_in}
use Rattle.part_cells.specs.Slots.{slot_of, number_at, list_at, opened_cell, opened_calls, opened_moved}
use Rattle.part_cells.proofs.Writes.{written, write_with_calls}
use Rattle.part_cells.proofs.Settled.{opened_settled, opened_keeps, opened-key}
use Rattle.part_cells.proofs.opening.open_at.Goals as goal

pub open_cell-requires : goal.open_cell-requires
open_cell-requires g c =
    let e : get c.args.slots.now c.args.slot ≡ Some c.hashed.inside.cell = sym c.get_mut.ensures.value ∙ ap (λ o. option_copied_mut o) c.in-Some.is ∙ ap (λ z. Some z) (sym c.hashed.view_is) in
    let n = ap (number_at calls_in) e in
    let r = c.requires.room in
    omega arith

pub returns-clause-visited : goal.returns-clause-visited
returns-clause-visited g c =
    let own = g.T.CellTest.holds c.args.own.now in
    let cell = c.hashed.inside.cell in
    let S = c.args.slots.now in
    let e : get S c.args.slot ≡ Some cell = sym c.get_mut.ensures.value ∙ ap (λ o. option_copied_mut o) c.in-Some.is ∙ ap (λ z. Some z) (sym c.hashed.view_is) in
    let w = written S c.args._places.now.entries (slot_of c.args._calls.now) c.args._count.now c.requires.kept c.args.slot cell e (opened_cell own cell) (opened-key own cell) in
    rw c.open_cell.ensures.cell (
    record {
      cell = w.changed ∙ sym (ap (option_map (opened_cell own)) e);
      others = w.others;
      listed = c.open_cell.ensures.begun ∙ ap (λ o. c.args.begun.now.items ++ list_at (opened_calls own) o) (sym e);
      number = c.open_cell.ensures.moved ∙ ap (number_at (opened_moved own)) (sym e);
    }
    )

pub returns-clause-kept : goal.returns-clause-kept
returns-clause-kept g c =
    let own = g.T.CellTest.holds c.args.own.now in
    let cell = c.hashed.inside.cell in
    let S = c.args.slots.now in
    let e : get S c.args.slot ≡ Some cell = sym c.get_mut.ensures.value ∙ ap (λ o. option_copied_mut o) c.in-Some.is ∙ ap (λ z. Some z) (sym c.hashed.view_is) in
    let k = c.requires.kept in
    rw c.open_cell.ensures.cell (write_with_calls S c.args._places.now.entries (slot_of c.args._calls.now) c.args._count.now k c.args.slot cell e (opened_cell own cell) (opened-key own cell) (opened_settled own cell (k.settled c.args.slot cell e)) (opened_keeps own cell))
