use Rattle.std.proofs.Common.{length, sym, subst, arith}
use Rattle.turn_core.specs.Cell.{CellState, cell_poll}
use Rattle.solo_run.specs.WorldTold.{IsCellWithin}
use Rattle.solo_run.proofs.CellWithin.{polled_within}
use Rattle.solo_run.proofs.WorldLemmas.{poll_gives, placed_call, kept_with}
use Rattle.solo_run.proofs.world.SoloWorld.poll.Goals as goal

pub invariant_of-self-2 : goal.invariant_of-self-2
invariant_of-self-2 c =
    let place = rw c.deref.ensures.value at (sym c.in-Some.ensures) in
    let below = placed_call (length c.self.inside.keys) c.args.call c.in-Some.place c.self.inside.calls.items c.self.invariant.placed place in
    let each = c.self.invariant.each_cell in
    let n = length c.self.inside.calls.items in
    let there = c.self.invariant.within c.in-Some.place c.index_mut.result.now (omega arith) in
    let here : IsCellWithin n c.self.inside.events c.index_mut.result.now = subst (λ (x : CellState). IsCellWithin n c.self.inside.events x) (sym c.index_mut.ensures.value) there in
    let room = rw (← c.self.view_is) at c.requires in
    rw c.poll_call.ensures.cell
    (kept_with c.self.inside.keys c.self.inside.cells.items c.self.inside.calls.items c.self.inside.events c.in-Some.place (cell_poll c.index_mut.result.now c.args.call).cell c.self.invariant room
    (polled_within n c.self.inside.events c.args.call c.index_mut.result.now here))

pub returns : goal.returns
returns c =
    let place = rw c.deref.ensures.value at (sym c.in-Some.ensures) in
    let below = placed_call (length c.self.inside.keys) c.args.call c.in-Some.place c.self.inside.calls.items c.self.invariant.placed place in
    rw (← c.self.view_is, c.poll_call.ensures.outcome, c.poll_call.ensures.cell)
    (poll_gives c.self.inside.types c.self.inside.keys c.self.inside.cells.items c.self.inside.calls.items c.self.inside.events c.self.invariant.each_cell c.self.invariant.distinct c.args.call c.in-Some.place c.index_mut.result.now place below c.index_mut.ensures.value)
