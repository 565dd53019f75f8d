use Rattle.std.proofs.Common.{length, sym, subst, arith}
use Rattle.turn_core.specs.Cell.{CellState, without_hold}
use Rattle.solo_run.specs.WorldTold.{IsCellWithin}
use Rattle.solo_run.proofs.PlaceLemmas.{place_below}
use Rattle.solo_run.proofs.CellWithin.{released_within}
use Rattle.solo_run.proofs.WorldLemmas.{release_gives, release_gives_none, kept_with}
use Rattle.solo_run.proofs.world.SoloWorld.release.Goals as goal

pub returns-in_default : goal.returns-in_default
returns-in_default c =
    rw (← c.self.view_is)
    (release_gives_none c.self.inside.types c.self.inside.keys c.self.inside.cells.items c.self.inside.calls.items c.self.inside.events c.args.key.now (sym c.in_default.ensures))

pub index_mut-requires : goal.index_mut-requires
index_mut-requires c =
    let below = place_below c.args.key.now c.self.inside.keys c.in-Some.place (sym c.in-Some.ensures) in
    let each = c.self.invariant.each_cell in
    let counted = c.self.inside.cells.ok.0 in
    omega arith

pub invariant_of-self-2 : goal.invariant_of-self-2
invariant_of-self-2 c =
    let below = place_below c.args.key.now c.self.inside.keys c.in-Some.place (sym c.in-Some.ensures) in
    let each = c.self.invariant.each_cell in
    let n = length c.self.inside.calls.items in
    let there = c.self.invariant.within c.in-Some.place c.index_mut.result.now (omega arith) in
    let here : IsCellWithin n c.self.inside.events c.index_mut.result.now = subst (λ (x : CellState). IsCellWithin n c.self.inside.events x) (sym c.index_mut.ensures.value) there in
    let room = rw (← c.self.view_is) at c.requires in
    rw c.release_hold.ensures.cell
    (kept_with c.self.inside.keys c.self.inside.cells.items c.self.inside.calls.items c.self.inside.events c.in-Some.place (without_hold c.index_mut.result.now) c.self.invariant room
    (released_within n c.self.inside.events c.index_mut.result.now here))

pub returns : goal.returns
returns c =
    rw (← c.self.view_is, c.release_hold.ensures.outcome, c.release_hold.ensures.cell)
    (release_gives c.self.inside.types c.self.inside.keys c.self.inside.cells.items c.self.inside.calls.items c.self.inside.events c.self.invariant.each_cell c.self.invariant.distinct c.args.key.now c.in-Some.place c.index_mut.result.now (sym c.in-Some.ensures) c.index_mut.ensures.value)
