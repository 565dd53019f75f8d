use Rattle.std.proofs.Common.{◌≡◌, ℕ, ◌&&◌, Bool, true, false, not, List, [], length, Option, None, refl, sym, ap, ◌∙◌, subst, arith}
use Rattle.std.specs.Prelude.{nat_le}
use Rattle.std.specs.declared.result.Result.TheVariants.{Err}
use Rattle.std.proofs.lemmas.Bool.{le-leb, lt-leb}
use Rattle.turn_core.specs.Cell.{CellState}
use Rattle.part_model.specs.declared.actor_cell.ActorCell.{ActorCell}
use Rattle.part_model.specs.Cells.{cell_at, first_cell}
use Rattle.part_model.specs.declared.settings.TypeSettings.{TypeSettings}
use Rattle.part_model.specs.declared.event.Reply.TheVariants as replies
use Rattle.part_model.specs.Settings.{settings_of}
use Rattle.part_model.specs.Part.{PartState, PartStep, most_cells, call_chain, refused, ask_cell, ask_here, ring_owner}
use Rattle.part_model.specs.Rooms.{Gives, GivesInMemory}
use Rattle.part_core.specs.Actors.{ActorsState, state_of, view_of, Enters}
use Rattle.part_core.proofs.AskedGives.{first_step, refused_gives}
use Rattle.part_core.proofs.FirstAsks.{and_true}
use Rattle.part_core.proofs.actors.Actors.ask_first.Goals as goal

pub returns-in-Err : goal.returns-in-Err
returns-in-Err c =
    let s = c.args.standing.now in
    let old : ActorsState = record { drawn = c.self.inside.drawn; cells = c.self.inside.cells.cells; recent = c.self.inside.recent.items } in
    let p : PartState = state_of s old in
    let cell = c.first_cell-cell.result in
    let depth = c.depth_of-depth.result in
    let chain = c.in-Ok-call_chain.chain in
    let first : cell ≡ first_cell c.args.key depth = c.first_cell-cell.ensures ∙ ap (λ (n : CellState). record { key = c.args.key; inner = n; active = false; closing = false; last = 0 }) c.in-Ok.ensures.ok in
    let made : chain ≡ call_chain p cell.inner.depth c.args.chain = c.in-Ok-call_chain.ensures.chain ∙ ap (λ (z : ActorCell). call_chain p z.inner.depth c.args.chain) (sym first) in
    let absent : cell_at old.cells c.args.key ≡ None = rw (← c.self.view_is) at c.requires.absent in
    let none : old.recent ≡ [] = rw (← c.self.view_is) at c.requires.none in
    let known = c.depth_of-depth.ensures.depth ∙ ap (λ (ts : List TypeSettings). (settings_of ts c.args.key.kind).depth) c.as_slice.ensures in
    let full = nat_le most_cells (length old.cells) in
    let step = first_step p c.args.key depth full cell c.args.chain absent known refl first ∙ ap (λ (m : Option (List ℕ)). ask_here ring_owner full p cell m) (sym made) in
    let outer : Bool → PartState → PartStep = λ f q. ask_here ring_owner f q cell chain in
    let entered = subst (λ (m : Option (List ℕ)). Enters s cell m (Err c.in-Err.refusal)) c.as_ref.ensures.value c.in-Err.ensures in
    rw (← c.self.view_is) (
    subst (λ (z : PartStep). GivesInMemory z c.in-Err.refusal p (view_of s old)) (sym step) (
    subst (λ (v : ActorsState). GivesInMemory (outer full p) c.in-Err.refusal p (view_of s v)) (λ i. record { drawn = old.drawn; cells = old.cells; recent = sym none i })
    (refused_gives s old c.requires.running outer cell chain full c.in-Err.refusal entered)
    )
    )

pub returns-then-len-ge-MOST_CELLS : goal.returns-then-len-ge-MOST_CELLS
returns-then-len-ge-MOST_CELLS c =
    let s = c.args.standing.now in
    let old : ActorsState = record { drawn = c.self.inside.drawn; cells = c.self.inside.cells.cells; recent = c.self.inside.recent.items } in
    let p : PartState = state_of s old in
    let cell = c.first_cell-cell.result in
    let depth = c.depth_of-depth.result in
    let chain = c.in-Ok-call_chain.chain in
    let first : cell ≡ first_cell c.args.key depth = c.first_cell-cell.ensures ∙ ap (λ (n : CellState). record { key = c.args.key; inner = n; active = false; closing = false; last = 0 }) c.in-Ok.ensures.ok in
    let made : chain ≡ call_chain p cell.inner.depth c.args.chain = c.in-Ok-call_chain.ensures.chain ∙ ap (λ (z : ActorCell). call_chain p z.inner.depth c.args.chain) (sym first) in
    let absent : cell_at old.cells c.args.key ≡ None = rw (← c.self.view_is) at c.requires.absent in
    let none : old.recent ≡ [] = rw (← c.self.view_is) at c.requires.none in
    let known = c.depth_of-depth.ensures.depth ∙ ap (λ (ts : List TypeSettings). (settings_of ts c.args.key.kind).depth) c.as_slice.ensures in
    let l = c.len.ensures in
    let most : true ≡ nat_le most_cells (length old.cells) = sym (le-leb most_cells (length old.cells) (omega arith)) in
    let step = first_step p c.args.key depth true cell c.args.chain absent known most first ∙ ap (λ (m : Option (List ℕ)). ask_here ring_owner true p cell m) (sym made) in
    let entered = rw c.as_ref.ensures.value at c.in-Ok-enter.ensures in
    rw (← c.self.view_is) (
    subst (λ (z : PartStep). Gives z replies.PartFull (view_of s old)) (sym (step ∙ entered old true))
    (subst (λ (v : ActorsState). Gives (refused p replies.PartFull) replies.PartFull (view_of s v)) (λ i. record { drawn = old.drawn; cells = old.cells; recent = sym none i }) (refl, refl))
    )

pub returns-else-len-ge-MOST_CELLS : goal.returns-else-len-ge-MOST_CELLS
returns-else-len-ge-MOST_CELLS c =
    let s = c.args.standing.now in
    let old : ActorsState = record { drawn = c.self.inside.drawn; cells = c.self.inside.cells.cells; recent = c.self.inside.recent.items } in
    let p : PartState = state_of s old in
    let cell = c.first_cell-cell.result in
    let depth = c.depth_of-depth.result in
    let chain = c.in-Ok-call_chain.chain in
    let first : cell ≡ first_cell c.args.key depth = c.first_cell-cell.ensures ∙ ap (λ (n : CellState). record { key = c.args.key; inner = n; active = false; closing = false; last = 0 }) c.in-Ok.ensures.ok in
    let made : chain ≡ call_chain p cell.inner.depth c.args.chain = c.in-Ok-call_chain.ensures.chain ∙ ap (λ (z : ActorCell). call_chain p z.inner.depth c.args.chain) (sym first) in
    let absent : cell_at old.cells c.args.key ≡ None = rw (← c.self.view_is) at c.requires.absent in
    let none : old.recent ≡ [] = rw (← c.self.view_is) at c.requires.none in
    let known = c.depth_of-depth.ensures.depth ∙ ap (λ (ts : List TypeSettings). (settings_of ts c.args.key.kind).depth) c.as_slice.ensures in
    let l = c.len.ensures in
    let more : false ≡ nat_le most_cells (length old.cells) = sym (lt-leb most_cells (length old.cells) (omega arith)) in
    let step = first_step p c.args.key depth false cell c.args.chain absent known more first ∙ ap (λ (m : Option (List ℕ)). ask_here ring_owner false p cell m) (sym made) in
    let entered = rw c.as_ref.ensures.value at c.in-Ok-enter.ensures in
    let b = c.in-Ok-enter.may_begin in
    let opens : (b && not cell.closing) ≡ b = ap (λ (z : ActorCell). b && not z.closing) first ∙ and_true b in
    let same = step ∙ entered old false ∙ ap (λ (z : Bool). ask_cell false p cell chain z) opens in
    rw (← c.self.view_is) (subst (λ (z : PartStep). GivesInMemory z c.add_first.result p (view_of s c.add_first.new.self)) (sym same) (rw (← c.self.view_is) at c.add_first.ensures))
