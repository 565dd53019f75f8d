use Rattle.std.proofs.Common.{◌≡◌, true, refl, sym, ◌∙◌, subst, arith, vec_capacity}
use Rattle.turn_core.proofs.CellSteps.{free_turns}
use Rattle.part_model.specs.declared.actor_cell.ActorCell.{ActorCell}
use Rattle.part_model.specs.Cells.{keep_cell}
use Rattle.part_model.specs.declared.event.Reply.TheVariants as replies
use Rattle.part_model.specs.Part.{take_closing, ring_owner}
use Rattle.part_model.specs.Rooms.{GivesInMemory}
use Rattle.part_core.specs.Actors.{ActorsState, no_actors, state_of, view_of}
use Rattle.part_core.proofs.Kept.{found_numbered, kept_within}
use Rattle.part_core.proofs.Closings.{closes_counted, taken_free}
use Rattle.part_core.proofs.HoldGives.{close_none, close_gives}
use Rattle.part_core.proofs.Wants.{closing_hands}
use Rattle.part_core.proofs.actors.Actors.take_closing.Goals as goal

pub returns-in_default-clause-gives : goal.returns-in_default-clause-gives
returns-in_default-clause-gives c =
    let s = c.args.standing.now in
    let old : ActorsState = record { drawn = c.self.inside.drawn; cells = c.self.inside.cells.cells; recent = c.self.inside.recent.items } in
    rw (← c.self.view_is) (subst (λ (v : ActorsState). GivesInMemory (take_closing ring_owner (state_of s old) c.args.now) replies.NoneClosing (state_of s old) (view_of s v))
    (λ i. record { drawn = old.drawn; cells = old.cells; recent = sym c.clear.ensures.items i })
    (close_none s old c.args.now (sym (closes_counted s old.cells c.args.now c.gives_some-gives.result (rw (← c.self.view_is) at c.requires.counted) c.gives_some-gives.ensures) ∙ c.in_default.ensures)))

pub returns-in_default-copy-clause-memory : goal.returns-in_default-copy-clause-memory
returns-in_default-copy-clause-memory c =
    let s = c.args.standing.now in
    let old : ActorsState = record { drawn = c.self.inside.drawn; cells = c.self.inside.cells.cells; recent = c.self.inside.recent.items } in
    rw (← c.self.view_is) (λ _. closing_hands (state_of s old) c.args.now c.in-Some.cell.now (sym (closes_counted s old.cells c.args.now c.gives_some-gives.result (rw (← c.self.view_is) at c.requires.counted) c.gives_some-gives.ensures) ∙ c.in-Some.ensures.0))

pub close-requires : goal.close-requires
close-requires c =
    let f = c.in-Some.ensures.1 in
    let s = c.args.standing.now in
    let cells = c.self.inside.cells.cells in
    let first = sym (closes_counted s cells c.args.now c.gives_some-gives.result (rw (← c.self.view_is) at c.requires.counted) c.gives_some-gives.ensures) ∙ c.in-Some.ensures.0 in
    rw f.at (free_turns c.in-Some.cell.now.inner (taken_free (state_of s no_actors) c.args.now cells c.in-Some.cell.now first))

pub invariant_of-self-2 : goal.invariant_of-self-2
invariant_of-self-2 c =
    let k = c.self.invariant in
    let cell = c.in-Some.cell.now in
    let f = c.in-Some.ensures.1 in
    let x : ActorCell = record cell { closing = true } in
    let h : c.close.new.self.cells ≡ keep_cell c.self.inside.cells.cells x = rw f.at at c.close.ensures in
    let n = found_numbered c.self.inside.drawn c.self.inside.cells (vec_capacity c.self.inside.recent) k c.in-Some.slot cell f in
    let d = c.clear.ensures.capacity in
    rw h (kept_within c.self.inside.drawn c.self.inside.cells (vec_capacity c.self.inside.recent) k c.in-Some.slot cell f x _ refl n (omega arith) (omega arith))

pub returns-clause-gives : goal.returns-clause-gives
returns-clause-gives c =
    let s = c.args.standing.now in
    let old : ActorsState = record { drawn = c.self.inside.drawn; cells = c.self.inside.cells.cells; recent = c.self.inside.recent.items } in
    let cell = c.in-Some.cell.now in
    let f = c.in-Some.ensures.1 in
    let x : ActorCell = record cell { closing = true } in
    let h : c.close.new.self.cells ≡ keep_cell c.self.inside.cells.cells x = rw f.at at c.close.ensures in
    rw (← c.self.view_is) (subst (λ (v : ActorsState). GivesInMemory (take_closing ring_owner (state_of s old) c.args.now) (replies.Close c.in-Ok.key) (state_of s old) (view_of s v))
    (λ i. record { drawn = old.drawn; cells = c.close.new.self.cells; recent = sym c.clear.ensures.items i })
    (close_gives s old c.args.now cell c.in-Ok.key c.close.new.self.cells (sym (closes_counted s old.cells c.args.now c.gives_some-gives.result (rw (← c.self.view_is) at c.requires.counted) c.gives_some-gives.ensures) ∙ c.in-Some.ensures.0) c.in-Ok.ensures h))
