use Rattle.std.proofs.Common.{◌≡◌, ℕ, ◌&&◌, Bool, false, not, List, Option, sym, ap, ◌∙◌, subst, arith, vec_capacity}
use Rattle.std.specs.declared.result.Result.TheVariants.{Err}
use Rattle.std.specs.Option.{option_copied}
use Rattle.part_model.specs.Part.{PartState, PartStep, call_chain, ask_here, ask_part, ring_owner}
use Rattle.part_model.specs.Rooms.{GivesInMemory}
use Rattle.part_core.specs.Actors.{ActorsState, state_of, view_of, Enters}
use Rattle.part_model.proofs.Elements.{In-cell_at}
use Rattle.part_core.proofs.AskedGives.{quiet, ask_goes, known_step, refused_gives}
use Rattle.part_core.proofs.Kept.{fresh, kept_asked, kept_refused}
use Rattle.part_core.proofs.Owned.{own_if_active}
use Rattle.part_core.proofs.actors.Actors.ask.Goals as goal

pub returns-in_default-clause-gives : goal.returns-in_default-clause-gives
returns-in_default-clause-gives c =
    let s = c.args.standing.now in
    let old : ActorsState = record { drawn = c.self.inside.drawn; cells = c.self.inside.cells.cells; recent = c.self.inside.recent.items } in
    let p : PartState = state_of s old in
    rw (← c.self.view_is) (ask_goes p p c.args.key c.args.chain c.args.least c.ask_first.result (view_of s c.ask_first.new.self) (omega arith) (omega arith) c.ask_first.ensures)

pub returns-in-Err-clause-gives : goal.returns-in-Err-clause-gives
returns-in-Err-clause-gives c =
    let s = c.args.standing.now in
    let old : ActorsState = record { drawn = c.self.inside.drawn; cells = c.self.inside.cells.cells; recent = c.self.inside.recent.items } in
    let p : PartState = state_of s old in
    let cell = c.in-Some.cell.now in
    let chain = c.in-Ok.chain in
    let made : chain ≡ call_chain p cell.inner.depth c.args.chain = c.in-Ok.ensures.chain ∙ ap (λ (d : ℕ). call_chain p d c.args.chain) c.depth-depth.ensures in
    let step = known_step p c.args.key cell c.args.chain c.in-Some.ensures.0 ∙ ap (λ (m : Option (List ℕ)). ask_here ring_owner false p cell m) (sym made) in
    let outer : Bool → PartState → PartStep = λ f q. ask_here ring_owner f q cell chain in
    let entered = subst (λ (m : Option (List ℕ)). Enters s cell m (Err c.in-Err.refusal)) c.as_ref.ensures.value c.in-Err.ensures in
    rw (← c.self.view_is) (
    subst (λ (v : ActorsState). GivesInMemory (ask_part ring_owner p c.args.key c.args.chain c.args.least) c.in-Err.refusal p (view_of s v)) (λ i. record { drawn = old.drawn; cells = old.cells; recent = sym c.clear.ensures.items i }) (
    ask_goes p p c.args.key c.args.chain c.args.least c.in-Err.refusal (view_of s (quiet old)) (omega arith) (omega arith)
    (subst (λ (z : PartStep). GivesInMemory z c.in-Err.refusal p (view_of s (quiet old))) (sym step) (refused_gives s old c.requires.running outer cell chain false c.in-Err.refusal entered))
    )
    )

pub ask-requires-clause-fresh : goal.ask-requires-clause-fresh
ask-requires-clause-fresh c = fresh c.self.inside.drawn c.self.inside.cells (vec_capacity c.self.inside.recent) c.self.invariant

pub invariant_of-self-in-Err-ask : goal.invariant_of-self-in-Err-ask
invariant_of-self-in-Err-ask c =
    let f = c.in-Some.ensures.1 in
    let g = rw f.at at c.in-Err-ask.ensures in
    let d = c.clear.ensures.capacity in
    let r = c.reserve.ensures.capacity in
    kept_refused c.self.inside.drawn c.self.inside.cells (vec_capacity c.self.inside.recent) c.self.invariant c.in-Some.slot c.in-Some.cell.now f c.in-Err-ask.refusal c.ask.new.self.cells _ _ g (omega arith)

pub invariant_of-self-in-Ok-ask : goal.invariant_of-self-in-Ok-ask
invariant_of-self-in-Ok-ask c =
    let f = c.in-Some.ensures.1 in
    let cell = c.in-Some.cell.now in
    let g = rw f.at at c.in-Ok-ask.ensures in
    let count = c.count.ensures in
    let room = c.in-Ok-reserve.ensures.ok in
    let wide = c.accepted.ensures.room in
    kept_asked c.self.inside.drawn c.self.inside.cells (vec_capacity c.self.inside.recent) c.self.invariant c.in-Some.slot cell f c.in-Ok-ask.asked c.ask.new.self.cells (option_copied c.as_ref-2.result) (c.in-Ok-enter.may_begin && not cell.closing) _ g (omega arith) (omega arith)

pub enter-requires-clause-owned : goal.enter-requires-clause-owned
enter-requires-clause-owned c =
    let s = c.args.standing.now in
    let old : ActorsState = record { drawn = c.self.inside.drawn; cells = c.self.inside.cells.cells; recent = c.self.inside.recent.items } in
    let cell = c.in-Some.cell.now in
    own_if_active s old cell (rw (← c.self.view_is) at c.requires.owns) (In-cell_at old.cells cell.key cell c.in-Some.ensures.1.here)
