use Rattle.std.proofs.Common.{◌≡◌, true, not, ◌&&◌, List, Some, refl, sym, ap, ◌∙◌}
use Rattle.std.specs.declared.result.Result.TheVariants.{Err}
use Rattle.std.specs.Option.{option_copied, option_copied_mut}
use Rattle.slab.specs.Slab.{get}
use Rattle.turn_core.specs.declared.answer.CellError.{CellError}
use Rattle.turn_core.specs.declared.answer.CellError.TheVariants as deny
use Rattle.turn_core.specs.Cell.{AskStep, admit_call}
use Rattle.turn_core.proofs.Joins.{asked_joins, gives_same}
use Rattle.part_model.specs.declared.actor_cell.ActorCell.{ActorCell}
use Rattle.part_cells.specs.Slots.{slot_of, AsksAt}
use Rattle.part_cells.proofs.Keeping.{look_none}
use Rattle.part_cells.proofs.Writes.{not_in, write_keeps, write_joined, write_still, write_same, taken_back}
use Rattle.part_cells.proofs.Settled.{begun_settled, waits_settled}
use Rattle.part_cells.proofs.cells.Cells.ask.Goals as goal

-- a refusal that changes nothing
refusal_gives : (x : CellError) (old new : List ActorCell) (c : ActorCell) (step : AskStep) → Err x ≡ step.answer → new ≡ old → AsksAt (Err x) old new c step
refusal_gives (deny.Depth n) old new c step a e = (a, e)
refusal_gives (deny.QueueFull n) old new c step a e = (a, e)
refusal_gives deny.OutOfMemory old new c step a e = e

pub invariant_of-self-in-Err : goal.invariant_of-self-in-Err
invariant_of-self-in-Err c =
    let k = c.self.invariant in
    let cell = c.in-Some.hashed.now in
    let e : get c.self.inside.slots c.args.slot ≡ Some cell = sym c.get_mut.ensures.value ∙ ap (λ o. option_copied_mut o) c.in-Some.is in
    write_still c.self.inside.slots c.self.inside.places.entries (slot_of c.self.inside.calls) c.self.inside.count k c.args.slot cell e cell refl (k.settled c.args.slot cell e) (λ m. refl) refl

pub returns-in-Err : goal.returns-in-Err
returns-in-Err c =
    let cell = c.hashed.inside.cell in
    let e : get c.self.inside.slots c.args.slot ≡ Some cell = sym c.get_mut.ensures.value ∙ ap (λ o. option_copied_mut o) c.in-Some.is ∙ ap (λ z. Some z) (sym c.hashed.view_is) in
    rw (← c.self.view_is, e) (refusal_gives c.in-Err.refusal _ _ cell (admit_call cell.inner c.args.call (option_copied c.args.chain) (c.args.may_begin && not cell.closing)) (sym c.in-Err.is ∙ c.admission.ensures c.args.call ∙ ap (λ b. (admit_call cell.inner c.args.call (option_copied c.args.chain) b).answer) c.begins_in-begins.ensures)
    (write_same c.self.inside.slots c.self.inside.places.entries (slot_of c.self.inside.calls) c.self.inside.count c.self.invariant c.args.slot cell e c.in-Some.hashed.now (ap (λ (z : ActorCell). z.key) (sym c.hashed.view_is)) (sym c.hashed.view_is)))

pub ask-requires-clause-absent : goal.ask-requires-clause-absent
ask-requires-clause-absent c =
    let S = c.self.inside.slots in
    let ps = c.self.inside.places.entries in
    let look = slot_of c.self.inside.calls in
    let n = c.self.inside.count in
    let cell = c.hashed.inside.cell in
    let e : get S c.args.slot ≡ Some cell = sym c.get_mut.ensures.value ∙ ap (λ o. option_copied_mut o) c.in-Some.is ∙ ap (λ z. Some z) (sym c.hashed.view_is) in
    let none = look_none (get S) ps look n c.self.invariant c.args.call (rw (← c.self.view_is) at c.requires.fresh) in
    not_in S ps look n c.self.invariant c.args.slot cell e c.args.call none

pub ask-requires-clause-chained : goal.ask-requires-clause-chained
ask-requires-clause-chained c =
    let e : get c.self.inside.slots c.args.slot ≡ Some c.hashed.inside.cell = sym c.get_mut.ensures.value ∙ ap (λ o. option_copied_mut o) c.in-Some.is ∙ ap (λ z. Some z) (sym c.hashed.view_is) in
    rw e at (rw (← c.self.view_is) at c.requires.chained)

pub invariant_of-self-in-Ok-Begun : goal.invariant_of-self-in-Ok-Begun
invariant_of-self-in-Ok-Begun c =
    let S = c.self.inside.slots in
    let ps = c.self.inside.places.entries in
    let look = slot_of c.self.inside.calls in
    let n = c.self.inside.count in
    let k = c.self.invariant in
    let cell = c.hashed.inside.cell in
    let e : get S c.args.slot ≡ Some cell = sym c.get_mut.ensures.value ∙ ap (λ o. option_copied_mut o) c.in-Some.is ∙ ap (λ z. Some z) (sym c.hashed.view_is) in
    let none = look_none (get S) ps look n k c.args.call (rw (← c.self.view_is) at c.requires.fresh) in
    let chain = option_copied c.args.chain in
    let b = c.args.may_begin && not cell.closing in
    let g = rw (c.begins_in-begins.ensures, c.in-Ok-Begun.field-0-is) at c.in-Ok-Begun.ensures in
    let x : ActorCell = record cell { inner = (admit_call cell.inner c.args.call chain b).cell; active = true } in
    rw g.1 (write_joined S ps look n k c.args.slot cell e x refl (begun_settled cell c.args.call chain c.args.may_begin _ (k.settled c.args.slot cell e) (sym g.0)) c.args.call (slot_of c.add.new.self) none (asked_joins cell.inner c.args.call chain b _ (sym g.0)) c.in-Ok.ensures.ok)

pub returns-in-Ok-Begun : goal.returns-in-Ok-Begun
returns-in-Ok-Begun c =
    let S = c.self.inside.slots in
    let k = c.self.invariant in
    let cell = c.hashed.inside.cell in
    let e : get S c.args.slot ≡ Some cell = sym c.get_mut.ensures.value ∙ ap (λ o. option_copied_mut o) c.in-Some.is ∙ ap (λ z. Some z) (sym c.hashed.view_is) in
    let chain = option_copied c.args.chain in
    let b = c.args.may_begin && not cell.closing in
    let g = rw (c.begins_in-begins.ensures, c.in-Ok-Begun.field-0-is) at c.in-Ok-Begun.ensures in
    let x : ActorCell = record cell { inner = (admit_call cell.inner c.args.call chain b).cell; active = true } in
    rw (← c.self.view_is, e, g.1) (g.0, write_keeps S c.self.inside.places.entries (slot_of c.self.inside.calls) c.self.inside.count k c.args.slot cell e x refl (begun_settled cell c.args.call chain c.args.may_begin _ (k.settled c.args.slot cell e) (sym g.0)))

pub invariant_of-self-in-Ok-Waits : goal.invariant_of-self-in-Ok-Waits
invariant_of-self-in-Ok-Waits c =
    let S = c.self.inside.slots in
    let ps = c.self.inside.places.entries in
    let look = slot_of c.self.inside.calls in
    let n = c.self.inside.count in
    let k = c.self.invariant in
    let cell = c.hashed.inside.cell in
    let e : get S c.args.slot ≡ Some cell = sym c.get_mut.ensures.value ∙ ap (λ o. option_copied_mut o) c.in-Some.is ∙ ap (λ z. Some z) (sym c.hashed.view_is) in
    let none = look_none (get S) ps look n k c.args.call (rw (← c.self.view_is) at c.requires.fresh) in
    let chain = option_copied c.args.chain in
    let b = c.args.may_begin && not cell.closing in
    let g = rw (c.begins_in-begins.ensures, c.in-Ok-Waits.field-0-is) at c.in-Ok-Waits.ensures in
    let x : ActorCell = record cell { inner = (admit_call cell.inner c.args.call chain b).cell } in
    rw g.1 (write_joined S ps look n k c.args.slot cell e x refl (waits_settled cell c.args.call chain b c.in-Ok-Waits.place (k.settled c.args.slot cell e) (sym g.0)) c.args.call (slot_of c.add.new.self) none (asked_joins cell.inner c.args.call chain b _ (sym g.0)) c.in-Ok.ensures.ok)

pub returns-in-Ok-Waits : goal.returns-in-Ok-Waits
returns-in-Ok-Waits c =
    let S = c.self.inside.slots in
    let k = c.self.invariant in
    let cell = c.hashed.inside.cell in
    let e : get S c.args.slot ≡ Some cell = sym c.get_mut.ensures.value ∙ ap (λ o. option_copied_mut o) c.in-Some.is ∙ ap (λ z. Some z) (sym c.hashed.view_is) in
    let chain = option_copied c.args.chain in
    let b = c.args.may_begin && not cell.closing in
    let g = rw (c.begins_in-begins.ensures, c.in-Ok-Waits.field-0-is) at c.in-Ok-Waits.ensures in
    let x : ActorCell = record cell { inner = (admit_call cell.inner c.args.call chain b).cell } in
    rw (← c.self.view_is, e, g.1) (g.0, write_keeps S c.self.inside.places.entries (slot_of c.self.inside.calls) c.self.inside.count k c.args.slot cell e x refl (waits_settled cell c.args.call chain b c.in-Ok-Waits.place (k.settled c.args.slot cell e) (sym g.0)))

pub invariant_of-self-in-Err-ask : goal.invariant_of-self-in-Err-ask
invariant_of-self-in-Err-ask c =
    let S = c.self.inside.slots in
    let ps = c.self.inside.places.entries in
    let look = slot_of c.self.inside.calls in
    let n = c.self.inside.count in
    let k = c.self.invariant in
    let cell = c.hashed.inside.cell in
    let e : get S c.args.slot ≡ Some cell = sym c.get_mut.ensures.value ∙ ap (λ o. option_copied_mut o) c.in-Some.is ∙ ap (λ z. Some z) (sym c.hashed.view_is) in
    let none = look_none (get S) ps look n k c.args.call (rw (← c.self.view_is) at c.requires.fresh) in
    let same = gives_same cell.inner c.args.call (option_copied c.args.chain) (c.args.may_begin && not cell.closing) _ c.ask.new.self (rw c.begins_in-begins.ensures at c.in-Err-ask.ensures) in
    rw (taken_back c.args.slot c.args.call look (slot_of c.add.new.self) (slot_of c.remove.new.self) none c.in-Ok.ensures.ok c.remove.ensures, same)
    (write_still S ps look n k c.args.slot cell e cell refl (k.settled c.args.slot cell e) (λ m. refl) refl)

pub returns-in-Err-ask : goal.returns-in-Err-ask
returns-in-Err-ask c =
    let S = c.self.inside.slots in
    let k = c.self.invariant in
    let cell = c.hashed.inside.cell in
    let e : get S c.args.slot ≡ Some cell = sym c.get_mut.ensures.value ∙ ap (λ o. option_copied_mut o) c.in-Some.is ∙ ap (λ z. Some z) (sym c.hashed.view_is) in
    let same = gives_same cell.inner c.args.call (option_copied c.args.chain) (c.args.may_begin && not cell.closing) _ c.ask.new.self (rw c.begins_in-begins.ensures at c.in-Err-ask.ensures) in
    rw (← c.self.view_is, e, same) (write_same S c.self.inside.places.entries (slot_of c.self.inside.calls) c.self.inside.count k c.args.slot cell e cell refl refl)

pub invariant_of-self-in_default-add : goal.invariant_of-self-in_default-add
invariant_of-self-in_default-add c =
    let k = c.self.invariant in
    let cell = c.in-Some.hashed.now in
    let e : get c.self.inside.slots c.args.slot ≡ Some cell = sym c.get_mut.ensures.value ∙ ap (λ o. option_copied_mut o) c.in-Some.is in
    rw c.in_default-add.ensures.err (write_still c.self.inside.slots c.self.inside.places.entries (slot_of c.self.inside.calls) c.self.inside.count k c.args.slot cell e cell refl (k.settled c.args.slot cell e) (λ m. refl) refl)

pub returns-in_default-add : goal.returns-in_default-add
returns-in_default-add c =
    let cell = c.in-Some.hashed.now in
    let e : get c.self.inside.slots c.args.slot ≡ Some cell = sym c.get_mut.ensures.value ∙ ap (λ o. option_copied_mut o) c.in-Some.is in
    rw (← c.self.view_is, e) (write_same c.self.inside.slots c.self.inside.places.entries (slot_of c.self.inside.calls) c.self.inside.count c.self.invariant c.args.slot cell e cell refl refl)
