use Rattle.std.proofs.Common.{◌≡◌, ℕ, ◌<◌, [], length, Option, Some, None, is_some, refl, sym, ap, subst, ◌∙◌, arith}
use Rattle.std.specs.Prelude.{option_map}
use Rattle.std.specs.Option.{option_copied_mut}
use Rattle.std.specs.BTreeMap.{is_at}
use Rattle.std.specs.Map.{remove_entry}
use Rattle.std.proofs.lemmas.Bool.{cond-false}
use Rattle.slab.specs.Slab.{get}
use Rattle.actor_names.specs.Same.{key_cmp}
use Rattle.turn_core.specs.declared.cell.Waiter.{Waiter}
use Rattle.turn_core.specs.Cell.{next_call, call_of}
use Rattle.turn_core.proofs.CellSteps.{nil_of_length}
use Rattle.turn_core.proofs.Leaves.{begins_keeps}
use Rattle.part_model.specs.declared.actor_cell.ActorCell.{ActorCell}
use Rattle.part_model.specs.Cells.{is_kept, put_cell, drop_cell}
use Rattle.part_cells.specs.Slots.{slot_of, cells_in, AreSlotsKept, closed_cell}
use Rattle.part_cells.proofs.Keeping.{kept_dropped, dropped, empty_has}
use Rattle.part_cells.proofs.Writes.{written, write_keeps, write_with_calls}
use Rattle.part_cells.proofs.Settled.{closing_free, closed_none, closed_unkept, closed_settled}
use Rattle.part_cells.proofs.cells.Cells.closed.Goals as goal

some_call : (next : Option Waiter) → is_some (option_map call_of next) ≡ is_some next
some_call None = refl
some_call (Some w) = refl

pub invariant_of-self-then-waiting-eq0 : goal.invariant_of-self-then-waiting-eq0
invariant_of-self-then-waiting-eq0 c =
    let S = c.self.inside.slots in
    let ps = c.self.inside.places.entries in
    let look = slot_of c.self.inside.calls in
    let n = c.self.inside.count in
    let k = c.self.invariant in
    let cell = c.in-Some.hashed.now in
    let e : get S c.args.slot ≡ Some cell = sym c.get_mut.ensures.value ∙ ap (λ o. option_copied_mut o) c.in-Some.is in
    let closing = rw e at (rw (← c.self.view_is) at c.requires) in
    let w = written S ps look n k c.args.slot cell e cell refl in
    let u = c.drop_at.ensures.slots in
    let places : c.drop_at.new.places.entries ≡ remove_entry (is_at (key_cmp cell.key)) ps = rw w.changed at c.drop_at.ensures.places in
    let none : cell.inner.queue ≡ [] = nil_of_length cell.inner.queue (let a = c.waiting.ensures.count ∙ ap (λ (z : ActorCell). length z.inner.queue) c.hashed.view_is in omega arith) in
    let free = closing_free cell (k.settled c.args.slot cell e) closing in
    let a = ap (λ ts. length ts) free in
    let b = ap (λ ws. length ws) none in
    subst (λ qs. AreSlotsKept (get c.drop_at.new.slots) qs look n) (sym places)
    (kept_dropped (get S) ps look n k c.args.slot cell (get c.drop_at.new.slots) e u.changed (λ m z. u.others m z ∙ w.others m z) look n
    (λ m. sym (cond-false _ None (look m) (empty_has cell free none m)))
    (omega arith))

pub returns-then-waiting-eq0 : goal.returns-then-waiting-eq0
returns-then-waiting-eq0 c =
    let S = c.self.inside.slots in
    let ps = c.self.inside.places.entries in
    let look = slot_of c.self.inside.calls in
    let n = c.self.inside.count in
    let k = c.self.invariant in
    let cell = c.in-Some.hashed.now in
    let x = closed_cell cell c.args.may_begin in
    let e : get S c.args.slot ≡ Some cell = sym c.get_mut.ensures.value ∙ ap (λ o. option_copied_mut o) c.in-Some.is in
    let closing = rw e at (rw (← c.self.view_is) at c.requires) in
    let s = k.settled c.args.slot cell e in
    let w = written S ps look n k c.args.slot cell e cell refl in
    let u = c.drop_at.ensures.slots in
    let places : c.drop_at.new.places.entries ≡ remove_entry (is_at (key_cmp cell.key)) ps = rw w.changed at c.drop_at.ensures.places in
    let none : cell.inner.queue ≡ [] = nil_of_length cell.inner.queue (let a = c.waiting.ensures.count ∙ ap (λ (z : ActorCell). length z.inner.queue) c.hashed.view_is in omega arith) in
    rw (← c.self.view_is, e) (
      sym (ap (option_map call_of) (closed_none cell c.args.may_begin s closing none)),
      ap (cells_in (get c.drop_at.new.slots)) places
          ∙ dropped (get S) ps look n k c.args.slot cell (get c.drop_at.new.slots) e u.changed (λ m z. u.others m z ∙ w.others m z)
          ∙ sym (cond-false (is_kept x) (put_cell (cells_in (get S) ps) x) (drop_cell (cells_in (get S) ps) cell.key) (closed_unkept cell c.args.may_begin s closing none)),
    )

pub invariant_of-self-2 : goal.invariant_of-self-2
invariant_of-self-2 c =
    let k = c.self.invariant in
    let cell = c.hashed.inside.cell in
    let next = next_call c.args.may_begin cell.inner in
    let x = closed_cell cell c.args.may_begin in
    let e : get c.self.inside.slots c.args.slot ≡ Some cell = sym c.get_mut.ensures.value ∙ ap (λ o. option_copied_mut o) c.in-Some.is ∙ ap (λ z. Some z) (sym c.hashed.view_is) in
    let closing = rw e at (rw (← c.self.view_is) at c.requires) in
    let active : c.is_some-hashed-inside.result ≡ is_some next = c.is_some-hashed-inside.ensures ∙ ap (λ (z : Option ℕ). is_some z) c.begin_if-next.ensures.answer ∙ some_call next in
    let some : 0 < length cell.inner.queue = (let a = c.waiting.ensures.count in omega arith) in
    rw (c.begin_if-next.ensures.cell, active) (write_with_calls c.self.inside.slots c.self.inside.places.entries (slot_of c.self.inside.calls) c.self.inside.count k c.args.slot cell e x refl
    (closed_settled cell c.args.may_begin (k.settled c.args.slot cell e) closing some) (begins_keeps c.args.may_begin cell.inner))

pub returns : goal.returns
returns c =
    let k = c.self.invariant in
    let cell = c.hashed.inside.cell in
    let next = next_call c.args.may_begin cell.inner in
    let x = closed_cell cell c.args.may_begin in
    let e : get c.self.inside.slots c.args.slot ≡ Some cell = sym c.get_mut.ensures.value ∙ ap (λ o. option_copied_mut o) c.in-Some.is ∙ ap (λ z. Some z) (sym c.hashed.view_is) in
    let closing = rw e at (rw (← c.self.view_is) at c.requires) in
    let active : c.is_some-hashed-inside.result ≡ is_some next = c.is_some-hashed-inside.ensures ∙ ap (λ (z : Option ℕ). is_some z) c.begin_if-next.ensures.answer ∙ some_call next in
    let some : 0 < length cell.inner.queue = (let a = c.waiting.ensures.count in omega arith) in
    rw (← c.self.view_is, e, c.begin_if-next.ensures.cell, active) (
      c.begin_if-next.ensures.answer,
      write_keeps c.self.inside.slots c.self.inside.places.entries (slot_of c.self.inside.calls) c.self.inside.count k c.args.slot cell e x refl (closed_settled cell c.args.may_begin (k.settled c.args.slot cell e) closing some),
    )
