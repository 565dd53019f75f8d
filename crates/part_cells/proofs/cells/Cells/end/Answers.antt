use Rattle.std.proofs.Common.{◌≡◌, ◌-◌, Some, refl, sym, ap, ◌∙◌, arith}
use Rattle.std.specs.Option.{option_copied_mut}
use Rattle.slab.specs.Slab.{get}
use Rattle.turn_core.specs.Cell.{cell_end}
use Rattle.turn_core.proofs.Leaves.{ended_open, ended_leaves, end_not, waits_not, gone_not}
use Rattle.part_model.specs.declared.actor_cell.ActorCell.{ActorCell}
use Rattle.part_cells.specs.Slots.{slot_of, IsSettled}
use Rattle.part_cells.proofs.Writes.{within, write_keeps, write_left, write_still, write_same}
use Rattle.part_cells.proofs.Settled.{turn_awake, awake_settled}
use Rattle.part_cells.proofs.cells.Cells.end.Goals as goal

pub overflow_sub-self : goal.overflow_sub-self
overflow_sub-self c =
    let cell = c.hashed.inside.cell in
    let e : get c.self.inside.slots c.args.slot ≡ Some cell = sym c.get_mut.ensures.value ∙ ap (λ o. option_copied_mut o) c.in-Some.is ∙ ap (λ z. Some z) (sym c.hashed.view_is) in
    let w = within c.self.inside.slots c.self.inside.places.entries (slot_of c.self.inside.calls) c.self.inside.count c.self.invariant c.args.slot cell e in
    let l = (ended_leaves cell.inner c.args.call c.args.may_begin c.in-Ended.next (sym c.end.ensures.answer ∙ c.in-Ended.is)).fewer in
    omega arith

pub invariant_of-self-in-Ended : goal.invariant_of-self-in-Ended
invariant_of-self-in-Ended c =
    let cell = c.hashed.inside.cell in
    let x : ActorCell = record cell { inner = (cell_end cell.inner c.args.call c.args.may_begin).cell; last = c.max-hashed-inside.result } in
    let e : get c.self.inside.slots c.args.slot ≡ Some cell = sym c.get_mut.ensures.value ∙ ap (λ o. option_copied_mut o) c.in-Some.is ∙ ap (λ z. Some z) (sym c.hashed.view_is) in
    let k = c.self.invariant in
    let w = within c.self.inside.slots c.self.inside.places.entries (slot_of c.self.inside.calls) c.self.inside.count k c.args.slot cell e in
    let answer = sym c.end.ensures.answer ∙ c.in-Ended.is in
    let l = ended_leaves cell.inner c.args.call c.args.may_begin c.in-Ended.next answer in
    let f = l.fewer in
    let s : IsSettled x = awake_settled x (turn_awake cell c.args.call (k.settled c.args.slot cell e) (ended_open cell.inner c.args.call c.args.may_begin c.in-Ended.next answer)) in
    rw c.end.ensures.cell (write_left c.self.inside.slots c.self.inside.places.entries (slot_of c.self.inside.calls) c.self.inside.count k c.args.slot cell e x refl s c.args.call (slot_of c.remove.new.self) (c.self.inside.count - 1) l c.end.ensures.once c.remove.ensures (omega arith))

pub invariant_of-self-in-AlreadyEnded : goal.invariant_of-self-in-AlreadyEnded
invariant_of-self-in-AlreadyEnded c =
    let cell = c.hashed.inside.cell in
    let x : ActorCell = record cell { inner = c.end.new.self } in
    let e : get c.self.inside.slots c.args.slot ≡ Some cell = sym c.get_mut.ensures.value ∙ ap (λ o. option_copied_mut o) c.in-Some.is ∙ ap (λ z. Some z) (sym c.hashed.view_is) in
    let k = c.self.invariant in
    let same = c.end.ensures.cell ∙ end_not cell.inner c.args.call c.args.may_begin (λ next q. gone_not next (sym c.in-AlreadyEnded.is ∙ c.end.ensures.answer ∙ q)) in
    rw same (write_still c.self.inside.slots c.self.inside.places.entries (slot_of c.self.inside.calls) c.self.inside.count k c.args.slot cell e cell refl (k.settled c.args.slot cell e) (λ m. refl) refl)

pub invariant_of-self-in-StillWaiting : goal.invariant_of-self-in-StillWaiting
invariant_of-self-in-StillWaiting c =
    let cell = c.hashed.inside.cell in
    let e : get c.self.inside.slots c.args.slot ≡ Some cell = sym c.get_mut.ensures.value ∙ ap (λ o. option_copied_mut o) c.in-Some.is ∙ ap (λ z. Some z) (sym c.hashed.view_is) in
    let k = c.self.invariant in
    let same = c.end.ensures.cell ∙ end_not cell.inner c.args.call c.args.may_begin (λ next q. waits_not next (sym c.in-StillWaiting.is ∙ c.end.ensures.answer ∙ q)) in
    rw same (write_still c.self.inside.slots c.self.inside.places.entries (slot_of c.self.inside.calls) c.self.inside.count k c.args.slot cell e cell refl (k.settled c.args.slot cell e) (λ m. refl) refl)

pub returns-in-Ended : goal.returns-in-Ended
returns-in-Ended c =
    let cell = c.hashed.inside.cell in
    let x : ActorCell = record cell { inner = (cell_end cell.inner c.args.call c.args.may_begin).cell; last = c.max-hashed-inside.result } in
    let e : get c.self.inside.slots c.args.slot ≡ Some cell = sym c.get_mut.ensures.value ∙ ap (λ o. option_copied_mut o) c.in-Some.is ∙ ap (λ z. Some z) (sym c.hashed.view_is) in
    let k = c.self.invariant in
    let answer = sym c.end.ensures.answer ∙ c.in-Ended.is in
    let s : IsSettled x = awake_settled x (turn_awake cell c.args.call (k.settled c.args.slot cell e) (ended_open cell.inner c.args.call c.args.may_begin c.in-Ended.next answer)) in
    rw (← c.self.view_is, e, c.end.ensures.cell, ← c.max-hashed-inside.ensures) (
      sym answer,
      write_keeps c.self.inside.slots c.self.inside.places.entries (slot_of c.self.inside.calls) c.self.inside.count k c.args.slot cell e x refl s,
    )

pub returns-in-AlreadyEnded : goal.returns-in-AlreadyEnded
returns-in-AlreadyEnded c =
    let cell = c.hashed.inside.cell in
    let e : get c.self.inside.slots c.args.slot ≡ Some cell = sym c.get_mut.ensures.value ∙ ap (λ o. option_copied_mut o) c.in-Some.is ∙ ap (λ z. Some z) (sym c.hashed.view_is) in
    let same = c.end.ensures.cell ∙ end_not cell.inner c.args.call c.args.may_begin (λ next q. gone_not next (sym c.in-AlreadyEnded.is ∙ c.end.ensures.answer ∙ q)) in
    rw (← c.self.view_is, e, same) (
      sym c.in-AlreadyEnded.is ∙ c.end.ensures.answer,
      write_same c.self.inside.slots c.self.inside.places.entries (slot_of c.self.inside.calls) c.self.inside.count c.self.invariant c.args.slot cell e cell refl refl,
    )

pub returns-in-StillWaiting : goal.returns-in-StillWaiting
returns-in-StillWaiting c =
    let cell = c.hashed.inside.cell in
    let e : get c.self.inside.slots c.args.slot ≡ Some cell = sym c.get_mut.ensures.value ∙ ap (λ o. option_copied_mut o) c.in-Some.is ∙ ap (λ z. Some z) (sym c.hashed.view_is) in
    let same = c.end.ensures.cell ∙ end_not cell.inner c.args.call c.args.may_begin (λ next q. waits_not next (sym c.in-StillWaiting.is ∙ c.end.ensures.answer ∙ q)) in
    rw (← c.self.view_is, e, same) (
      sym c.in-StillWaiting.is ∙ c.end.ensures.answer,
      write_same c.self.inside.slots c.self.inside.places.entries (slot_of c.self.inside.calls) c.self.inside.count c.self.invariant c.args.slot cell e cell refl refl,
    )
