use Rattle.std.proofs.Common.{◌≡◌, ◌-◌, Some, None, is_some, refl, sym, ap, ◌∙◌, arith}
use Rattle.std.specs.Prelude.{if◌then◌else◌}
use Rattle.std.specs.Option.{option_copied_mut}
use Rattle.std.proofs.lemmas.Bool.{or_left}
use Rattle.slab.specs.Slab.{get}
use Rattle.turn_core.specs.Cell.{has_turn, waiter_of, turn_calls, without_turns}
use Rattle.turn_core.proofs.Leaves.{stopped_queue, stopped_others}
use Rattle.part_model.specs.declared.actor_cell.ActorCell.{ActorCell}
use Rattle.part_model.specs.Cells.{calls_in}
use Rattle.part_cells.specs.Slots.{slot_of, is_among, number_at}
use Rattle.part_cells.proofs.Writes.{within, write_kept, write_still}
use Rattle.part_cells.proofs.SlotPasses.{among-turns, behind}
use Rattle.part_cells.proofs.Settled.{late_settled}
use Rattle.part_cells.proofs.draining.drain_at.Goals as goal

pub list_turns-requires : goal.list_turns-requires
list_turns-requires g c =
    let e : get c.args.slots.now c.args.slot ≡ Some c.hashed.inside.cell = sym c.get_mut.ensures.value ∙ ap (λ o. option_copied_mut o) c.in-Some.is ∙ ap (λ z. Some z) (sym c.hashed.view_is) in
    let n = ap (number_at calls_in) e in
    let r = c.requires.room in
    omega arith

pub overflow_sub-count : goal.overflow_sub-count
overflow_sub-count g c =
    let cell = c.hashed.inside.cell in
    let e : get c.args.slots.now c.args.slot ≡ Some cell = sym c.get_mut.ensures.value ∙ ap (λ o. option_copied_mut o) c.in-Some.is ∙ ap (λ z. Some z) (sym c.hashed.view_is) in
    let w = within c.args.slots.now c.args._places.now.entries (slot_of c.args.calls.now) c.args.count.now c.requires.kept c.args.slot cell e in
    let a = c.turns-over.ensures.count in
    omega arith

pub returns-clause-kept : goal.returns-clause-kept
returns-clause-kept g c =
    let cell = c.hashed.inside.cell in
    let inner = cell.inner in
    let x : ActorCell = record cell { inner = without_turns inner; last = c.max-hashed-inside.result } in
    let e : get c.args.slots.now c.args.slot ≡ Some cell = sym c.get_mut.ensures.value ∙ ap (λ o. option_copied_mut o) c.in-Some.is ∙ ap (λ z. Some z) (sym c.hashed.view_is) in
    let k = c.requires.kept in
    let w = within c.args.slots.now c.args._places.now.entries (slot_of c.args.calls.now) c.args.count.now k c.args.slot cell e in
    let a = c.turns-over.ensures.count in
    let f = c.len-from.ensures in
    rw c.end_all-ended.ensures.cell (write_kept c.args.slots.now c.args._places.now.entries (slot_of c.args.calls.now) c.args.count.now k c.args.slot cell e x refl (late_settled cell c.max-hashed-inside.result (k.settled c.args.slot cell e))
    (λ m. has_turn m inner.turns) (slot_of c.forget.new.self) (c.args.count.now - c.turns-over.result)
    (λ m h. (
      or_left (has_turn m inner.turns) (is_some (waiter_of m inner.queue)) h,
      stopped_queue m inner c.turns-over.ensures.once h,
    ))
    (λ m h. stopped_others m inner h)
    (λ m. c.forget.ensures m ∙ ap (λ b. if b then None else slot_of c.args.calls.now m) (ap (is_among m) (behind _ c.args.ended.now.items (turn_calls inner.turns) _ _ (c.as_slice.ensures.value ∙ c.list_turns.ensures.items) (omega arith) (omega arith)) ∙ among-turns m inner.turns))
    (omega arith))

-- the test doesn't hold
pub returns-then-not-holds-clause-kept : goal.returns-then-not-holds-clause-kept
returns-then-not-holds-clause-kept g c =
    let cell = c.in-Some.hashed.now in
    let e : get c.args.slots.now c.args.slot ≡ Some cell = sym c.get_mut.ensures.value ∙ ap (λ o. option_copied_mut o) c.in-Some.is in
    let k = c.requires.kept in
    write_still c.args.slots.now c.args._places.now.entries (slot_of c.args.calls.now) c.args.count.now k c.args.slot cell e cell refl (k.settled c.args.slot cell e) (λ m. refl) refl
