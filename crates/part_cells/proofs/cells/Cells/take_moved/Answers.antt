use Rattle.std.proofs.Common.{◌≡◌, ◌⊎◌, ℕ, ◌-◌, ◌<◌, Bool, true, false, length, Some, None, refl, sym, ap, subst, ◌∙◌, inl, inr, arith}
use Rattle.std.specs.Prelude.{◌&&◌, not, nat_le, if◌then◌else◌}
use Rattle.std.specs.Option.{option_copied_mut}
use Rattle.std.specs.BTreeMap.{is_at}
use Rattle.std.specs.Map.{remove_entry}
use Rattle.std.proofs.lemmas.Bool.{and_parts, cond-false, leb-true, leb-false}
use Rattle.slab.specs.Slab.{get}
use Rattle.actor_names.specs.Same.{key_cmp}
use Rattle.turn_core.specs.Cell.{cell_poll}
use Rattle.turn_core.proofs.Leaves.{polled_leaves}
use Rattle.part_model.specs.declared.actor_cell.ActorCell.{ActorCell}
use Rattle.part_model.specs.Cells.{is_kept, put_cell, drop_cell}
use Rattle.part_cells.specs.Slots.{slot_of, cells_in, AreSlotsKept, IsSettled}
use Rattle.part_cells.proofs.Keeping.{kept_dropped, dropped}
use Rattle.part_cells.proofs.Writes.{within, written, write_keeps, write_left}
use Rattle.part_cells.proofs.Settled.{not_both, polled_settled, polled_unkept, polled_only, polled_one}
use Rattle.part_cells.proofs.cells.Cells.take_moved.Goals as goal

-- if it isn't the last one, the cell is active or another call waits
stays : (active : Bool) (n : ℕ) → (not active && nat_le n 1) ≡ false → (active ≡ true) ⊎ (1 < n)
stays true n e = inl refl
stays false n e = inr (leb-false n 1 e)

pub overflow_sub-self : goal.overflow_sub-self
overflow_sub-self c =
    let cell = c.in-Some.hashed.now in
    let e : get c.self.inside.slots c.args.slot ≡ Some cell = sym c.get_mut.ensures.value ∙ ap (λ o. option_copied_mut o) c.in-Some.is in
    let moved = rw e at (rw (← c.self.view_is) at c.requires) in
    let w = within c.self.inside.slots c.self.inside.places.entries (slot_of c.self.inside.calls) c.self.inside.count c.self.invariant c.args.slot cell e in
    let l = (polled_leaves cell.inner c.args.call moved).fewer in
    omega arith

pub invariant_of-self-then-is_last : goal.invariant_of-self-then-is_last
invariant_of-self-then-is_last c =
    let S = c.self.inside.slots in
    let ps = c.self.inside.places.entries in
    let look = slot_of c.self.inside.calls in
    let n = c.self.inside.count in
    let k = c.self.invariant in
    let cell = c.in-Some.hashed.now in
    let e : get S c.args.slot ≡ Some cell = sym c.get_mut.ensures.value ∙ ap (λ o. option_copied_mut o) c.in-Some.is in
    let moved = rw e at (rw (← c.self.view_is) at c.requires) in
    let s = k.settled c.args.slot cell e in
    let h = and_parts (not cell.active) (nat_le (length cell.inner.queue) 1) (sym (c.is_last.ensures ∙ ap (λ (z : ActorCell). not z.active && nat_le (length z.inner.queue) 1) c.hashed.view_is) ∙ c.if-is_last.true) in
    let idle = not_both cell.active h.0 in
    let last = leb-true (length cell.inner.queue) 1 h.1 in
    let w = written S ps look n k c.args.slot cell e cell refl in
    let u = c.drop_at.ensures.slots in
    let places : c.drop_at.new.places.entries ≡ remove_entry (is_at (key_cmp cell.key)) ps = rw w.changed at c.drop_at.ensures.places in
    let one = polled_one cell c.args.call s moved idle last in
    let l = within S ps look n k c.args.slot cell e in
    subst (λ qs. AreSlotsKept (get c.drop_at.new.slots) qs (slot_of c.remove.new.self) (n - 1)) (sym places)
    (kept_dropped (get S) ps look n k c.args.slot cell (get c.drop_at.new.slots) e u.changed (λ m a. u.others m a ∙ w.others m a) (slot_of c.remove.new.self) (n - 1)
    (λ m. c.remove.ensures m ∙ ap (λ b. if b then None else look m) (sym (polled_only cell c.args.call s moved idle last m)))
    (omega arith))

pub returns-then-is_last : goal.returns-then-is_last
returns-then-is_last c =
    let S = c.self.inside.slots in
    let ps = c.self.inside.places.entries in
    let look = slot_of c.self.inside.calls in
    let n = c.self.inside.count in
    let k = c.self.invariant in
    let cell = c.in-Some.hashed.now in
    let x : ActorCell = record cell { inner = (cell_poll cell.inner c.args.call).cell } in
    let e : get S c.args.slot ≡ Some cell = sym c.get_mut.ensures.value ∙ ap (λ o. option_copied_mut o) c.in-Some.is in
    let moved = rw e at (rw (← c.self.view_is) at c.requires) in
    let s = k.settled c.args.slot cell e in
    let h = and_parts (not cell.active) (nat_le (length cell.inner.queue) 1) (sym (c.is_last.ensures ∙ ap (λ (z : ActorCell). not z.active && nat_le (length z.inner.queue) 1) c.hashed.view_is) ∙ c.if-is_last.true) in
    let idle = not_both cell.active h.0 in
    let last = leb-true (length cell.inner.queue) 1 h.1 in
    let w = written S ps look n k c.args.slot cell e cell refl in
    let u = c.drop_at.ensures.slots in
    let places : c.drop_at.new.places.entries ≡ remove_entry (is_at (key_cmp cell.key)) ps = rw w.changed at c.drop_at.ensures.places in
    rw (← c.self.view_is, e) (ap (cells_in (get c.drop_at.new.slots)) places
    ∙ dropped (get S) ps look n k c.args.slot cell (get c.drop_at.new.slots) e u.changed (λ m a. u.others m a ∙ w.others m a)
    ∙ sym (cond-false (is_kept x) (put_cell (cells_in (get S) ps) x) (drop_cell (cells_in (get S) ps) cell.key) (polled_unkept cell c.args.call s moved idle last)))

pub invariant_of-self-2 : goal.invariant_of-self-2
invariant_of-self-2 c =
    let k = c.self.invariant in
    let cell = c.hashed.inside.cell in
    let x : ActorCell = record cell { inner = (cell_poll cell.inner c.args.call).cell } in
    let e : get c.self.inside.slots c.args.slot ≡ Some cell = sym c.get_mut.ensures.value ∙ ap (λ o. option_copied_mut o) c.in-Some.is ∙ ap (λ z. Some z) (sym c.hashed.view_is) in
    let moved = rw e at (rw (← c.self.view_is) at c.requires) in
    let s : IsSettled x = polled_settled cell c.args.call (k.settled c.args.slot cell e) moved (stays cell.active (length cell.inner.queue) (sym c.is_last.ensures ∙ c.if-is_last.false)) in
    let l = polled_leaves cell.inner c.args.call moved in
    let w = within c.self.inside.slots c.self.inside.places.entries (slot_of c.self.inside.calls) c.self.inside.count k c.args.slot cell e in
    let f = l.fewer in
    rw c.poll-moved.ensures.cell (write_left c.self.inside.slots c.self.inside.places.entries (slot_of c.self.inside.calls) c.self.inside.count k c.args.slot cell e x refl s c.args.call (slot_of c.remove.new.self) (c.self.inside.count - 1) l c.poll-moved.ensures.once c.remove.ensures (omega arith))

pub returns : goal.returns
returns c =
    let k = c.self.invariant in
    let cell = c.hashed.inside.cell in
    let x : ActorCell = record cell { inner = (cell_poll cell.inner c.args.call).cell } in
    let e : get c.self.inside.slots c.args.slot ≡ Some cell = sym c.get_mut.ensures.value ∙ ap (λ o. option_copied_mut o) c.in-Some.is ∙ ap (λ z. Some z) (sym c.hashed.view_is) in
    let moved = rw e at (rw (← c.self.view_is) at c.requires) in
    let s : IsSettled x = polled_settled cell c.args.call (k.settled c.args.slot cell e) moved (stays cell.active (length cell.inner.queue) (sym c.is_last.ensures ∙ c.if-is_last.false)) in
    rw (← c.self.view_is, e, c.poll-moved.ensures.cell) (write_keeps c.self.inside.slots c.self.inside.places.entries (slot_of c.self.inside.calls) c.self.inside.count k c.args.slot cell e x refl s)
