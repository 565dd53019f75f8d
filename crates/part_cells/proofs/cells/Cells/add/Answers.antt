use Rattle.std.proofs.Common.{◌≡◌, ◌+◌, Some, None, sym, ap, subst, ◌∙◌}
use Rattle.std.specs.BTreeMap.{insert_entry}
use Rattle.std.proofs.lemmas.Bool.{cond-true}
use Rattle.slab.specs.Slab.{Slab, get, Updates}
use Rattle.actor_names.specs.declared.actor_key.ActorKey.{ActorKey}
use Rattle.actor_names.specs.Same.{key_cmp}
use Rattle.part_model.specs.declared.actor_cell.ActorCell.{ActorCell}
use Rattle.part_model.specs.Cells.{cell_at, cell_of_call, put_cell, drop_cell, is_kept}
use Rattle.part_cells.specs.Slots.{slot_of, cells_in, AreSlotsKept}
use Rattle.part_cells.proofs.Keeping.{look_none, kept_added, added}
use Rattle.part_cells.proofs.Writes.{taken_back}
use Rattle.part_cells.proofs.cells.Cells.add.Goals as goal

pub invariant_of-self : goal.invariant_of-self
invariant_of-self c =
    let ps = c.self.inside.places.entries in
    let look = slot_of c.self.inside.calls in
    let n = c.self.inside.count in
    let same : get c.reserve.new.self ≡ get c.self.inside.slots = ap (λ (z : Slab ActorCell). get z) c.in_err-reserve.ensures.rest_kept in
    subst (λ at. AreSlotsKept at ps look n) (sym same) c.self.invariant

pub invariant_of-self-in_err-add : goal.invariant_of-self-in_err-add
invariant_of-self-in_err-add c =
    let ps = c.self.inside.places.entries in
    let n = c.self.inside.count in
    let same : get c.reserve.new.self ≡ get c.self.inside.slots = ap (λ (z : Slab ActorCell). get z) c.in_ok-reserve.ensures.rest_kept in
    rw (c.in_err-add.ensures.err) (subst (λ at. AreSlotsKept at ps (slot_of c.self.inside.calls) n) (sym same) c.self.invariant)

pub invariant_of-self-in-Ok : goal.invariant_of-self-in-Ok
invariant_of-self-in-Ok c =
    let S = c.self.inside.slots in
    let T = c.insert_reserved-slot.new.self in
    let ps = c.self.inside.places.entries in
    let look = slot_of c.self.inside.calls in
    let n = c.self.inside.count in
    let cell = c.args.cell in
    let slot = c.vacant_key-slot.result in
    let same : get c.reserve.new.self ≡ get S = ap (λ (z : Slab ActorCell). get z) c.in_ok-reserve.ensures.rest_kept in
    let u : Updates c.reserve.new.self T slot (Some cell) =
    subst (λ z. Updates c.reserve.new.self T z (Some cell)) (c.insert_reserved-slot.ensures.key ∙ sym c.vacant_key-slot.ensures.value) c.insert_reserved-slot.ensures.updates in
    let free : get S slot ≡ None = (λ i. sym same i slot) ∙ c.vacant_key-slot.ensures.vacant in
    let absent : cell_at (cells_in (get S) ps) cell.key ≡ None = ap (λ v. cell_at v.cells cell.key) c.self.view_is ∙ c.requires.absent in
    let fresh = look_none (get S) ps look n c.self.invariant c.args.call (ap (λ v. cell_of_call v.cells c.args.call) c.self.view_is ∙ c.requires.fresh) in
    let places : c.insert.new.self.entries ≡ insert_entry key_cmp ps cell.key slot =
    c.in-Ok.ensures.entries ∙ ap (λ (z : ActorKey). insert_entry key_cmp ps z slot) c.in_ok-key.ensures in
    subst (λ qs. AreSlotsKept (get T) qs (slot_of c.add.new.self) (n + 1)) (sym places)
    (kept_added (get S) ps look n c.self.invariant slot c.args.call cell (get T) free u.changed (λ m apart. u.others m apart ∙ (λ i. same i m)) absent (slot_of c.add.new.self) fresh c.in_ok-add.ensures.ok c.requires.first c.requires.one c.requires.settled)

pub invariant_of-self-in-Err-1 : goal.invariant_of-self-in-Err-1
invariant_of-self-in-Err-1 c =
    let S = c.self.inside.slots in
    let ps = c.self.inside.places.entries in
    let look = slot_of c.self.inside.calls in
    let n = c.self.inside.count in
    let same : get c.reserve.new.self ≡ get S = ap (λ (z : Slab ActorCell). get z) c.in_ok-reserve.ensures.rest_kept in
    let fresh = look_none (get S) ps look n c.self.invariant c.args.call (ap (λ v. cell_of_call v.cells c.args.call) c.self.view_is ∙ c.requires.fresh) in
    let back = taken_back c.vacant_key-slot.result c.args.call look (slot_of c.add.new.self) (slot_of c.remove.new.self) fresh c.in_ok-add.ensures.ok c.remove.ensures in
    let places : c.insert.new.self.entries ≡ ps = c.in-Err.ensures.err in
    rw (places, back) (subst (λ at. AreSlotsKept at ps look n) (sym same) c.self.invariant)

pub returns-in-Ok-clause-ok : goal.returns-in-Ok-clause-ok
returns-in-Ok-clause-ok c =
    let S = c.self.inside.slots in
    let T = c.insert_reserved-slot.new.self in
    let ps = c.self.inside.places.entries in
    let look = slot_of c.self.inside.calls in
    let n = c.self.inside.count in
    let cell = c.args.cell in
    let slot = c.vacant_key-slot.result in
    let same : get c.reserve.new.self ≡ get S = ap (λ (z : Slab ActorCell). get z) c.in_ok-reserve.ensures.rest_kept in
    let u : Updates c.reserve.new.self T slot (Some cell) =
    subst (λ z. Updates c.reserve.new.self T z (Some cell)) (c.insert_reserved-slot.ensures.key ∙ sym c.vacant_key-slot.ensures.value) c.insert_reserved-slot.ensures.updates in
    let free : get S slot ≡ None = (λ i. sym same i slot) ∙ c.vacant_key-slot.ensures.vacant in
    let absent : cell_at (cells_in (get S) ps) cell.key ≡ None = ap (λ v. cell_at v.cells cell.key) c.self.view_is ∙ c.requires.absent in
    let places : c.insert.new.self.entries ≡ insert_entry key_cmp ps cell.key slot =
    c.in-Ok.ensures.entries ∙ ap (λ (z : ActorKey). insert_entry key_cmp ps z slot) c.in_ok-key.ensures in
    rw (← c.self.view_is) (ap (cells_in (get T)) places
    ∙ added (get S) ps look n c.self.invariant slot c.args.call cell (get T) free u.changed (λ m apart. u.others m apart ∙ (λ i. same i m)) absent
    ∙ sym (cond-true (is_kept cell) (put_cell (cells_in (get S) ps) cell) (drop_cell (cells_in (get S) ps) cell.key) c.requires.settled.kept))
