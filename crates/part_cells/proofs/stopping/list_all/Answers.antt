use Rattle.std.proofs.Common.{◌≡◌, ℕ, [], ◌∷◌, ◌++◌, ◌+◌, List, length, sym, ap, ◌∙◌, append_assoc, arith, length-append}
use Rattle.std.proofs.lemmas.List.{append-nil}
use Rattle.slab.specs.Slab.{get}
use Rattle.actor_names.specs.declared.actor_key.ActorKey.{ActorKey}
use Rattle.part_model.specs.Cells.{calls_in, total_calls}
use Rattle.part_cells.specs.Slots.{cells_in, each_list, list_at, open_calls}
use Rattle.part_cells.proofs.SlotPasses.{each_list-found, total-found, list_short, open_calls-short}
use Rattle.part_cells.proofs.stopping.list_all.Goals as goal

pub list_slot-requires : goal.list_slot-requires
list_slot-requires c =
    let at = get c.args.slots.now in
    let p : ActorKey × ℕ = (c.in-Some.field-0-0.now, c.in-Some.slot.now) in
    let rest : c.loop-slot.slot-iterator ≡ p ∷ c.next.new.self = c.in-Some.ensures.steps in
    let t = ap (λ ps. total_calls (cells_in at ps)) rest in
    let f = total-found calls_in (at p.1) (cells_in at c.next.new.self) in
    let m = c.loop-slot.invariant.1 in
    omega arith

pub returns : goal.returns
returns c =
    let at = get c.args.slots.now in
    let none : c.loop-slot.slot-iterator ≡ [] = c.in-None.ensures.steps.0 in
    sym (append-nil c.loop-slot.calls.items) ∙ sym (ap (λ ps. c.loop-slot.calls.items ++ each_list open_calls (cells_in at ps)) none) ∙ c.loop-slot.invariant.0

pub loop-slot-preserved : goal.loop-slot-preserved
loop-slot-preserved c =
    let at = get c.args.slots.now in
    let p : ActorKey × ℕ = (c.in-Some.field-0-0.now, c.in-Some.slot.now) in
    let rest : c.loop-slot.slot-iterator ≡ p ∷ c.next.new.self = c.in-Some.ensures.steps in
    let t = ap (λ ps. total_calls (cells_in at ps)) rest in
    let f = total-found calls_in (at p.1) (cells_in at c.next.new.self) in
    let m = c.loop-slot.invariant.1 in
    let q = ap (λ (l : List ℕ). length l) c.list_slot.ensures.calls in
    let n : length (c.loop-slot.calls.items ++ list_at open_calls (at p.1)) ≡ length c.loop-slot.calls.items + length (list_at open_calls (at p.1)) = simp length-append in
    let s = list_short open_calls open_calls-short (at p.1) in
    let r = c.list_slot.ensures.room in (
      (λ i. c.list_slot.ensures.calls i ++ each_list open_calls (cells_in at c.next.new.self))
          ∙ append_assoc c.loop-slot.calls.items (list_at open_calls (at p.1)) (each_list open_calls (cells_in at c.next.new.self))
          ∙ ap (λ (ns : List ℕ). c.loop-slot.calls.items ++ ns) (sym (each_list-found open_calls (at p.1) (cells_in at c.next.new.self)) ∙ sym (ap (λ ps. each_list open_calls (cells_in at ps)) rest))
          ∙ c.loop-slot.invariant.0,
      omega arith,
    )
