use Rattle.std.proofs.Common.{◌≡◌, ◌+◌, ◌-◌, ◌++◌, List, [], ◌∷◌, refl, sym, ap, ◌∙◌, subst, arith, append_assoc}
use Rattle.std.specs.Prelude.{Option, Some, IsSome, Result, Ok, Err, OnOk, map}
use Rattle.lists_and_limits.specs.declared.memory.OutOfMemory.{OutOfMemory}
use Rattle.part_model.specs.Part.{PartState, receipt_of, ring_owner}
use Rattle.part_model.specs.Receipts.{ReceiptState}
use Rattle.cluster_parts.specs.Layout.{segment}
use Rattle.cluster_parts.proofs.Scans.{segment-next}
use Rattle.cluster_parts.proofs.Steps.{part_at}
use Rattle.cluster_parts.proofs.parts.Parts.«+add_receipts».Goals as goal

some_same : (a b : ReceiptState) → Some a ≡ Some b → a ≡ b
some_same a b e = cc

on_ok : (r : Result (Unit {0}) OutOfMemory) (xs ys zs : List ReceiptState) → OnOk r (xs ≡ ys) → ys ≡ zs → OnOk r (xs ≡ zs)
on_ok (Ok u) xs ys zs h e = h ∙ e
on_ok (Err u) xs ys zs h e = tt

pub unwrap-requires : goal.unwrap-requires
unwrap-requires t c = (let h = part_at c.args.self.now.parts c.args.at (omega arith) in subst (λ (o : Option ReceiptState). IsSome o) (sym (c.receipt_at.ensures.receipt h.0 h.1)) refl)

pub overflow_add-at : goal.overflow_add-at
overflow_add-at t c = omega arith

pub returns-clause-added : goal.returns-clause-added
returns-clause-added t c =
    let ps = c.args.self.now.parts in
    let h = part_at ps c.args.at (omega arith) in
    let told = c.receipt_at.ensures.receipt h.0 h.1 in
    let one : c.unwrap.result ≡ receipt_of ring_owner h.0 = some_same c.unwrap.result (receipt_of ring_owner h.0) (sym c.unwrap.ensures ∙ told) in
    let next : segment ps c.args.at c.args.count ≡ h.0 ∷ segment ps (c.args.at + 1) (c.args.count - 1) = segment-next ps c.args.at c.args.count h.0 h.1 (λ e. omega arith) in
    on_ok c.add_receipts.result c.add_receipts.new.receipts.items _ _ c.add_receipts.ensures.added
    ((λ i. c.in_ok-push.ensures.items i ++ map (receipt_of ring_owner) (segment (c.receipt_at.ensures.same i).parts (c.args.at + 1) (c.args.count - 1)))
    ∙ append_assoc c.args.receipts.now.items (c.unwrap.result ∷ []) (map (receipt_of ring_owner) (segment ps (c.args.at + 1) (c.args.count - 1)))
    ∙ ap (λ (r : ReceiptState). c.args.receipts.now.items ++ (r ∷ map (receipt_of ring_owner) (segment ps (c.args.at + 1) (c.args.count - 1)))) one
    ∙ ap (λ (xs : List PartState). c.args.receipts.now.items ++ map (receipt_of ring_owner) xs) (sym next))
