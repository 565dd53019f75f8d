use Rattle.std.proofs.Common.{◌≡◌, ◌≢◌, ◌≤◌, ◌+◌, ◌-◌, ℕ, Bool, true, false, List, length, refl, sym, ap, ◌∙◌, subst, arith}
use Rattle.std.specs.Prelude.{Option, Some, IsSome, slice_get, ◌&&◌}
use Rattle.part_model.specs.Part.{PartState, receipt_of, ring_owner}
use Rattle.part_model.specs.declared.stage.SeenStage.{SeenStage}
use Rattle.part_model.specs.declared.stage.SeenStage.TheVariants as seen
use Rattle.part_model.specs.Acks.{is_stopped_stage}
use Rattle.part_model.specs.Receipts.{ReceiptState}
use Rattle.cluster_parts.specs.Layout.{segment, are_all_stopped}
use Rattle.cluster_parts.specs.Views.{PartsView}
use Rattle.cluster_parts.proofs.Scans.{segment-next, stopped_receipt_is}
use Rattle.cluster_parts.proofs.Steps.{part_at}
use Rattle.cluster_parts.proofs.parts.Parts.«+stopped_from».Goals as goal

pub unwrap-receipt-requires : goal.unwrap-receipt-requires
unwrap-receipt-requires t c = (let h = part_at c.args.self.now.parts c.args.at (omega arith) in subst (λ (o : Option ReceiptState). IsSome o) (sym (c.receipt_at.ensures.receipt h.0 h.1)) refl)

pub overflow_add-at : goal.overflow_add-at
overflow_add-at t c = omega arith

-- what the first receipt says of all
first_told : (ps : List PartState) (at count : ℕ) (r : ReceiptState) (o : Option ReceiptState) → at + count ≤ length ps → count ≢ 0 → o ≡ Some r → ((p : PartState) → slice_get ps at ≡ Some p → o ≡ Some (receipt_of ring_owner p)) →
    are_all_stopped (segment ps at count) ≡ (is_stopped_stage r.stage && are_all_stopped (segment ps (at + 1) (count - 1)))
first_told ps at count r o l some e told =
    let h = part_at ps at (omega arith) in
    let one : receipt_of ring_owner h.0 ≡ r = some_same (receipt_of ring_owner h.0) r (sym (told h.0 h.1) ∙ e) in
    ap are_all_stopped (segment-next ps at count h.0 h.1 some)
    ∙ ap (λ (b : Bool). b && are_all_stopped (segment ps (at + 1) (count - 1))) (sym (stopped_receipt_is h.0) ∙ ap (λ (z : ReceiptState). is_stopped_stage z.stage) one)
  where
    some_same : (a b : ReceiptState) → Some a ≡ Some b → a ≡ b
    some_same a b e = cc

not_stopped : (s : SeenStage) → (s ≡ seen.Stopped → ⊥) → is_stopped_stage s ≡ false
not_stopped seen.Stopped n = absurd (n refl)
not_stopped seen.Locked n = refl
not_stopped seen.Draining n = refl
not_stopped seen.Drained n = refl
not_stopped seen.Open n = refl

pub returns-in-Stopped-clause-stopped : goal.returns-in-Stopped-clause-stopped
returns-in-Stopped-clause-stopped t c =
    let ps = c.args.self.now.parts in
    let told = first_told ps c.args.at c.args.count c.unwrap-receipt.result c.receipt_at.result c.requires.within (λ e. omega arith) c.unwrap-receipt.ensures c.receipt_at.ensures.receipt in
    let stage : is_stopped_stage c.unwrap-receipt.result.stage ≡ true = ap is_stopped_stage (sym c.stage.ensures ∙ c.in-Stopped.is) in
    c.stopped_from.ensures.stopped ∙ ap (λ (v : PartsView). are_all_stopped (segment v.parts (c.args.at + 1) (c.args.count - 1))) c.receipt_at.ensures.same
    ∙ sym (told ∙ ap (λ (b : Bool). b && are_all_stopped (segment ps (c.args.at + 1) (c.args.count - 1))) stage)

pub returns-in_default : goal.returns-in_default
returns-in_default t c =
    let ps = c.args.self.now.parts in
    let told = first_told ps c.args.at c.args.count c.unwrap-receipt.result c.receipt_at.result c.requires.within (λ e. omega arith) c.unwrap-receipt.ensures c.receipt_at.ensures.receipt in
    let stage : is_stopped_stage c.unwrap-receipt.result.stage ≡ false = ap is_stopped_stage (sym c.stage.ensures) ∙ not_stopped c.stage.result c.in_default.not-Stopped in
    record { same = c.receipt_at.ensures.same; stopped = sym (told ∙ ap (λ (b : Bool). b && are_all_stopped (segment ps (c.args.at + 1) (c.args.count - 1))) stage) }
