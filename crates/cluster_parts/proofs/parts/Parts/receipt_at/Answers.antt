use Rattle.std.proofs.Common.{◌≡◌, ◌<◌, length, Some, sym, ap, ◌∙◌, subst}
use Rattle.std.specs.Prelude.{slice_get}
use Rattle.part_model.specs.declared.event.Reply.TheVariants as replies
use Rattle.part_model.specs.Part.{PartState, receipt_of, ring_owner}
use Rattle.part_model.specs.Receipts.{ReceiptState}
use Rattle.cluster_parts.specs.Views.{PartsView}
use Rattle.cluster_parts.proofs.Steps.{part_at, locks_same, locks_told, locks_stopped, stops_told, stopped_receipt}
use Rattle.cluster_parts.proofs.parts.Parts.receipt_at.Goals as goal

pub returns-in-TableStep-clause-same : goal.returns-in-TableStep-clause-same
returns-in-TableStep-clause-same c = locks_same c.step_at.result c.args.at c.args.self.now c.step_at.new.self c.requires c.step_at.ensures.step

pub returns-in-TableStep-clause-receipt : goal.returns-in-TableStep-clause-receipt
returns-in-TableStep-clause-receipt c p e =
    ap (λ (r : ReceiptState). Some r) (locks_told c.step_at.result c.args.at c.args.self.now c.step_at.new.self c.in-TableStep.receipt c.in-TableStep.changed c.step_at.ensures.step c.in-TableStep.is p e)

pub step_at-requires-in_default : goal.step_at-requires-in_default
step_at-requires-in_default c =
    record {
      place = subst (λ (v : PartsView). c.args.at < length v.parts) (sym (locks_same c.step_at.result c.args.at c.args.self.now c.step_at.new.self c.requires c.step_at.ensures.step)) c.requires;
      range = tt;
    }

pub returns-in-StoppedNow : goal.returns-in-StoppedNow
returns-in-StoppedNow c =
    let same = locks_same c.step_at.result c.args.at c.args.self.now c.step_at.new.self c.requires c.step_at.ensures.step in
    let stops : (p : PartState) → slice_get c.args.self.now.parts c.args.at ≡ Some p → (c.step_at-in_default.result ≡ replies.StoppedNow (receipt_of ring_owner p)) × (c.step_at-in_default.new.self ≡ c.step_at.new.self) =
    λ p e. stops_told c.step_at-in_default.result c.args.at c.step_at.new.self c.step_at-in_default.new.self p c.step_at-in_default.ensures.step (ap (λ (v : PartsView). slice_get v.parts c.args.at) same ∙ e)
    (locks_stopped c.step_at.result c.args.at c.args.self.now c.step_at.new.self c.step_at.ensures.step c.in_default.not-TableStep p e) in
    record {
      same = (let h = part_at c.args.self.now.parts c.args.at c.requires in (stops h.0 h.1).1 ∙ same);
      receipt = λ p e. ap (λ (r : ReceiptState). Some r) (stopped_receipt c.in-StoppedNow.receipt (receipt_of ring_owner p) (sym c.in-StoppedNow.is ∙ (stops p e).0));
    }

pub returns : goal.returns
returns c =
    let same = locks_same c.step_at.result c.args.at c.args.self.now c.step_at.new.self c.requires c.step_at.ensures.step in
    let h = part_at c.args.self.now.parts c.args.at c.requires in
    let t = stops_told c.step_at-in_default.result c.args.at c.step_at.new.self c.step_at-in_default.new.self h.0 c.step_at-in_default.ensures.step (ap (λ (v : PartsView). slice_get v.parts c.args.at) same ∙ h.1)
    (locks_stopped c.step_at.result c.args.at c.args.self.now c.step_at.new.self c.step_at.ensures.step c.in_default.not-TableStep h.0 h.1) in
    absurd (c.in_default-step_at.not-StoppedNow (receipt_of ring_owner h.0) t.0)
