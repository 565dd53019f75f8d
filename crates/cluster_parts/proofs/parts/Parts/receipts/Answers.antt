use Rattle.std.proofs.Common.{◌≡◌, ◌<◌, ◌++◌, ℕ, List, length, sym, ap, ◌∙◌, subst, arith}
use Rattle.std.specs.Prelude.{map}
use Rattle.std.proofs.lemmas.List.{length-map}
use Rattle.part_model.specs.Part.{receipt_of, ring_owner}
use Rattle.part_model.specs.Receipts.{ReceiptState}
use Rattle.part_model.specs.Acks.{other_place}
use Rattle.cluster_model.specs.World.{key_part, receipts_of}
use Rattle.cluster_parts.specs.Layout.{segment}
use Rattle.cluster_parts.specs.Views.{PartsView, state_in}
use Rattle.cluster_parts.proofs.Scans.{booted-none, booted-first, first-within, receipts-first, others-first, length-receipts}
use Rattle.cluster_parts.proofs.parts.Parts.receipts.Goals as goal

pub add_receipts-requires : goal.add_receipts-requires
add_receipts-requires c =
    let v = c.args.self.now in
    let per : c.add_receipts.inside.per ≡ v.per = ap (λ (z : PartsView). z.per) c.add_receipts.view_is in
    let many : length (map state_in c.add_receipts.inside.items.items) ≡ length v.parts = ap (λ (z : PartsView). length z.parts) c.add_receipts.view_is in
    let within = first-within v.parts c.args.member.now v.per c.in-Some.first c.in-Some.ensures.found in
    record { within = omega arith; fits = omega (arith, length-map c.add_receipts.inside.items.items state_in, c.add_receipts.inside.items.ok.0) }

pub returns-in-None-clause-stranger : goal.returns-in-None-clause-stranger
returns-in-None-clause-stranger c = booted-none c.args.member.now c.args.self.now.parts c.in-None.ensures.found

pub returns-in_ok-add_receipts-in-Some-clause-all : goal.returns-in_ok-add_receipts-in-Some-clause-all
returns-in_ok-add_receipts-in-Some-clause-all c =
    let v = c.args.self.now in
    let m = c.args.member.now in
    let f = c.in-Some.ensures.found in
    let added : c.add_receipts-in-Some.new.receipts.items ≡ receipts_of ring_owner key_part v.parts m =
    c.in_ok-add_receipts-in-Some.ensures.added ∙ (λ i. c.new-receipts.ensures.items i ++ map (receipt_of ring_owner) (segment v.parts c.in-Some.first (c.add_receipts.view_is i).per))
    ∙ sym (receipts-first v.parts m v.per c.in-Some.first f) in
    record {
      booted = booted-first v.parts m v.per c.in-Some.first f;
      all = added;
      own = ap (λ (rs : List ReceiptState). other_place m 0 rs) added ∙ others-first v.parts m v.per c.in-Some.first f;
      some = subst (λ (n : ℕ). 0 < n) (sym (ap (λ (rs : List ReceiptState). length rs) added ∙ length-receipts v.parts m v.per c.in-Some.first f)) f.some;
    }
