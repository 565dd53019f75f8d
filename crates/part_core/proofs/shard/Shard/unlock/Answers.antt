use Rattle.std.proofs.Common.{◌≡◌, true, sym, ap, ◌∙◌, subst, arith}
use Rattle.part_core.specs.Actors.{ActorsState, state_of, view_of}
use Rattle.part_model.specs.Part.{PartStep, is_updated, receipt_of, as_open, open_part, unlock_part, ring_owner}
use Rattle.part_model.specs.Receipts.{ReceiptState}
use Rattle.part_model.specs.Rooms.{PartView, Gives}
use Rattle.part_model.specs.declared.event.Reply.TheVariants as replies
use Rattle.part_model.specs.declared.stage.Stage.TheVariants.{Open}
use Rattle.part_core.proofs.Foreigns.{dry, wet}
use Rattle.part_core.proofs.Drained.{unlock_wet, unlock_dry}
use Rattle.part_core.proofs.shard.Shard.unlock.Goals as goal

pub returns-then-self-gt0 : goal.returns-then-self-gt0
returns-then-self-gt0 c =
    let s = c.self-2.inside.standing in
    let p = state_of s c.self-2.inside.actors in
    let up : is_updated s.stage ≡ true = ap (λ (v : PartView). is_updated v.state.stage) (c.self-2.view_is ∙ sym c.self.view_is) ∙ sym c.is_updated.ensures ∙ c.if-not-is_updated.false in
    let t = unlock_wet ring_owner p c.args.version up (c.if-version-self.false ∙ ap (λ (v : PartView). v.state.seen) (c.self.view_is ∙ sym c.self-2.view_is)) (wet ring_owner p s.foreign (c.self-2.invariant.counted up) (λ z. absurd (omega arith))) in
    let gives : Gives (unlock_part ring_owner p c.args.version) (replies.NotDrained c.receipt.result) (view_of s c.forget.new.self) =
    subst (λ (x : PartStep). Gives x (replies.NotDrained c.receipt.result) (view_of s c.forget.new.self)) (sym t) (
      ap (λ (r : ReceiptState). replies.NotDrained r) (c.receipt.ensures ∙ ap (λ (a : ActorsState). receipt_of ring_owner (state_of s a)) c.forget.ensures),
      ap (λ (a : ActorsState). view_of s a) c.forget.ensures,
    )
    in
    subst (λ (v : PartView). Gives (unlock_part ring_owner v.state c.args.version) (replies.NotDrained c.receipt.result) (view_of s c.forget.new.self)) c.self-2.view_is gives

pub returns : goal.returns
returns c =
    let s = c.self-2.inside.standing in
    let p = state_of s c.self-2.inside.actors in
    let up : is_updated s.stage ≡ true = ap (λ (v : PartView). is_updated v.state.stage) (c.self-2.view_is ∙ sym c.self.view_is) ∙ sym c.is_updated.ensures ∙ c.if-not-is_updated.false in
    let t = unlock_dry ring_owner p c.args.version up (c.if-version-self.false ∙ ap (λ (v : PartView). v.state.seen) (c.self.view_is ∙ sym c.self-2.view_is)) (dry ring_owner p s.foreign (c.self-2.invariant.counted up) (omega arith)) in
    let o = c.open-opening.ensures in
    let reply = replies.Opened c.receipt-2.result c.open-opening.result.begun c.open-opening.result.moved in
    let new = view_of (record s { stage = Open; opened = s.seen }) c.open-opening.new.self in
    let gives : Gives (open_part ring_owner p) reply new = (
      λ i. replies.Opened (c.receipt-2.ensures i) (o.begun i) (o.moved i),
      λ i. record { state = record (as_open ring_owner p) { drawn = o.drawn i; cells = o.cells i }; recent = o.recent i },
    )
    in
    subst (λ (v : PartView). Gives (unlock_part ring_owner v.state c.args.version) reply new) c.self-2.view_is (subst (λ (x : PartStep). Gives x reply new) (sym t) gives)
