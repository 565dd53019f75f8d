use Rattle.std.proofs.Common.{◌≡◌, true, sym, ap, ◌∙◌, subst}
use Rattle.std.proofs.lemmas.Bool.{true≢false}
use Rattle.part_core.specs.Actors.{ActorsState, state_of, view_of}
use Rattle.part_model.specs.Part.{PartStep, is_updated, is_drained, receipt_of, tick_part, ring_owner}
use Rattle.part_model.specs.Receipts.{ReceiptState}
use Rattle.part_model.specs.Rooms.{PartView, GivesEnded}
use Rattle.part_model.specs.declared.event.Reply.TheVariants as replies
use Rattle.part_core.proofs.Foreigns.{dry}
use Rattle.part_core.proofs.Drained.{idle_tick, kept_tick}
use Rattle.part_core.proofs.shard.Shard.tick.Goals as goal
use Rattle.part_core.proofs.shard.Shard.tick.Goals.{then-not-is_updated-via-then-not-is_updated, then-not-is_updated-via-else-not-is_updated+then-self-eq0}

pub returns-then-not-is_updated : goal.returns-then-not-is_updated
returns-then-not-is_updated c =
    let s = c.self.inside.standing in
    let p = state_of s c.self.inside.actors in
    let drained : is_updated p.stage ≡ true → is_drained ring_owner p ≡ true = elim c.then-not-is_updated.branch [
      | then-not-is_updated-via-then-not-is_updated w ↦ (λ u. absurd (true≢false (sym u ∙ sym c.is_updated.ensures ∙ w.if-not-is_updated.true)))
      | then-not-is_updated-via-else-not-is_updated+then-self-eq0 w ↦ (λ u. dry ring_owner p s.foreign (c.self.invariant.counted u) w.if-self-eq0.true)
    ] in
    let t = idle_tick ring_owner p c.args.now (rw (← c.self.view_is) at c.requires) drained in
    let gives : GivesEnded (tick_part ring_owner p c.args.now) (replies.Ticked c.receipt.result 0) (view_of s c.forget.new.self) =
    subst (λ (x : PartStep). GivesEnded x (replies.Ticked c.receipt.result 0) (view_of s c.forget.new.self)) (sym t) (
      ap (λ (r : ReceiptState). replies.Ticked r 0) (c.receipt.ensures ∙ ap (λ (a : ActorsState). receipt_of ring_owner (state_of s a)) c.forget.ensures),
      ap (λ (a : ActorsState). view_of s a) c.forget.ensures,
    )
    in
    subst (λ (v : PartView). GivesEnded (tick_part ring_owner v.state c.args.now) (replies.Ticked c.receipt.result 0) (view_of s c.forget.new.self)) c.self.view_is gives

pub invariant_of-self-2 : goal.invariant_of-self-2
invariant_of-self-2 c = kept_tick c.self.inside.standing c.self.inside.actors c.tick-ended.new.self c.self.invariant c.args.now c.tick-ended.ensures.cells
