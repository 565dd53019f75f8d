use Rattle.std.proofs.Common.{ℕ, List, length, ◌≤◌, sym, ap, ◌∙◌, subst, arith}
use Rattle.round_core.specs.declared.event.PlaceReply.{PlaceReply}
use Rattle.wire_fields.specs.Parts.{space_name}
use Rattle.placement_core.specs.Placement.{PlacementState}
use Rattle.placement_core.specs.Views.{GivesStep, LeavesRecord, PlacementView}
use Rattle.placement_node.specs.Ranges.{NumbersFit, StateFits}
use Rattle.placement_node.specs.Replies.{event_space, reply_of}
use Rattle.placement_node.proofs.Rooms.{state_fits}
use Rattle.placement_node.proofs.Sent.{event_named, numbers_fit}
use Rattle.placement_node.proofs.Steps.{gives_done, tries_done}
use Rattle.placement_node.proofs.trial.try_step.Goals as goal

pub reply_of-requires-clause-named : goal.reply_of-requires-clause-named
reply_of-requires-clause-named c = subst space_name.Fits (sym c.event_space-space.ensures) (event_named c.args.event c.requires.sent)

pub reply_of-requires-clause-kept : goal.reply_of-requires-clause-kept
reply_of-requires-clause-kept c =
    let s = c.args.placement.now.state in
    let gives = subst (λ (x : PlacementState). GivesStep c.args.event c.args.now c.step.result x c.step.new.self.state) (ap (λ (p : PlacementView). p.state) c.in-Ok.ensures.same) c.step.ensures.gives in
    let given = gives_done c.args.event c.args.now c.step.result s c.step.new.self.state c.in_ok-reply.ensures.1 gives in
    subst StateFits (sym given.1) (state_fits s c.args.event c.args.now c.requires.sent c.requires.kept)

pub reply_of-requires-clause-numbers : goal.reply_of-requires-clause-numbers
reply_of-requires-clause-numbers c =
    let s = c.args.placement.now.state in
    let few : length s.rooms ≤ 64 = omega (arith, c.rooms-rooms.ensures.count, c.rooms-rooms.ensures.within) in
    let gives = subst (λ (x : PlacementState). GivesStep c.args.event c.args.now c.step.result x c.step.new.self.state) (ap (λ (p : PlacementView). p.state) c.in-Ok.ensures.same) c.step.ensures.gives in
    let given = gives_done c.args.event c.args.now c.step.result s c.step.new.self.state c.in_ok-reply.ensures.1 gives in
    subst NumbersFit (sym (c.in_ok-reply.ensures.0 ∙ given.0)) (numbers_fit s c.args.event c.args.now c.requires.sent c.requires.kept few)

pub returns-in-Ok-reply_of : goal.returns-in-Ok-reply_of
returns-in-Ok-reply_of c =
    let s = c.args.placement.now.state in
    let trial = c.step.new.self in
    let few : length s.rooms ≤ 64 = omega (arith, c.rooms-rooms.ensures.count, c.rooms-rooms.ensures.within) in
    let same = ap (λ (p : PlacementView). p.state) c.in-Ok.ensures.same in
    let gives = subst (λ (x : PlacementState). GivesStep c.args.event c.args.now c.step.result x trial.state) same c.step.ensures.gives in
    let leaves = subst (λ (x : PlacementState). LeavesRecord c.args.event c.args.now c.step.result x trial.recent) same c.step.ensures.recent in
    let is = c.in-Ok-reply_of.ensures.is ∙ ap (λ (x : List ℕ). reply_of trial.state x c.in_ok-reply.reply) c.event_space-space.ensures ∙ ap (λ (r : PlaceReply). reply_of trial.state (event_space c.args.event) r) c.in_ok-reply.ensures.0 in
    tries_done c.args.event c.args.now s trial c.step.result c.in-Ok-reply_of.answer c.requires.sent c.requires.kept few c.in_ok-reply.ensures.1 gives leaves is c.in-Ok-reply_of.ensures.sent c.rooms-rooms-2.ensures.order
