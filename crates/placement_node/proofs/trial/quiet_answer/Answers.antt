use Rattle.std.proofs.Common.{◌≤◌, length, subst, arith}
use Rattle.round_core.specs.declared.event.PlaceEvent.TheVariants as events
use Rattle.placement_node.specs.Ranges.{EventFits}
use Rattle.placement_node.proofs.Sent.{event_named}
use Rattle.placement_node.proofs.Quiet.{quiet_numbers, quiet_made}
use Rattle.placement_node.proofs.trial.quiet_answer.Goals as goal

pub reply_of-requires-clause-named : goal.reply_of-requires-clause-named
reply_of-requires-clause-named c =
    let m = c.in_ok-member.member in
    event_named (events.Beat m) (subst EventFits c.in_ok-member.ensures c.requires.sent)

pub reply_of-requires-clause-numbers : goal.reply_of-requires-clause-numbers
reply_of-requires-clause-numbers c =
    let s = c.args.placement.now.state in
    let m = c.in_ok-member.member in
    let few : length s.rooms ≤ 64 = omega (arith, c.rooms-rooms.ensures.count, c.rooms-rooms.ensures.within) in
    quiet_numbers s m c.in_ok-reply.reply c.in_ok-reply.ensures (subst EventFits c.in_ok-member.ensures c.requires.sent) c.requires.kept few

pub returns : goal.returns
returns c =
    quiet_made c.args.placement.now.state c.args.event.now c.in_ok-member.member c.in_ok-reply.reply c.reply_of.result c.in_ok-member.ensures c.in_ok-reply.ensures c.reply_of.ensures.is c.reply_of.ensures.sent
