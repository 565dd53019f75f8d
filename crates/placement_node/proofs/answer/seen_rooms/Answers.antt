use Rattle.std.proofs.Common.{◌∙◌, arith}
use Rattle.placement_node.proofs.Reading.{seen_more}
use Rattle.placement_node.proofs.answer.seen_rooms.Goals as goal

pub loop-at-preserved : goal.loop-at-preserved
loop-at-preserved c =
    c.in_ok-push.ensures.items
    ∙ seen_more c.args.placement.now.state.rooms c.loop-at.at c.loop-at.items.items c.in_ok-seen_at.field-0 (omega (arith, c.rooms-count.ensures.count, c.loop-at-test.true)) c.in_ok-seen_at.ensures c.loop-at.invariant
