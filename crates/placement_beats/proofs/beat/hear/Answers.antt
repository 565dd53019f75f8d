use Rattle.placement_beats.proofs.Turns.{heard_fault, heard_reply}
use Rattle.placement_beats.proofs.beat.hear.Goals as goal

pub returns-in-Some-clause-hears : goal.returns-in-Some-clause-hears
returns-in-Some-clause-hears g c = heard_fault c.host.result.now c.args.node.now _ c.args.ack c.args.reply.now c.args.now c.args.book.now c.args.seats.now c.in-Some.at c.host.ensures c.in-Some.ensures

pub returns-in-None-clause-hears : goal.returns-in-None-clause-hears
returns-in-None-clause-hears g c =
    heard_reply c.host.result.now c.args.node.now _ c.args.ack c.acked_after-acked.result c.args.reply.now c.args.now c.args.book.now _ _ _ c.host.ensures c.in-None.ensures c.acked_after-acked.ensures c.obey.ensures.obeys
