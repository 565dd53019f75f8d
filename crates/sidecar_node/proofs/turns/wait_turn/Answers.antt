use Rattle.std.proofs.Common.{[]}
use Rattle.sidecar_node.proofs.Makings.{makes_none, first_spent, first_other, first_waits}
use Rattle.sidecar_node.proofs.turns.wait_turn.Goals as goal

pub returns-in-Err-clause-follows : goal.returns-in-Err-clause-follows
returns-in-Err-clause-follows g c = ([], makes_none c.args.seat, first_spent c.args.first c.in-Err.spent c.in-Err.is)

pub returns-in-Waits-clause-follows : goal.returns-in-Waits-clause-follows
returns-in-Waits-clause-follows g c =
    let f = c.poll_turn.ensures.polls in
    (f.0, f.1, first_waits c.args.first c.in-Ok.reply c.in-Waits.call _ f.0 c.poll_turn.result.1 c.in-Ok.is c.in-Waits.is f.2)

pub returns-in_default-clause-follows : goal.returns-in_default-clause-follows
returns-in_default-clause-follows g c = ([], makes_none c.args.seat, first_other c.args.first c.in-Ok.reply c.in-Ok.is c.in_default.not-Waits)
