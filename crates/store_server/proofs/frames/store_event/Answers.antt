use Rattle.std.proofs.Common.{subst}
use Rattle.frame_wire.specs.Frames.{payload}
use Rattle.store_server.proofs.Framed.{command_may, transaction_may}
use Rattle.store_server.proofs.frames.store_event.Goals as goal

pub returns-in-Command-clause-takes : goal.returns-in-Command-clause-takes
returns-in-Command-clause-takes c = command_may c.in-Command.command c.args.now (subst payload.Fits c.in-Command.is c.requires.sent.0) c.requires.early

pub returns-in-FencedTx-clause-takes : goal.returns-in-FencedTx-clause-takes
returns-in-FencedTx-clause-takes c =
    let tx = c.in-FencedTx in transaction_may tx.epoch tx.stamp tx.actor tx.ops c.args.now (subst payload.Fits tx.is c.requires.sent.0) c.requires.early
