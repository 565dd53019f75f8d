use Rattle.store_core.proofs.Appends.{refused_written}
use Rattle.store_core.proofs.store.write.Goals as goal

pub returns-in-Err-clause-written : goal.returns-in-Err-clause-written
returns-in-Err-clause-written g c =
    rw c.refusal_by.ensures.is
    (refused_written c.args.payload.now c.args.journal.now c.append.new.self c.requires c.in-Err.error
    (record { refused = c.in-Err.ensures.refused; taken = c.in-Err.ensures.taken; crash = c.in-Err.ensures.crash; done = c.in-Err.ensures.done }))
