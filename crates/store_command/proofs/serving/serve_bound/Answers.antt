use Rattle.store_command.specs.declared.command.StoreEnd.TheVariants as ends
use Rattle.store_command.proofs.Kept.{lost, served_with, unserved}
use Rattle.store_command.proofs.serving.serve_bound.Goals as goal

pub returns-in-Err-clause-ran : goal.returns-in-Err-clause-ran
returns-in-Err-clause-ran g c = lost c.args.store _ _ c.done_port-2.ensures.hands

pub returns-in-Ok-clause-ran : goal.returns-in-Ok-clause-ran
returns-in-Ok-clause-ran g c =
    let led = rw c.in-Ok.is at c.serve_store-port.ensures.history in
    served_with c.group_law.ensures.flattens c.args.store c.in-Ok.served.store led.0 c.ended.result _ _ _ c.requires.stands led.1 c.ended.ensures.opened c.done_port-2.ensures.hands c.ended.ensures.hands

pub returns-in_default-clause-ran : goal.returns-in_default-clause-ran
returns-in_default-clause-ran g c =
    unserved c.group_law.ensures.flattens c.args.store ends.OutOfMemory _ _ _ c.requires.stands tt c.done_port.ensures.hands c.give_back.ensures.hands
