use Rattle.store_command.proofs.Kept.{ends_after, unserved}
use Rattle.store_command.proofs.serving.serve_opened.Goals as goal

pub returns-in-Ok-clause-ran : goal.returns-in-Ok-clause-ran
returns-in-Ok-clause-ran g c = ends_after c.args.store c.serve_bound.result _ _ _ c.in-Ok.ensures.hands c.serve_bound.ensures.ran

pub returns-in-Err-clause-ran : goal.returns-in-Err-clause-ran
returns-in-Err-clause-ran g c =
    unserved c.group_law.ensures.flattens c.args.store c.unbound.result _ _ _ c.requires.stands c.unbound.ensures.opened c.in-Err.ensures.hands c.give_back.ensures.hands
