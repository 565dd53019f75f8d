use Rattle.actors_top.proofs.top.sidecar.Goals as goal

pub returns-clause-tells : goal.returns-clause-tells
returns-clause-tells g c = (c.run_sidecar-end.result, c.run_sidecar-end.ensures.ends, c.tell_sidecar.ensures.tells)
