use Rattle.server_ports.proofs.works.turns_from.Given as goal

abbrev pub invariant-loop-work : goal.invariant-loop-work
invariant-loop-work g l = g.V.Service.admits l.service l.pass
