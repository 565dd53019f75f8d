use Rattle.server_ports.proofs.works.keep_at.Given as goal

abbrev pub invariant-loop : goal.invariant-loop
invariant-loop g l = g.V.Service.admits l.service l.pass
