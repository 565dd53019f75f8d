use Rattle.std.proofs.Common.{◌≡◌, ◌<◌, ◌≤◌}
use Rattle.std.specs.Prelude.{IsSome}
use Rattle.server_ports.specs.declared.accept.ServerEnd.TheVariants.{PortFault, Served}
use Rattle.server_ports.proofs.accept.fn.accept_all.scope.Given as goal

abbrev pub invariant-loop : goal.invariant-loop
invariant-loop g l =
    g.V.Service.admits l.service l.pass
    × (g.L.Listen.listen_faults l.initial.port ≤ g.L.Listen.listen_faults l.port)
    × (l.end ≡ PortFault → g.L.Listen.listen_faults l.initial.port < g.L.Listen.listen_faults l.port)
    × (l.end ≡ Served → IsSome l.most)

abbrev pub invariant-loop-2 : goal.invariant-loop-2
invariant-loop-2 g l = g.V.Service.admits l.service l.pass × g.F.Fn.pre l.job.0.now (l.job.1, (l.job.2, tt))
