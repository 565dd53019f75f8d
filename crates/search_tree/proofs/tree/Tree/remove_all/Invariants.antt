use Rattle.std.proofs.Common.{◌≡◌, length}
use Rattle.lists_and_limits.specs.Cuts.{IsRun}
use Rattle.lists_and_limits.specs.Lists.{without_all}
use Rattle.search_tree.proofs.tree.Tree.remove_all.Given as goal

abbrev pub invariant-loop : goal.invariant-loop
invariant-loop g l = record {
  run : IsRun (g.P.Probe.at l.probe) l.self;
  rest : without_all (g.P.Probe.at l.probe) l.self ≡ without_all (g.P.Probe.at l.probe) l.initial.self;
}

abbrev pub decreases-loop : goal.decreases-loop
decreases-loop g l = length l.self
