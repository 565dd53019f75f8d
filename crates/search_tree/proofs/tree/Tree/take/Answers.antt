use Rattle.search_tree.proofs.Runs.{run-cut, takes-found, takes-without}
use Rattle.search_tree.proofs.tree.Tree.take.Goals as goal

pub take_one-requires : goal.take_one-requires
take_one-requires g c = run-cut (g.P.Probe.at c.args.probe.now) c.args.self.now c.requires

pub returns-clause-taken : goal.returns-clause-taken
returns-clause-taken g c = takes-found (g.P.Probe.at c.args.probe.now) c.args.self.now c.take_one.new.self c.take_one.result c.requires c.take_one.ensures

pub returns-clause-rest : goal.returns-clause-rest
returns-clause-rest g c = takes-without (g.P.Probe.at c.args.probe.now) c.args.self.now c.take_one.new.self c.take_one.result c.requires c.take_one.ensures
