use Rattle.std.proofs.Common.{sym, ◌∙◌}
use Rattle.search_tree.proofs.Runs.{still-run, same-rest, none-left}
use Rattle.search_tree.proofs.tree.Tree.remove_all.Goals as goal

pub loop-preserved : goal.loop-preserved
loop-preserved g c = record {
  run = still-run (g.P.Probe.at c.args.probe.now) c.loop.self c.take_one.new.self c.take_one.result c.loop.invariant.run c.take_one.ensures;
  rest = same-rest (g.P.Probe.at c.args.probe.now) c.loop.self c.take_one.new.self c.take_one.result c.take_one.ensures ∙ c.loop.invariant.rest;
}

pub returns : goal.returns
returns g c =
    let none = sym c.is_some.ensures ∙ c.if-is_some.false in
    sym (none-left (g.P.Probe.at c.args.probe.now) c.loop.self c.take_one.new.self c.take_one.result none c.take_one.ensures)
    ∙ same-rest (g.P.Probe.at c.args.probe.now) c.loop.self c.take_one.new.self c.take_one.result c.take_one.ensures
    ∙ c.loop.invariant.rest
