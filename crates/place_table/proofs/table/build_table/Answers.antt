use Rattle.place_table.proofs.Causes.{members_cause, types_cause, same_cause, other_cause}
use Rattle.place_table.proofs.table.build_table.Goals as goal

pub returns-clause-members : goal.returns-clause-members
returns-clause-members c = members_cause c.args.space.now c.make_table.result c.args.hosts.now c.make_table.ensures.refused

pub returns-clause-types : goal.returns-clause-types
returns-clause-types c = types_cause c.args.space.now c.make_table.result c.args.hosts.now c.make_table.ensures.refused

pub returns-clause-same : goal.returns-clause-same
returns-clause-same c = same_cause c.args.space.now c.make_table.result c.args.hosts.now c.make_table.ensures.refused

pub returns-clause-other : goal.returns-clause-other
returns-clause-other c = other_cause c.args.space.now c.make_table.result c.args.hosts.now c.make_table.ensures.refused
