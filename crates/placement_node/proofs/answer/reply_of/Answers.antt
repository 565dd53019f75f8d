use Rattle.std.proofs.Common.{subst}
use Rattle.member_roster.specs.Places.{Ascends, host_node}
use Rattle.placement_node.proofs.Sent.{given_sent}
use Rattle.placement_node.proofs.answer.reply_of.Goals as goal

pub returns-clause-sent : goal.returns-clause-sent
returns-clause-sent c =
    given_sent c.args.placement.now.state c.args.space.now c.args.reply c.given.result c.requires.named c.requires.kept c.requires.numbers (subst (Ascends host_node) c.table_hosts-hosts.ensures.hosts c.table_hosts-hosts.ensures.order) c.given.ensures
