use Rattle.placement_node.proofs.Sent.{memory_sent, fault_sent}
use Rattle.placement_node.proofs.node.refusal_of.Goals as goal

pub returns-in-NoMemory-clause-fits : goal.returns-in-NoMemory-clause-fits
returns-in-NoMemory-clause-fits c = memory_sent

pub returns-in-Failed-clause-fits : goal.returns-in-Failed-clause-fits
returns-in-Failed-clause-fits c = fault_sent
