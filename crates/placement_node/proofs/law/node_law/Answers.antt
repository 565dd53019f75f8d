use Rattle.placement_node.proofs.Above.{versions_above}
use Rattle.placement_node.proofs.Histories.{follows_history}
use Rattle.placement_node.proofs.Laws.{steps_at_end, leaves_end, left_opens}
use Rattle.placement_node.proofs.Lefts.{crash_leaves, opens_left, opening_leaves, refuses_left}
use Rattle.placement_node.proofs.Opens.{opens_at_end}
use Rattle.placement_node.proofs.Stands.{stands_after}
use Rattle.placement_node.proofs.Told.{tells_last, versions_rise}
use Rattle.placement_node.proofs.law.node_law.Goals as goal

pub returns-clause-opens : goal.returns-clause-opens
returns-clause-opens c = opens_at_end c.replayed_law.ensures

pub returns-clause-steps : goal.returns-clause-steps
returns-clause-steps c = steps_at_end

pub returns-clause-leaves : goal.returns-clause-leaves
returns-clause-leaves c = leaves_end

pub returns-clause-stands : goal.returns-clause-stands
returns-clause-stands c = stands_after

pub returns-clause-told : goal.returns-clause-told
returns-clause-told c = tells_last

pub returns-clause-versions : goal.returns-clause-versions
returns-clause-versions c = versions_rise

pub returns-clause-history : goal.returns-clause-history
returns-clause-history c = follows_history

pub returns-clause-above : goal.returns-clause-above
returns-clause-above c = versions_above

pub returns-clause-left : goal.returns-clause-left
returns-clause-left c = left_opens c.replayed_law.ensures

pub returns-clause-crash : goal.returns-clause-crash
returns-clause-crash c = crash_leaves

pub returns-clause-opens_left : goal.returns-clause-opens_left
returns-clause-opens_left c = opens_left c.replayed_law.ensures

pub returns-clause-opening : goal.returns-clause-opening
returns-clause-opening c = opening_leaves c.replayed_law.ensures

pub returns-clause-refused : goal.returns-clause-refused
returns-clause-refused c = refuses_left c.replayed_law.ensures
