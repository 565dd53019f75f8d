-- The legal histories of a node's gate are lists of steps.
use Rattle.std.proofs.Common.{List, [], ◌∷◌, refl, sym}
use Rattle.step_gate.specs.History.{HistoryLeadsTo}
use Rattle.round_core.specs.Runs.{RunEvent}
use Rattle.placement_node.specs.Node.{NodeState, NodeAllows}
use Rattle.placement_node.specs.Replies.{outcome_of}
use Rattle.placement_node.specs.Runs.{after_outcome, Follows}
use Rattle.placement_node.specs.Histories.{NodeHistory, steps_of, run_after, FollowsHistory}

pub follows_history : FollowsHistory
follows_history run old new [] leads = (refl, sym leads)
follows_history run old new (e ∷ es) leads =
    (leads.0, leads.1.2, leads.1.0, follows_history (after_outcome run e.event (outcome_of e.reply)) leads.0 new es leads.2)
