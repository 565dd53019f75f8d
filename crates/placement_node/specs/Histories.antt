-- A node as the machine of a gate: its legal histories are lists of steps. Own.
use Rattle.std.specs.Prelude.{List, [], ◌∷◌}
use Rattle.step_gate.specs.declared.view.HistoryEntry.{HistoryEntry}
use Rattle.step_gate.specs.History.{HistoryLeadsTo}
use Rattle.round_core.specs.Runs.{RunEvent}
use Rattle.placement_node.specs.declared.reply.NodeEvent.{NodeEvent}
use Rattle.placement_node.specs.declared.reply.NodeReply.{NodeReply}
use Rattle.placement_node.specs.Node.{NodeState, NodeAllows}
use Rattle.placement_node.specs.Replies.{outcome_of}
use Rattle.placement_node.specs.Runs.{after_outcome, Follows}

abbrev pub NodeHistory : Type 0
NodeHistory = List (HistoryEntry NodeEvent NodeReply)

-- the steps of a history with their replies, whichever seat made them
abbrev pub steps_of : NodeHistory → List (NodeEvent × NodeReply)
steps_of [] = []
steps_of (e ∷ es) = (e.event, e.reply) ∷ steps_of es

-- the run after these steps: only those that were done count
abbrev pub run_after : List RunEvent → List (NodeEvent × NodeReply) → List RunEvent
run_after run [] = run
run_after run (step ∷ steps) = run_after (after_outcome run step.0 (outcome_of step.1)) steps

-- the steps of a legal history of a node's gate lead from the value before it to the value behind it
abbrev pub FollowsHistory : Type 0
FollowsHistory = (run : List RunEvent) (old new : NodeState) (h : NodeHistory) → HistoryLeadsTo NodeAllows old h new → Follows run old (steps_of h) (run_after run (steps_of h)) new
