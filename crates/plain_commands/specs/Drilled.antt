-- What the drill command prints. Own: docs/cluster.md.
use Rattle.std.specs.Prelude.{◌≡◌, ℕ, List, Option, None, Some}
use Rattle.command_words.specs.Reading.{Drilling}
use Rattle.cluster_model.specs.World.{opening_cluster}
use Rattle.world_drill.specs.Drill.{drill_settings, drill_events, drill_world, counts_of, counts_text, AreHonest}
use Rattle.plain_commands.specs.ReplayTold.{Writes, WritesFrontOf}
use Rattle.plain_commands.specs.Schedule.{WritesNothing}
use Rattle.plain_commands.specs.declared.status.Status.{Status}
use Rattle.plain_commands.specs.declared.status.Status.TheVariants as status

-- the counts of the cluster's run over the events that the words give
abbrev pub drill_text : Drilling → List ℕ
drill_text d = counts_text (counts_of d.steps (drill_world d.seed d.steps))

-- All of it was written; after a fault of the sink a prefix of it, and out of memory nothing.
abbrev pub DrillEnds : Drilling → Status → Option (List ℕ) → Option (List ℕ) → Type 0
DrillEnds d status.Done before after = Writes before after (drill_text d)
DrillEnds d status.SinkFault before after = WritesFrontOf before after (drill_text d)
DrillEnds d status.OutOfMemory before after = WritesNothing before after
DrillEnds d status.Usage before after = ⊥
DrillEnds d status.Refused before after = ⊥
DrillEnds d status.SourceFault before after = ⊥
DrillEnds d status.Limit before after = ⊥

-- no event of the drill declares a running member lost
abbrev pub DrillsHonestly : Drilling → Type 0
DrillsHonestly d = AreHonest (opening_cluster drill_settings) (drill_events d.seed d.steps)
