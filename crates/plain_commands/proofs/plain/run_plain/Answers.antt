use Rattle.std.proofs.Common.{rules, ◌≡◌, ◌∷◌, [], None, Some, map, string_bytes, refl, sym, ◌∙◌, subst}
use Rattle.plain_commands.specs.declared.status.Status.TheVariants as status
use Rattle.world_drill.proofs.Honest.{drill_honest}
use Rattle.plain_commands.proofs.plain.run_plain.Goals.{in-Ok-Replay, in-Ok-Schedule, in-Ok-Drill, in-Ok-Placement, in-Ok-Store, in-Ok-Sidecar, in-Ok-Standby, in-Err-Usage, in-Err-OutOfMemory}
use Rattle.plain_commands.proofs.plain.run_plain.Goals as goal

pub returns-after-read_words-6-clause-drilled : goal.returns-after-read_words-6-clause-drilled
returns-after-read_words-6-clause-drilled g c d is =
    let honest = drill_honest d.seed d.steps in
    elim c.match-read_words.branch [
      | in-Ok-Replay w ↦ search rules
      | in-Ok-Schedule w ↦ search rules
      | in-Ok-Drill w ↦ search rules
      | in-Ok-Placement w ↦ search rules
      | in-Ok-Store w ↦ search rules
      | in-Ok-Sidecar w ↦ search rules
      | in-Ok-Standby w ↦ search rules
      | in-Err-Usage w ↦ search rules
      | in-Err-OutOfMemory w ↦ search rules
    ]

pub returns-after-read_words-7-clause-replayed : goal.returns-after-read_words-7-clause-replayed
returns-after-read_words-7-clause-replayed g c is = elim c.match-read_words.branch [
  | in-Ok-Replay w ↦ search rules
  | in-Ok-Schedule w ↦ search rules
  | in-Ok-Drill w ↦ search rules
  | in-Ok-Placement w ↦ search rules
  | in-Ok-Store w ↦ search rules
  | in-Ok-Sidecar w ↦ search rules
  | in-Ok-Standby w ↦ search rules
  | in-Err-Usage w ↦ search rules
  | in-Err-OutOfMemory w ↦ search rules
]

pub returns-after-read_words-2-clause-usage : goal.returns-after-read_words-2-clause-usage
returns-after-read_words-2-clause-usage g c is = elim c.match-read_words.branch [
  | in-Ok-Replay w ↦ search rules
  | in-Ok-Schedule w ↦ search rules
  | in-Ok-Drill w ↦ search rules
  | in-Ok-Placement w ↦ search rules
  | in-Ok-Store w ↦ search rules
  | in-Ok-Sidecar w ↦ search rules
  | in-Ok-Standby w ↦ search rules
  | in-Err-Usage w ↦ search rules
  | in-Err-OutOfMemory w ↦ search rules
]
