use Rattle.std.proofs.Common.{◌≡◌, ◌+◌, ◌-◌, ◌<◌, ◌^◌, arith}
use Rattle.std.specs.Prelude.{suc}
use Rattle.world_drill.specs.Drill.{drill_world}
use Rattle.world_drill.proofs.Honest.{drill_honest}
use Rattle.world_drill.proofs.Ways.{way_begins, way_goes, way_ends, drill_begun, drill_ended}
use Rattle.world_drill.proofs.run.drill.Goals as goal

pub returns-in_err-world-clause-honest : goal.returns-in_err-world-clause-honest
returns-in_err-world-clause-honest c = drill_honest c.args.seed c.args.steps

pub returns-in_err-step-clause-honest : goal.returns-in_err-step-clause-honest
returns-in_err-step-clause-honest c = drill_honest c.args.seed c.args.steps

pub returns-clause-honest : goal.returns-clause-honest
returns-clause-honest c = drill_honest c.args.seed c.args.steps

pub steps-init : goal.steps-init
steps-init c = way_begins c.in_ok-world.world c.new-generator.result _ c.args.seed c.args.steps c.in_ok-world.ensures c.new-generator.ensures (omega arith)

pub steps-preserved : goal.steps-preserved
steps-preserved c =
    let one : c.args.steps - c.steps.counter ≡ suc (c.args.steps - (c.steps.counter + 1)) = omega arith in
    way_goes c.steps.world c.step.new.world c.steps.generator c.step.new.generator (c.args.steps - c.steps.counter) (c.args.steps - (c.steps.counter + 1)) c.args.seed c.args.steps c.steps.invariant c.in_ok-step.ensures.plays c.step.ensures.drawn one

pub returns-clause-counts : goal.returns-clause-counts
returns-clause-counts c =
    let shown = way_ends c.steps.world c.steps.generator (c.args.steps - c.steps.counter) c.args.seed c.args.steps c.steps.invariant (omega arith) in
    let begun = drill_begun c.args.seed c.args.steps in
    let fits : c.args.steps < 2 ^ 32 = c.ranges.steps.fits in
    c.counts.ensures (drill_world c.args.seed c.args.steps) shown (omega arith) (drill_ended c.args.seed c.args.steps)
