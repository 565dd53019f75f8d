use Rattle.state_rows.proofs.prepared.make.Goals as goal

pub make_step-requires : goal.make_step-requires
make_step-requires c = c.loop-step.invariant.1

pub loop-step-preserved : goal.loop-step-preserved
loop-step-preserved c =
    let k = rw c.in-Some.ensures.steps.0 at c.loop-step.invariant.0 in
    (rw c.make_step.ensures.rows k, c.make_step.ensures.order, tt, tt)

pub returns-clause-order : goal.returns-clause-order
returns-clause-order c = c.loop-step.invariant.1
