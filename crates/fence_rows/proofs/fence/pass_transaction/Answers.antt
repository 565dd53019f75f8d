use Rattle.std.proofs.Common.{◌≡◌, false, List, None, sym, subst, ◌∙◌}
use Rattle.state_rows.specs.declared.op.StateOp.{StateOp}
use Rattle.fence_rows.specs.Fences.{tx_answer}
use Rattle.fence_rows.proofs.Fitting.{ops_come, tx_comes}
use Rattle.fence_rows.proofs.Seeing.{not_many}
use Rattle.fence_rows.proofs.Deciding.{decides_out, decides_passed}
use Rattle.fence_rows.proofs.fence.pass_transaction.Goals as goal

pub returns-in_default-clause-decides : goal.returns-in_default-clause-decides
returns-in_default-clause-decides c s same works = rw (c.answered.ensures, c.refused.ensures) (decides_out s c.args.epoch c.args.stamp c.args.actor c.args.ops c.args.now)

pub returns-in-Err-clause-decides : goal.returns-in-Err-clause-decides
returns-in-Err-clause-decides c s same works = rw (c.answered-in-Err.ensures, c.refused-in-Err.ensures) (decides_out s c.args.epoch c.args.stamp c.args.actor c.args.ops c.args.now)

pub tx_refusal-requires : goal.tx_refusal-requires
tx_refusal-requires c = rw c.as_slice.ensures (ops_come c.args.now c.args.stamp c.args.actor c.args.ops c.requires)

pub returns-in-Ok-with_epoch-clause-decides : goal.returns-in-Ok-with_epoch-clause-decides
returns-in-Ok-with_epoch-clause-decides c s same works =
    let none : tx_answer c.args.epoch c.args.ops false c.in-Ok.seen ≡ None =
    subst (λ (xs : List StateOp). tx_answer c.args.epoch xs false c.in-Ok.seen ≡ None) c.as_slice.ensures (sym c.tx_refusal.ensures.answer ∙ c.in_default-tx_refusal.is)
    in
    decides_passed s c.args.epoch c.args.stamp c.args.actor c.args.ops c.args.now c.args.tables.now.tables c.in-Ok.seen c.in-Ok.ensures same works c.in-Ok-with_epoch.ops c.in-Ok-with_epoch.ensures
    (tx_comes c.args.now c.args.stamp c.args.actor c.args.ops c.args.epoch c.ranges.epoch.fits (not_many c.args.epoch c.in-Ok.seen c.args.ops none) c.requires) none
