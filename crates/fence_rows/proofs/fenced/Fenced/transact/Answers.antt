use Rattle.std.proofs.Common.{◌≡◌, false, List, None, sym, subst, ◌∙◌}
use Rattle.state_rows.specs.declared.op.StateOp.{StateOp}
use Rattle.frame_wire.specs.declared.store_command.StoreCommand.TheVariants.{Tx}
use Rattle.store_payloads.specs.Laws.{MayCome}
use Rattle.fence_rows.specs.Fences.{tx_answer}
use Rattle.fence_rows.proofs.Fitting.{get_comes, ops_come, tx_comes, unseen_fits, memory_fits}
use Rattle.fence_rows.proofs.Seeing.{not_many}
use Rattle.fence_rows.proofs.fenced.Fenced.transact.Goals as goal

pub see-requires : goal.see-requires
see-requires g c = get_comes c.args.now c.args.stamp c.args.actor c.args.ops c.requires

pub returns-in-Err-clause-fits : goal.returns-in-Err-clause-fits
returns-in-Err-clause-fits g c = rw c.refused.ensures (unseen_fits c.args.self.now c.args.actor c.args.now c.in-Err.refusal c.in-Err.ensures.seen)

pub tx_refusal-requires : goal.tx_refusal-requires
tx_refusal-requires g c = rw c.as_slice.ensures (ops_come c.args.now c.args.stamp c.args.actor c.args.ops c.requires)

pub returns-in_default-with_epoch-clause-fits : goal.returns-in_default-with_epoch-clause-fits
returns-in_default-with_epoch-clause-fits g c = rw c.refused-in_default-with_epoch.ensures memory_fits

pub command-requires : goal.command-requires
command-requires g c =
    let none : tx_answer c.args.epoch c.args.ops false c.in-Ok.seen ≡ None =
    subst (λ (xs : List StateOp). tx_answer c.args.epoch xs false c.in-Ok.seen ≡ None) c.as_slice.ensures (sym c.tx_refusal.ensures.answer ∙ c.in_default.is)
    in
    subst (λ (ops : List StateOp). MayCome (record { now = c.args.now; command = Tx c.args.stamp c.args.actor ops })) (sym c.in-Ok-with_epoch.ensures)
    (tx_comes c.args.now c.args.stamp c.args.actor c.args.ops c.args.epoch c.ranges.epoch.fits (not_many c.args.epoch c.in-Ok.seen c.args.ops none) c.requires)
