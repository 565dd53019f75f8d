use Rattle.std.proofs.Common.{◌≡◌, Option, ap, ◌∙◌, subst}
use Rattle.disk_model.specs.Disk.{Tells}
use Rattle.tx_journal.specs.Pair.{Files}
use Rattle.tx_journal.specs.Calls.{Side, told, tell_one}
use Rattle.tx_journal.specs.declared.error.JournalError.TheVariants as faults
use Rattle.placement_node.specs.declared.error.PlacementOpenError.TheVariants.{Journal}
use Rattle.placement_node.specs.declared.node.Restarted.{Restarted}
use Rattle.placement_node.specs.Openings.{KeepsNode}
use Rattle.placement_node.proofs.Restarting.{some_none, mapped_none, no_second, restart_refused, told_first, fault_costs, first_alone, journal_error, journal_refused, keeps_refused, keeps_node, opens_node}
use Rattle.placement_node.proofs.node.PlacementNode.open.Goals as goal

pub returns-in-Err-clause-refused : goal.returns-in-Err-clause-refused
returns-in-Err-clause-refused g c = (journal_error c.in-Err.error c.in-Err.ensures.refused.0, λ files is. journal_refused c.args.create c.args.now c.in-Err.error files (c.in-Err.ensures.refused.1 files is))

pub returns-in-Err-clause-crash_refused : goal.returns-in-Err-clause-crash_refused
returns-in-Err-clause-crash_refused g c = keeps_refused c.args.create c.args.now (g.D.Disk.told c.args.disk) (tell_one (g.D.Disk.told c.in-Err.disk)) c.in-Err.ensures.crash_refused

pub returns-in-Err-clause-cause : goal.returns-in-Err-clause-cause
returns-in-Err-clause-cause g c = λ is. c.in-Err.ensures.cause (let same : Journal c.in-Err.error ≡ Journal faults.DiskFault = is in cc)

pub invariant_of-result : goal.invariant_of-result
invariant_of-result g c = (c.in-Ok-restart.ensures.fits.0, c.restart.ensures.alone)

pub unreachable-requires : goal.unreachable-requires
unreachable-requires g c =
    let j = c.restart.new.journal in
    some_none c.close.result.1 c.in_default-Some._other c.in_default-Some.is-1 (mapped_none _ c.close.result.1 (c.close.ensures.second ∙ no_second j c.restart.ensures.alone))

pub returns-in-Ok-restart-clause-opened : goal.returns-in-Ok-restart-clause-opened
returns-in-Ok-restart-clause-opened g c = opens_node c.args.create c.args.now c.in-Ok-restart.restarted.placement.state (g.D.Disk.told c.args.disk) (told c.in-Ok.journal) (told c.restart.new.journal) c.in-Ok.ensures.opened c.in-Ok-restart.ensures.opened c.in-Ok-restart.ensures.committed

pub returns-in-Ok-restart-clause-state : goal.returns-in-Ok-restart-clause-state
returns-in-Ok-restart-clause-state g c = (c.in-Ok-restart.ensures.works, c.restart.ensures.alone, c.in-Ok-restart.ensures.fits.1)

pub returns-in-Ok-restart-clause-crash : goal.returns-in-Ok-restart-clause-crash
returns-in-Ok-restart-clause-crash g c = keeps_node c.args.create c.args.now (g.D.Disk.told c.args.disk) (told c.in-Ok.journal) (told c.restart.new.journal) c.in-Ok.ensures.opened c.in-Ok.ensures.crash c.restart.ensures.crash

pub returns-in_default-None-clause-refused : goal.returns-in_default-None-clause-refused
returns-in_default-None-clause-refused g c = (c.in-Err-restart.ensures.refused.0, λ files is. restart_refused c.args.create c.args.now c.in-Err-restart.error (g.D.Disk.told c.args.disk) (told c.in-Ok.journal) c.in-Ok.ensures.opened c.in-Err-restart.ensures.refused.1 files is)

pub returns-in_default-None-clause-crash_refused : goal.returns-in_default-None-clause-crash_refused
returns-in_default-None-clause-crash_refused g c =
    let j = c.restart.new.journal in
    let first = c.close.result.0 in
    subst (λ (x : Option Files). Tells (KeepsNode c.args.create c.args.now) (tell_one (g.D.Disk.told c.args.disk)) x)
    (told_first j (record { told = g.D.Disk.told first; faults = g.D.Disk.disk_faults first }) c.restart.ensures.alone c.close.ensures.first)
    (keeps_node c.args.create c.args.now (g.D.Disk.told c.args.disk) (told c.in-Ok.journal) (told j) c.in-Ok.ensures.opened c.in-Ok.ensures.crash c.restart.ensures.crash)

pub returns-in_default-None-clause-cause : goal.returns-in_default-None-clause-cause
returns-in_default-None-clause-cause g c = λ is.
    let j = c.restart.new.journal in
    fault_costs Restarted c.in-Err-restart.error (g.D.Disk.disk_faults c.args.disk) c.in-Ok.journal.live.faults j.live.faults (g.D.Disk.disk_faults c.close.result.0) c.in-Ok.ensures.count c.in-Err-restart.ensures.cause is
    (ap (λ (s : Side). s.faults) (c.close.ensures.first ∙ first_alone j c.restart.ensures.alone))
