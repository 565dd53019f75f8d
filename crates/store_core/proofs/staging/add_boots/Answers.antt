use Rattle.std.proofs.Common.{Some, None, subst}
use Rattle.std.specs.Option.{option_copied}
use Rattle.std.proofs.lemmas.Result.{err_from_is_err_and}
use Rattle.stamp_lanes.specs.Stamps.{node_cmp}
use Rattle.stamp_lanes.specs.Orders.{nodes_total}
use Rattle.std.specs.List.{AllByRecursion as Each}
use Rattle.lists_and_limits.proofs.Each.{each_at}
use Rattle.store_payloads.specs.Fits.{BootFits}
use Rattle.store_core.proofs.Rowed.{boot_payloads, boots_are, next_node_is}
use Rattle.store_core.proofs.Stagings.{stopped}
use Rattle.store_core.proofs.Adding.{may_staged}
use Rattle.store_core.proofs.Walking.{walked_none, walked_all, walked_more, walked_miss, rest, here}
use Rattle.store_core.proofs.staging.add_boots.Goals as goal

pub loop-count-init : goal.loop-count-init
loop-count-init g c = walked_none node_cmp nodes_total c.args.tables.now.tables (boot_payloads c.args.now) (boots_are c.args.now) c.args.tables.now.tables.nodes c.order_law.ensures.nodes c.args.journal.now c.requires.may c.requires.consistent

pub returns-in_default-clause-adds : goal.returns-in_default-clause-adds
returns-in_default-clause-adds g c = walked_all node_cmp nodes_total c.args.tables.now.tables (boot_payloads c.args.now) (boots_are c.args.now) c.args.tables.now.tables.nodes c.order_law.ensures.nodes (option_copied c.loop-count.place) c.loop-count.count c.args.journal.now c.loop-count.journal (next_node_is (option_copied c.loop-count.place) None c.args.tables.now.tables.nodes c.in_default.ensures) c.loop-count.invariant

pub returns-in_default-clause-may : goal.returns-in_default-clause-may
returns-in_default-clause-may g c = may_staged c.args.tables.now.tables _ c.args.journal.now c.loop-count.journal c.requires.may c.loop-count.invariant.staged

pub add_boot-requires-clause-may : goal.add_boot-requires-clause-may
add_boot-requires-clause-may g c = may_staged c.args.tables.now.tables _ c.args.journal.now c.loop-count.journal c.requires.may c.loop-count.invariant.staged

pub add_boot-requires-clause-fits : goal.add_boot-requires-clause-fits
add_boot-requires-clause-fits g c =
    each_at BootFits c.loop-count.invariant.front c.in-Some.node.now (rest node_cmp nodes_total c.args.tables.now.tables (boot_payloads c.args.now) (boots_are c.args.now) c.args.tables.now.tables.nodes c.order_law.ensures.nodes (option_copied c.loop-count.place) c.loop-count.count c.in-Some.node.now c.args.journal.now c.loop-count.journal c.requires.may.paired (next_node_is (option_copied c.loop-count.place) (Some c.in-Some.node.now) c.args.tables.now.tables.nodes c.in-Some.ensures) c.loop-count.invariant).0 (subst (Each BootFits) (here node_cmp nodes_total c.args.tables.now.tables (boot_payloads c.args.now) (boots_are c.args.now) c.args.tables.now.tables.nodes c.order_law.ensures.nodes (option_copied c.loop-count.place) c.loop-count.count c.in-Some.node.now c.args.journal.now c.loop-count.journal c.requires.may.paired (next_node_is (option_copied c.loop-count.place) (Some c.in-Some.node.now) c.args.tables.now.tables.nodes c.in-Some.ensures) c.loop-count.invariant) c.requires.fits.boots)

pub returns-in_err-add_boot-clause-adds : goal.returns-in_err-add_boot-clause-adds
returns-in_err-add_boot-clause-adds g c =
    let p = err_from_is_err_and c.from_residual.result c.from_residual.ensures.1 in
    rw (p.1, p.2)
    (walked_miss node_cmp nodes_total c.args.tables.now.tables (boot_payloads c.args.now) (boots_are c.args.now) c.args.tables.now.tables.nodes c.order_law.ensures.nodes (option_copied c.loop-count.place) c.loop-count.count c.in-Some.node.now c.args.journal.now c.loop-count.journal c.requires.may.paired (next_node_is (option_copied c.loop-count.place) (Some c.in-Some.node.now) c.args.tables.now.tables.nodes c.in-Some.ensures) c.loop-count.invariant _ c.add_boot.new.journal (c.in_err-add_boot.ensures.adds c.args.tables.now.tables c.loop-count.invariant.staged.consistent))

pub returns-in_err-add_boot-clause-may : goal.returns-in_err-add_boot-clause-may
returns-in_err-add_boot-clause-may g c = let p = err_from_is_err_and c.from_residual.result c.from_residual.ensures.1 in rw p.1 tt

pub loop-count-preserved : goal.loop-count-preserved
loop-count-preserved g c = walked_more node_cmp nodes_total c.args.tables.now.tables (boot_payloads c.args.now) (boots_are c.args.now) c.args.tables.now.tables.nodes c.order_law.ensures.nodes (option_copied c.loop-count.place) c.loop-count.count c.in-Some.node.now c.args.journal.now c.loop-count.journal c.requires.may.paired (next_node_is (option_copied c.loop-count.place) (Some c.in-Some.node.now) c.args.tables.now.tables.nodes c.in-Some.ensures) c.loop-count.invariant c.add_boot.new.journal (c.in_ok-add_boot.ensures.adds c.args.tables.now.tables c.loop-count.invariant.staged.consistent)

pub returns-clause-adds : goal.returns-clause-adds
returns-clause-adds g c = stopped c.args.tables.now.tables _ c.args.journal.now c.loop-count.journal c.loop-count.journal c.requires.may.paired c.loop-count.invariant.staged
