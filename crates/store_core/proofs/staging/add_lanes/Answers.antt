use Rattle.std.proofs.Common.{◌≡◌, ℕ, List, [], ◌∷◌, ◌+◌, length, Some, None, ap, sym, subst, ◌∙◌}
use Rattle.std.specs.Option.{option_copied}
use Rattle.std.proofs.lemmas.Result.{err_from_is_err_and}
use Rattle.stamp_lanes.specs.Stamps.{node_cmp}
use Rattle.stamp_lanes.specs.Orders.{nodes_total}
use Rattle.std.specs.List.{AllByRecursion as Each}
use Rattle.lists_and_limits.proofs.Each.{each_at}
use Rattle.store_payloads.specs.Fits.{LanesFit}
use Rattle.store_core.specs.Compacts.{IsStaged, Misses}
use Rattle.store_core.proofs.Rowed.{lane_payloads, lanes_are, lanes_of_one, next_node_is, node_known}
use Rattle.store_core.proofs.Stagings.{stopped}
use Rattle.store_core.proofs.Adding.{may_staged}
use Rattle.store_core.proofs.Walking.{IsWalked, walked_none, walked_all, walked_more, walked_miss, rest, here}
use Rattle.store_core.proofs.staging.add_lanes.Goals as goal

pub loop-init : goal.loop-init
loop-init g c = walked_none node_cmp nodes_total c.args.tables.now.tables (lane_payloads c.args.now) (lanes_are c.args.now) c.args.tables.now.tables.nodes c.order_law.ensures.nodes c.args.journal.now c.requires.may c.requires.consistent

pub returns-in_default-clause-adds : goal.returns-in_default-clause-adds
returns-in_default-clause-adds g c = walked_all node_cmp nodes_total c.args.tables.now.tables (lane_payloads c.args.now) (lanes_are c.args.now) c.args.tables.now.tables.nodes c.order_law.ensures.nodes (option_copied c.loop.place) c.loop.count c.args.journal.now c.loop.journal (next_node_is (option_copied c.loop.place) None c.args.tables.now.tables.nodes c.in_default.ensures) c.loop.invariant

pub returns-in_default-clause-may : goal.returns-in_default-clause-may
returns-in_default-clause-may g c = may_staged c.args.tables.now.tables _ c.args.journal.now c.loop.journal c.requires.may c.loop.invariant.staged

pub add_lanes_of-requires-clause-may : goal.add_lanes_of-requires-clause-may
add_lanes_of-requires-clause-may g c = may_staged c.args.tables.now.tables _ c.args.journal.now c.loop.journal c.requires.may c.loop.invariant.staged

pub add_lanes_of-requires-clause-consistent : goal.add_lanes_of-requires-clause-consistent
add_lanes_of-requires-clause-consistent g c = c.loop.invariant.staged.consistent

pub add_lanes_of-requires-clause-fits : goal.add_lanes_of-requires-clause-fits
add_lanes_of-requires-clause-fits g c =
    each_at LanesFit c.loop.invariant.front c.in-Some.node.now (rest node_cmp nodes_total c.args.tables.now.tables (lane_payloads c.args.now) (lanes_are c.args.now) c.args.tables.now.tables.nodes c.order_law.ensures.nodes (option_copied c.loop.place) c.loop.count c.in-Some.node.now c.args.journal.now c.loop.journal c.requires.may.paired (next_node_is (option_copied c.loop.place) (Some c.in-Some.node.now) c.args.tables.now.tables.nodes c.in-Some.ensures) c.loop.invariant).0 (subst (Each LanesFit) (here node_cmp nodes_total c.args.tables.now.tables (lane_payloads c.args.now) (lanes_are c.args.now) c.args.tables.now.tables.nodes c.order_law.ensures.nodes (option_copied c.loop.place) c.loop.count c.in-Some.node.now c.args.journal.now c.loop.journal c.requires.may.paired (next_node_is (option_copied c.loop.place) (Some c.in-Some.node.now) c.args.tables.now.tables.nodes c.in-Some.ensures) c.loop.invariant) c.requires.fits.lanes)

pub add_lanes_of-requires-clause-known : goal.add_lanes_of-requires-clause-known
add_lanes_of-requires-clause-known g c =
    node_known c.args.tables.now.tables.nodes c.loop.invariant.front c.in-Some.node.now (rest node_cmp nodes_total c.args.tables.now.tables (lane_payloads c.args.now) (lanes_are c.args.now) c.args.tables.now.tables.nodes c.order_law.ensures.nodes (option_copied c.loop.place) c.loop.count c.in-Some.node.now c.args.journal.now c.loop.journal c.requires.may.paired (next_node_is (option_copied c.loop.place) (Some c.in-Some.node.now) c.args.tables.now.tables.nodes c.in-Some.ensures) c.loop.invariant).0 (here node_cmp nodes_total c.args.tables.now.tables (lane_payloads c.args.now) (lanes_are c.args.now) c.args.tables.now.tables.nodes c.order_law.ensures.nodes (option_copied c.loop.place) c.loop.count c.in-Some.node.now c.args.journal.now c.loop.journal c.requires.may.paired (next_node_is (option_copied c.loop.place) (Some c.in-Some.node.now) c.args.tables.now.tables.nodes c.in-Some.ensures) c.loop.invariant) c.order_law.ensures.nodes

pub returns-in_err-more-clause-adds : goal.returns-in_err-more-clause-adds
returns-in_err-more-clause-adds g c =
    let p = err_from_is_err_and c.from_residual.result c.from_residual.ensures.1 in
    rw (p.1, p.2)
    (walked_miss node_cmp nodes_total c.args.tables.now.tables (lane_payloads c.args.now) (lanes_are c.args.now) c.args.tables.now.tables.nodes c.order_law.ensures.nodes (option_copied c.loop.place) c.loop.count c.in-Some.node.now c.args.journal.now c.loop.journal c.requires.may.paired (next_node_is (option_copied c.loop.place) (Some c.in-Some.node.now) c.args.tables.now.tables.nodes c.in-Some.ensures) c.loop.invariant _ c.add_lanes_of.new.journal
    (subst (λ (rs : List (List ℕ)). Misses c.args.tables.now.tables rs c.in_err-more.field-0.0 c.loop.journal c.add_lanes_of.new.journal) (sym (lanes_of_one c.args.now c.in-Some.node.now)) c.in_err-more.ensures.adds))

pub returns-in_err-more-clause-may : goal.returns-in_err-more-clause-may
returns-in_err-more-clause-may g c = let p = err_from_is_err_and c.from_residual.result c.from_residual.ensures.1 in rw p.1 tt

pub returns-in_default-checked_add-clause-adds : goal.returns-in_default-checked_add-clause-adds
returns-in_default-checked_add-clause-adds g c =
    let added = walked_more node_cmp nodes_total c.args.tables.now.tables (lane_payloads c.args.now) (lanes_are c.args.now) c.args.tables.now.tables.nodes c.order_law.ensures.nodes (option_copied c.loop.place) c.loop.count c.in-Some.node.now c.args.journal.now c.loop.journal c.requires.may.paired (next_node_is (option_copied c.loop.place) (Some c.in-Some.node.now) c.args.tables.now.tables.nodes c.in-Some.ensures) c.loop.invariant c.add_lanes_of.new.journal
    (subst (λ (rs : List (List ℕ)). IsStaged c.args.tables.now.tables rs c.loop.journal c.add_lanes_of.new.journal) (sym (lanes_of_one c.args.now c.in-Some.node.now)) c.in_ok-more.ensures.adds.1) in
    stopped c.args.tables.now.tables _ c.args.journal.now c.add_lanes_of.new.journal c.add_lanes_of.new.journal c.requires.may.paired added.staged

pub loop-preserved : goal.loop-preserved
loop-preserved g c =
    let added = walked_more node_cmp nodes_total c.args.tables.now.tables (lane_payloads c.args.now) (lanes_are c.args.now) c.args.tables.now.tables.nodes c.order_law.ensures.nodes (option_copied c.loop.place) c.loop.count c.in-Some.node.now c.args.journal.now c.loop.journal c.requires.may.paired (next_node_is (option_copied c.loop.place) (Some c.in-Some.node.now) c.args.tables.now.tables.nodes c.in-Some.ensures) c.loop.invariant c.add_lanes_of.new.journal
    (subst (λ (rs : List (List ℕ)). IsStaged c.args.tables.now.tables rs c.loop.journal c.add_lanes_of.new.journal) (sym (lanes_of_one c.args.now c.in-Some.node.now)) c.in_ok-more.ensures.adds.1) in
    let sum : c.loop.count + length (lane_payloads c.args.now (c.in-Some.node.now ∷ [])) ≡ c.in-Some-checked_add.sum =
    ap (λ (rs : List (List ℕ)). c.loop.count + length rs) (lanes_of_one c.args.now c.in-Some.node.now) ∙ ap (λ (n : ℕ). c.loop.count + n) (sym c.in_ok-more.ensures.adds.0) ∙ sym c.in-Some-checked_add.ensures.1 in
    subst (λ (n : ℕ). IsWalked node_cmp c.args.tables.now.tables (lane_payloads c.args.now) c.args.tables.now.tables.nodes (Some c.in-Some.node.now) n c.args.journal.now c.add_lanes_of.new.journal) sum added

pub returns-clause-adds : goal.returns-clause-adds
returns-clause-adds g c = stopped c.args.tables.now.tables _ c.args.journal.now c.loop.journal c.loop.journal c.requires.may.paired c.loop.invariant.staged
