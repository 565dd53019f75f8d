use Rattle.std.proofs.Common.{◌≡◌, ◌<◌, length, get_or, sym, ◌∙◌, arith, ap}
use Rattle.std.proofs.lemmas.List.{get_or_default}
use Rattle.std.proofs.lemmas.Slice.Eq.{bytes_eq-Decides}
use Rattle.std.proofs.lemmas.Cmp.{nat_list_cmp_total}
use Rattle.std.specs.Cmp.{tied_itself}
use Rattle.place_table.specs.declared.host.HostInfo.{HostInfo}
use Rattle.member_roster.specs.Places.{host_node}
use Rattle.member_roster.proofs.Places.{cmp, found}
use Rattle.member_roster.proofs.search.host_place_near.Goals as goal

pub returns-then-eq-clause-place : goal.returns-then-eq-clause-place
returns-then-eq-clause-place c =
    let at : HostInfo = get_or c.args.hosts.now c.args.near c.index-hosts-near.result in
    let node : host_node at ≡ c.args.node.now = (bytes_eq-Decides (host_node at) c.args.node.now).0 (sym c.eq.ensures ∙ c.if-eq.true) in
    let within : c.args.near < length c.args.hosts.now = omega arith in
    sym (found host_node c.args.node.now c.args.hosts.now c.args.near c.requires within
    (λ d. ap (λ (h : HostInfo). cmp (host_node h) c.args.node.now) (get_or_default c.args.hosts.now c.args.near d c.index-hosts-near.result within) ∙ ap (λ n. cmp n c.args.node.now) node ∙ tied_itself nat_list_cmp_total c.args.node.now))
