use Rattle.std.proofs.Common.{◌≡◌, ℕ, List, sym, ap, ◌∙◌}
use Rattle.std.specs.Prelude.{Option, None}
use Rattle.place_table.specs.Hosts.{PlacementTable}
use Rattle.cluster_model.specs.Messages.{table_of}
use Rattle.cluster_model.specs.World.{table_in}
use Rattle.world_run.specs.declared.kept.Wanted.{Wanted}
use Rattle.world_run.specs.Post.{told_tables}
use Rattle.world_run.proofs.Orders.{hosts_in_order}
use Rattle.world_run.proofs.Posts.{built_told}
use Rattle.world_run.proofs.post.settle.Goals as goal

pub returns-in_ok-push-in-Ok-clause-same : goal.returns-in_ok-push-in-Ok-clause-same
returns-in_ok-push-in-Ok-clause-same c =
    let s = c.args.placement.now.state in
    let w : Wanted = c.in-Some.wanted in
    let hosts = table_in s w.space in
    let t = c.in-Ok.table in
    let order = hosts_in_order c.table_hosts-hosts.result.now t.hosts c.table_hosts-hosts.ensures.order c.in-Ok.ensures.order c.in-Ok.ensures.hosts ∙ c.table_hosts-hosts.ensures.hosts in
    let same : t ≡ table_of w.space w.version hosts = (λ i. record { space = c.in-Ok.ensures.space i; version = c.in-Ok.ensures.version i; hosts = order i }) in
    ap (λ (us : List PlacementTable). told_tables us None s) c.in_ok-push-in-Ok.ensures.items ∙ built_told c.args.tables.now.items t w s same
    ∙ ap (λ (o : Option Wanted). told_tables c.args.tables.now.items o s) (sym c.in-Some.is)
