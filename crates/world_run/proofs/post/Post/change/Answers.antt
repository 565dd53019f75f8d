use Rattle.std.proofs.Common.{◌≡◌, List, sym, ap, ◌∙◌}
use Rattle.place_table.specs.Hosts.{PlacementTable}
use Rattle.placement_core.specs.Placement.{placement_step}
use Rattle.world_run.specs.Post.{PostView, told_tables, messages_in}
use Rattle.world_run.proofs.Posts.{gives_other, settled}
use Rattle.world_run.proofs.post.Post.change.Goals as goal

pub returns-clause-ok : goal.returns-clause-ok
returns-clause-ok c =
    let ts = c.settle.new.tables.items in
    let p = c.settle.new.pending in
    let ks = c.self.inside.messages.items in
    let old = c.self.inside.placement.state in
    let new = c.step.new.self.state in
    let g = gives_other c.args.event c.args.now c.step.result c.self.inside.placement.state c.step.new.self.state c.requires c.step.ensures.gives in
    let told : told_tables ts p new ≡ told_tables c.self.inside.tables.items c.self.inside.pending old =
    settled ts p new old c.in_ok-settle.ensures.settled ∙ sym (settled ts p old old c.in_ok-settle.ensures.settled) ∙ c.in_ok-settle.ensures.same in
    let placement : c.step.new.self.state ≡ (placement_step c.args.self.now.placement c.args.event c.args.now).state =
    g.1 ∙ ap (λ (v : PostView). (placement_step v.placement c.args.event c.args.now).state) c.self.view_is in
    let messages : messages_in (told_tables ts p new) ks ≡ c.args.self.now.messages = ap (λ (us : List PlacementTable). messages_in us ks) told ∙ ap (λ (v : PostView). v.messages) c.self.view_is in
    (λ i. record { placement = placement i; messages = messages i })
