use Rattle.std.proofs.Common.{List, length, sym, subst}
use Rattle.world_run.specs.declared.kept.Kept.{Kept}
use Rattle.world_run.specs.Post.{told_tables, IsPostKept}
use Rattle.world_run.proofs.Posts.{ask_kept}
use Rattle.world_run.proofs.post.Post.ask.Goals as goal

pub invariant_of-self-2 : goal.invariant_of-self-2
invariant_of-self-2 c =
    let n = length (told_tables c.self.inside.tables.items c.self.inside.pending c.self.inside.placement.state) in
    subst (λ (ks : List Kept). IsPostKept n ks c.self.inside.last) (sym c.in_ok-push.ensures.items) (ask_kept n c.self.inside.last c.self.inside.messages.items c.args.request c.requires c.self.invariant)
