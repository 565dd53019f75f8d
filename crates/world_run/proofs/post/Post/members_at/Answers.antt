use Rattle.std.proofs.Common.{ℕ, List, length, ap, ◌∙◌}
use Rattle.std.specs.Prelude.{Some, slice_get}
use Rattle.std.proofs.lemmas.List.{length-map}
use Rattle.place_table.specs.declared.host.HostInfo.{HostInfo}
use Rattle.member_roster.specs.Members.{Joined}
use Rattle.world_run.specs.Post.{PostView}
use Rattle.world_run.proofs.post.Post.members_at.Goals as goal

pub returns : goal.returns
returns c = λ r e.
    ap (λ (hs : List HostInfo). length hs) (c.members_at.ensures.hosts r (ap (λ (v : PostView). slice_get v.placement.rooms c.args.room) c.self.view_is ∙ e)) ∙ length-map r.room.members (λ (j : Joined). j.host)
