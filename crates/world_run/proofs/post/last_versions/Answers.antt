use Rattle.std.proofs.Common.{◌≡◌, ℕ, ◌+◌, ◌++◌, ◌∷◌, [], List, length, take, sym, ap, ◌∙◌, arith}
use Rattle.std.specs.Prelude.{suc, map}
use Rattle.placement_core.specs.Placement.{SpaceRoom}
use Rattle.world_run.specs.Post.{version_in}
use Rattle.world_run.proofs.RoomVersions.{in_place, taken_versions, take_all}
use Rattle.world_run.proofs.post.last_versions.Goals as goal

pub loop-at-preserved : goal.loop-at-preserved
loop-at-preserved c =
    let rooms = c.args.placement.now.state.rooms in
    let n = c.loop-at.at in
    let r = in_place rooms n (omega arith) in
    let next : suc n ≡ n + 1 = omega arith in
    c.in_ok-push.ensures.items ∙ (λ i. c.loop-at.invariant i ++ c.last_version_at.ensures r.0 r.1 i ∷ []) ∙ sym (taken_versions rooms n r.0 r.1) ∙ ap (λ (k : ℕ). map version_in (take k rooms)) next

pub returns : goal.returns
returns c =
    let rooms = c.args.placement.now.state.rooms in
    c.loop-at.invariant ∙ ap (λ (l : List SpaceRoom). map version_in l) (take_all rooms c.loop-at.at (omega arith))
