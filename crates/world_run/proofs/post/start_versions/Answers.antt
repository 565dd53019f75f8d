use Rattle.std.proofs.Common.{◌≡◌, ℕ, ◌+◌, List, length, sym, ap, ◌∙◌, arith, set}
use Rattle.std.proofs.lemmas.List.{length-map, length-set}
use Rattle.std.specs.Prelude.{suc, map, slice_get, Some}
use Rattle.std.proofs.lemmas.Option.{slice_get-get_or}
use Rattle.placement_core.specs.Placement.{SpaceRoom}
use Rattle.world_run.specs.Post.{version_in, started_version}
use Rattle.world_run.proofs.Posts.{versions_at}
use Rattle.world_run.proofs.RoomVersions.{in_place, version_before, version_after, versions_all}
use Rattle.world_run.proofs.post.start_versions.Goals as goal

some_same : (a b : ℕ) → Some a ≡ Some b → a ≡ b
some_same a b e = cc

-- as many rooms as versions
many : (rooms : List SpaceRoom) (versions : List ℕ) (n : ℕ) → versions ≡ map version_in rooms → length versions ≡ n → length rooms ≡ n
many rooms versions n e f = sym (length-map rooms version_in) ∙ ap (λ (l : List ℕ). length l) (sym e) ∙ f

pub loop-at-init : goal.loop-at-init
loop-at-init c = (c.requires, λ rooms e. e)

pub loop-at-preserved : goal.loop-at-preserved
loop-at-preserved c = (
  length-set c.loop-at.versions.items c.loop-at.at c.started_version.result ∙ c.loop-at.invariant.0,
  λ rooms e.
      let n = c.loop-at.at in
      let new = c.args.placement.now.state.rooms in
      let count : length rooms ≡ length new = many rooms c.args.versions.now.items (length new) e c.requires in
      let r = in_place rooms n (omega arith) in
      let t = in_place new n (omega arith) in
      let stands : c.loop-at.versions.items ≡ versions_at rooms new n = c.loop-at.invariant.1 rooms e in
      let before : c.index-before.result.now ≡ version_in r.0 = some_same _ _
      (sym (slice_get-get_or c.loop-at.versions.items n c.index-before.result.now (omega arith) ∙ ap (λ (k : ℕ). Some k) (sym c.index-before.ensures)) ∙ ap (λ (l : List ℕ). slice_get l n) stands ∙ version_before rooms new n r.0 t.0 r.1 t.1) in
      let made : c.started_version.result ≡ started_version (version_in r.0) (version_in t.0) = c.started_version.ensures ∙ (λ i. started_version (before i) (c.last_version_at.ensures t.0 t.1 i)) in
      let next : suc n ≡ n + 1 = omega arith in
      (λ i. set (stands i) n (made i)) ∙ version_after rooms new n r.0 t.0 r.1 t.1 ∙ ap (versions_at rooms new) next,
)

pub returns : goal.returns
returns c = λ rooms e.
    let new = c.args.placement.now.state.rooms in
    let count : length rooms ≡ length new = many rooms c.args.versions.now.items (length new) e c.requires in
    c.loop-at.invariant.1 rooms e ∙ versions_all rooms new c.loop-at.at (omega arith) (omega arith)
