use Rattle.std.proofs.Common.{◌≡◌, false, sym, ap, ◌∙◌, arith}
use Rattle.cluster_model.specs.World.{all_stopped}
use Rattle.cluster_parts.specs.Views.{PartsView}
use Rattle.std.specs.Prelude.{Some, slice_get}
use Rattle.placement_core.specs.Placement.{SpaceRoom}
use Rattle.world_run.proofs.RoomVersions.{in_place}
use Rattle.world_run.proofs.Runners.{joined_at, runs_here, stopped_here, heard_here}
use Rattle.world_run.proofs.deliveries.first_running_in.Goals.{in-Some+else-not-all_stopped, in_default}
use Rattle.world_run.proofs.deliveries.first_running_in.Goals as goal

pub returns-then-not-all_stopped-clause-first : goal.returns-then-not-all_stopped-clause-first
returns-then-not-all_stopped-clause-first c = λ r e.
    let js = r.room.members in
    let many = c.members_at-at-end.ensures r e in
    let h = joined_at js c.loop-at.at (omega arith) in
    let running : all_stopped c.args.parts.now.parts c.in-Some.member ≡ false = sym (c.if-not-all_stopped.ensures.stopped ∙ ap (λ (v : PartsView). all_stopped v.parts c.in-Some.member) c.loop-at.invariant.0) in
    runs_here c.args.parts.now.parts js c.loop-at.at c.args.now h.0 c.in-Some.member h.1 (c.in-Some.ensures r h.0 e h.1) running ∙ c.loop-at.invariant.1 r e

pub loop-at-preserved : goal.loop-at-preserved
loop-at-preserved c =
    let ps = c.args.parts.now.parts in
    elim c.match-late_at.branch [
      | in-Some+else-not-all_stopped w ↦ (
        w.parts-is ∙ w.all_stopped.ensures.same ∙ c.loop-at.invariant.0,
        λ r e.
            let js = r.room.members in
            let many = c.members_at-at-end.ensures r e in
            let h = joined_at js c.loop-at.at (omega arith) in
            stopped_here ps js c.loop-at.at c.args.now h.0 w.in-Some.member h.1 (w.in-Some.ensures r h.0 e h.1) (sym (w.if-not-all_stopped.ensures.stopped ∙ ap (λ (v : PartsView). all_stopped v.parts w.in-Some.member) c.loop-at.invariant.0)) ∙ c.loop-at.invariant.1 r e,
      )
      | in_default w ↦ (
        w.parts-is ∙ c.loop-at.invariant.0,
        λ r e.
            let js = r.room.members in
            let many = c.members_at-at-end.ensures r e in
            let h = joined_at js c.loop-at.at (omega arith) in
            heard_here ps js c.loop-at.at c.args.now h.0 h.1 (sym w.in_default.is ∙ c.late_at.ensures r h.0 e h.1) ∙ c.loop-at.invariant.1 r e,
      )
    ]
