use Rattle.std.proofs.Common.{sym, ap, ◌∙◌, arith}
use Rattle.std.specs.Prelude.{Option, None, Some}
use Rattle.actor_names.specs.declared.member.Member.{Member}
use Rattle.cluster_model.specs.World.{running_among}
use Rattle.member_roster.specs.Members.{late_of}
use Rattle.cluster_parts.specs.Views.{PartsView}
use Rattle.world_run.proofs.RoomVersions.{in_place}
use Rattle.world_run.proofs.Runners.{room_runs, room_rests}
use Rattle.world_run.proofs.deliveries.first_running.Goals as goal

pub returns-in-Some-clause-first : goal.returns-in-Some-clause-first
returns-in-Some-clause-first c =
    let rooms = c.args.post.now.placement.rooms in
    let r = in_place rooms c.loop-room.room (omega arith) in
    let here = c.in-Some.ensures.first r.0 r.1 ∙ ap (λ (v : PartsView). running_among v.parts (late_of r.0.room.members c.args.now)) c.loop-room.invariant.0 in
    room_runs c.args.parts.now.parts rooms c.loop-room.room c.args.now r.0 c.in-Some.member r.1 here ∙ c.loop-room.invariant.1

pub loop-room-preserved : goal.loop-room-preserved
loop-room-preserved c =
    let rooms = c.args.post.now.placement.rooms in
    let r = in_place rooms c.loop-room.room (omega arith) in
    let none = c.in_default.ensures.first r.0 r.1 ∙ ap (λ (v : PartsView). running_among v.parts (late_of r.0.room.members c.args.now)) c.loop-room.invariant.0 in (
      c.first_running_in.ensures.same ∙ c.loop-room.invariant.0,
      room_rests c.args.parts.now.parts rooms c.loop-room.room c.args.now r.0 r.1 none ∙ c.loop-room.invariant.1,
    )
