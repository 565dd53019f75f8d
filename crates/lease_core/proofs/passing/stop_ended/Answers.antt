use Rattle.std.proofs.Common.{◌≡◌, List, drop, refl, sym, ap, ◌∙◌}
use Rattle.part_model.specs.Part.{ring_owner}
use Rattle.cluster_model.specs.World.{key_part, cluster_run}
use Rattle.world_run.specs.Worlds.{view_of}
use Rattle.lease_core.specs.declared.book.MemberClock.{MemberClock}
use Rattle.lease_core.specs.Book.{stops_if_ended, stops_for}
use Rattle.lease_core.proofs.Loops.{drop_all}
use Rattle.lease_core.proofs.Givings.{stops_here}
use Rattle.lease_core.proofs.passing.stop_ended.Goals as goal

pub loop-member-init : goal.loop-member-init
loop-member-init c w e = (w, e, refl)

pub loop-member-preserved : goal.loop-member-preserved
loop-member-preserved c w e =
    let h = c.loop-member.invariant w e in (
      cluster_run ring_owner key_part h.0 (stops_if_ended c.args.parts c.member-item.result),
      c.stop_if_ended.ensures h.0 h.1,
      h.2 ∙ stops_here c.args.parts c.args.members.now c.loop-member.member-index c.member-item.result h.0 c.loop-member-test.true c.member-item.is,
    )

pub returns : goal.returns
returns c w e =
    let h = c.loop-member.invariant w e in
    ap view_of (h.2 ∙ ap (λ (zs : List MemberClock). cluster_run ring_owner key_part h.0 (stops_for c.args.parts zs)) (drop_all c.args.members.now c.loop-member.member-index c.loop-member-test.false)) ∙ h.1
