use Rattle.std.proofs.Common.{◌≡◌, length, sym, ◌∙◌, arith}
use Rattle.round_core.specs.declared.event.PlaceReply.TheVariants as replies
use Rattle.member_roster.specs.Members.{late_of}
use Rattle.placement_core.proofs.Spaces.{late_few}
use Rattle.placement_core.proofs.sweep.tick_room.Goals as goal

pub returns-clause-within : goal.returns-clause-within
returns-clause-within c =
    let members = c.args.kept_room.now.room.state.members in
    let told : replies.Ticked c.in-Ticked.dropped ≡ replies.Ticked (length (late_of members c.args.now)) = sym c.in-Ticked.is ∙ c.step.ensures.gives.0 in
    let same : c.in-Ticked.dropped ≡ length (late_of members c.args.now) = cc in
    let few = late_few members c.args.now in
    let count = c.len-most.ensures.count in
    let within = c.len-most.ensures.within in
    omega arith
