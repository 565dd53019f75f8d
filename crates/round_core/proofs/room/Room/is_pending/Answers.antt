use Rattle.std.proofs.Common.{◌≡◌, List, Some, get_or, ap, ◌∙◌}
use Rattle.std.specs.List.{slice_get}
use Rattle.place_table.specs.declared.host.HostInfo.{HostInfo}
use Rattle.member_roster.specs.Members.{is_pending}
use Rattle.round_core.specs.Views.{RoomView}
use Rattle.round_core.proofs.Pending.{pending_place}
use Rattle.round_core.proofs.room.Room.is_pending.Goals as goal

pub returns : goal.returns
returns c = λ j found.
    let members = c.self.inside.rounds.state.members in
    let inside : slice_get members c.args.at ≡ Some j = ap (λ (v : RoomView). slice_get v.state.members c.args.at) c.self.view_is ∙ found in
    let d = c.index-members-at.result in
    let host = ap (λ (hs : List HostInfo). is_pending members (get_or hs c.args.at d).member) c.members.ensures.hosts in
    c.is_pending.ensures ∙ host ∙ pending_place members c.args.at d j c.self.invariant.2.ascend inside
