use Rattle.std.proofs.Common.{◌≡◌, length, arith, Some, ◌∙◌, ap}
use Rattle.std.specs.List.{slice_get}
use Rattle.member_roster.specs.Roster.{RosterState, joined_all}
use Rattle.member_roster.proofs.Lateness.{late_at}
use Rattle.member_roster.proofs.Rosters.{length-joined_all}
use Rattle.member_roster.proofs.roster.Roster.is_late.Goals as goal

pub index-requires : goal.index-requires
index-requires c =
    let e : length (joined_all c.self.inside.hosts.items c.self.inside.marks.items) ≡ length c.self.inside.hosts.items = length-joined_all c.self.inside.hosts.items c.self.inside.marks.items c.self.invariant.0.marked in
    let v : length (joined_all c.self.inside.hosts.items c.self.inside.marks.items) ≡ length c.args.self.now.members = ap (λ (s : RosterState). length s.members) c.self.view_is in
    let m : length c.self.inside.marks.items ≡ length c.self.inside.hosts.items = c.self.invariant.0.marked in
    omega arith

pub returns : goal.returns
returns c = λ j found.
    let members : slice_get (joined_all c.self.inside.hosts.items c.self.inside.marks.items) c.args.at ≡ Some j = ap (λ (s : RosterState). slice_get s.members c.args.at) c.self.view_is ∙ found in
    c.is_mark_late.ensures ∙ late_at c.self.inside.hosts.items c.self.inside.marks.items c.args.at c.args.now c.index.result.now j c.index.ensures members
