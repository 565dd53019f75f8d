use Rattle.std.proofs.Common.{◌≡◌, ◌<◌, ℕ, Bool, true, cond, List, [], ◌∷◌, length, get_or, refl, sym, ap, ◌∙◌, subst, arith}
use Rattle.std.specs.Prelude.{zero, suc, Option, None, Some, map, slice_get}
use Rattle.std.proofs.lemmas.List.{length-map}
use Rattle.actor_names.specs.declared.member.Member.{Member}
use Rattle.place_table.specs.declared.host.HostInfo.{HostInfo}
use Rattle.placement_core.specs.Placement.{SpaceRoom}
use Rattle.placement_core.specs.Views.{IsMemberPlace}
use Rattle.member_roster.specs.Members.{Joined, hosts_of}
use Rattle.world_run.specs.Post.{PostView, late_member}
use Rattle.world_run.proofs.RoomVersions.{in_place}
use Rattle.world_run.proofs.post.Post.late_at.Goals as goal

-- the member's place is one of the room's hosts
within : (rooms : List SpaceRoom) (room at : ℕ) (hosts : List HostInfo) → IsMemberPlace rooms room at → ((r : SpaceRoom) → slice_get rooms room ≡ Some r → hosts ≡ hosts_of r.room.members) → at < length hosts
within rooms room at hosts place is =
    let r = in_place rooms room place.0 in
    let many : length hosts ≡ length r.0.room.members = ap (λ (hs : List HostInfo). length hs) (is r.0 r.1) ∙ length-map r.0.room.members (λ (j : Joined). j.host) in
    let below = place.1 r.0 r.1 in
    omega arith

host_at : (js : List Joined) (at : ℕ) (j : Joined) (d : HostInfo) → slice_get js at ≡ Some j → get_or (hosts_of js) at d ≡ j.host
host_at [] at j d e = absurd (cc)
host_at (x ∷ js) zero j d e = let same : x ≡ j = cc in ap (λ (z : Joined). z.host) same
host_at (x ∷ js) (suc at) j d e = host_at js at j d e

place_of : (c : goal.After-members_at) → c.args.at < length c.members_at.result.now
place_of c =
    within c.self.inside.placement.state.rooms c.args.room c.args.at c.members_at.result.now (subst (λ (v : PostView). IsMemberPlace v.placement.rooms c.args.room c.args.at) (sym c.self.view_is) c.requires) c.members_at.ensures.hosts

pub offset_bounds-members_at-at : goal.offset_bounds-members_at-at
offset_bounds-members_at-at c = let below = place_of c in omega (arith, c.members_at.type_inv.1)

pub bounds-members_at-at : goal.bounds-members_at-at
bounds-members_at-at c = place_of c

pub bounds-members_at-at-then-is_late : goal.bounds-members_at-at-then-is_late
bounds-members_at-at-then-is_late c = place_of c

pub returns-then-is_late : goal.returns-then-is_late
returns-then-is_late c = λ r j here e.
    let rooms : slice_get c.self.inside.placement.state.rooms c.args.room ≡ Some r = ap (λ (v : PostView). slice_get v.placement.rooms c.args.room) c.self.view_is ∙ here in
    let late = sym (c.is_late.ensures r j rooms e) ∙ c.if-is_late.true in
    let d = c.index-members_at-at.result in
    let host = ap (λ (hs : List HostInfo). get_or hs c.args.at d) (c.members_at.ensures.hosts r rooms) ∙ host_at r.room.members c.args.at j d e in
    ap (λ (h : HostInfo). Some h.member) host ∙ sym (ap (λ (b : Bool). cond b (Some j.host.member) None) late)
