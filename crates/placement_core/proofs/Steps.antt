-- Steps of the placement from steps in the room of a space.
use Rattle.std.proofs.Common.{◌≡◌, ◌⊎◌, inl, inr, ℕ, ◌<◌, ◌≤◌, Bool, true, false, cond, List, [], ◌∷◌, length, None, Some, refl, sym, ap, subst, ◌∙◌, arith}
use Rattle.std.specs.Prelude.{bytes_eq, nat_le, ◌==◌}
use Rattle.std.specs.List.{slice_get}
use Rattle.std.proofs.lemmas.Bool.{leb-true}
use Rattle.std.proofs.lemmas.Bool.Decides.{Decides-eqb}
use Rattle.place_table.specs.declared.host.HostInfo.{HostInfo}
use Rattle.actor_names.specs.Names.{default_space}
use Rattle.round_core.specs.declared.event.PlaceEvent.{PlaceEvent}
use Rattle.round_core.specs.declared.event.PlaceEvent.TheVariants as events
use Rattle.round_core.specs.declared.event.PlaceReply.{PlaceReply}
use Rattle.round_core.specs.declared.event.PlaceReply.TheVariants as replies
use Rattle.member_roster.specs.Members.{is_before}
use Rattle.round_core.specs.Room.{RoomState, new_room, room_step}
use Rattle.round_core.specs.Views.{RoomView}
use Rattle.round_core.specs.Views.{GivesStep as RoomGivesStep, GivesInMemory as RoomGivesInMemory, Gives as RoomGives}
use Rattle.placement_core.specs.Kept.{shown}
use Rattle.placement_core.specs.Placement.{SpaceRoom, PlacementState, PlacementStep, new_placement, room_at, put_room, in_room, joins_room, refused, placement_step, room_stepped, most_spaces}
use Rattle.placement_core.specs.Views.{Gives, GivesInMemory, IsOfMember, IsMemberPlace, StepsRoom, StepsInMemory, StepsAny, HasStepped}
use Rattle.placement_core.proofs.Searched.{same_space}
use Rattle.placement_core.proofs.Spaces.{got}

-- ---- the room of a space steps

any_room : (event : PlaceEvent) (now : ℕ) (reply : PlaceReply) (old new : RoomView) (space : List ℕ) (rs ss : List SpaceRoom) → ss ≡ put_room rs space new.state → RoomGives event now reply old new → StepsRoom event now space old.state reply rs ss
any_room event now reply old new space rs ss put g = (g.0, put ∙ ap (λ (v : RoomView). put_room rs space v.state) g.1)

in_memory : (event : PlaceEvent) (now : ℕ) (reply : PlaceReply) (old new : RoomView) (space : List ℕ) (rs ss : List SpaceRoom) → put_room rs space old.state ≡ rs → ss ≡ put_room rs space new.state → RoomGivesInMemory event now reply old new → StepsInMemory event now space old.state reply rs ss
in_memory event now (replies.Lock v) old new space rs ss same put g = any_room event now (replies.Lock v) old new space rs ss put g
in_memory event now (replies.Update v) old new space rs ss same put g = any_room event now (replies.Update v) old new space rs ss put g
in_memory event now (replies.Unlock v) old new space rs ss same put g = any_room event now (replies.Unlock v) old new space rs ss put g
in_memory event now replies.Idle old new space rs ss same put g = any_room event now replies.Idle old new space rs ss put g
in_memory event now replies.Gone old new space rs ss same put g = any_room event now replies.Gone old new space rs ss put g
in_memory event now (replies.Ticked n) old new space rs ss same put g = any_room event now (replies.Ticked n) old new space rs ss put g
in_memory event now replies.Looked old new space rs ss same put g = any_room event now replies.Looked old new space rs ss put g
in_memory event now (replies.StaleBoot n) old new space rs ss same put g = any_room event now (replies.StaleBoot n) old new space rs ss put g
in_memory event now (replies.NodeBusy n) old new space rs ss same put g = any_room event now (replies.NodeBusy n) old new space rs ss put g
in_memory event now (replies.NotMember n) old new space rs ss same put g = any_room event now (replies.NotMember n) old new space rs ss put g
in_memory event now (replies.SpacesFull n) old new space rs ss same put g = any_room event now (replies.SpacesFull n) old new space rs ss put g
in_memory event now (replies.Full n m) old new space rs ss same put g = any_room event now (replies.Full n m) old new space rs ss put g
in_memory event now replies.OutOfMemory old new space rs ss same put g = put ∙ ap (λ (v : RoomView). put_room rs space v.state) g ∙ same

pub steps_any : (event : PlaceEvent) (now : ℕ) (reply : PlaceReply) (old new : RoomView) (space : List ℕ) (rs ss : List SpaceRoom) → put_room rs space old.state ≡ rs → ss ≡ put_room rs space new.state → RoomGivesStep event now reply old new → StepsAny event now space old.state reply rs ss
steps_any (events.Register host) now reply old new space rs ss same put g = in_memory (events.Register host) now reply old new space rs ss same put g
steps_any (events.Beat m) now reply old new space rs ss same put g = any_room (events.Beat m) now reply old new space rs ss put g
steps_any (events.Ack m stage version) now reply old new space rs ss same put g = any_room (events.Ack m stage version) now reply old new space rs ss put g
steps_any (events.Leave m) now reply old new space rs ss same put g = any_room (events.Leave m) now reply old new space rs ss put g
steps_any (events.Lost m) now reply old new space rs ss same put g = any_room (events.Lost m) now reply old new space rs ss put g
steps_any events.Tick now reply old new space rs ss same put g = any_room events.Tick now reply old new space rs ss put g
steps_any events.Look now reply old new space rs ss same put g = any_room events.Look now reply old new space rs ss put g

-- ---- what is shown of the rooms that are kept

pub shown_put : (rs : List SpaceRoom) (space : List ℕ) (room : RoomState) → shown (put_room rs space room) ≡ record { rooms = put_room rs space room }
shown_put [] space room = refl
shown_put (r ∷ rs) space room = go (bytes_eq space r.space)
  where
    go : (b : Bool) → let rooms = cond b (record { space = space; room = room } ∷ rs) (cond (is_before space r.space) (record { space = space; room = room } ∷ r ∷ rs) (r ∷ put_room rs space room)) in shown rooms ≡ record { rooms = rooms }
    go true = refl
    go false = behind (is_before space r.space)
      where
        behind : (c : Bool) → let rooms = cond c (record { space = space; room = room } ∷ r ∷ rs) (r ∷ put_room rs space room) in shown rooms ≡ record { rooms = rooms }
        behind true = refl
        behind false = refl

pub shown_kept : (rs : List SpaceRoom) → 0 < length rs → shown rs ≡ record { rooms = rs }
shown_kept [] l = absurd (omega arith)
shown_kept (r ∷ rs) l = refl

pub shown_found : (rs : List SpaceRoom) (space : List ℕ) (room : RoomState) → room_at rs space ≡ Some room → shown rs ≡ record { rooms = rs }
shown_found [] space room e = absurd (cc)
shown_found (r ∷ rs) space room e = refl

-- ---- what members do

-- the step in the room that is there
found_gives : (event : PlaceEvent) (now : ℕ) (space : List ℕ) (room : RoomState) (reply : PlaceReply) (rs ss : List SpaceRoom) → room_at rs space ≡ Some room → StepsRoom event now space room reply rs ss → (t : PlacementStep) → t ≡ room_stepped (record { rooms = rs }) space (room_step room event now) → (reply ≡ t.reply) × (shown ss ≡ t.state)
found_gives event now space room reply rs ss at g t e =
    (g.0 ∙ ap (λ (x : PlacementStep). x.reply) (sym e), ap shown g.1 ∙ shown_put rs space (room_step room event now).state ∙ ap (λ (x : PlacementStep). x.state) (sym e))

-- a step of the placement, if the room of its space is there
found_step : (s : PlacementState) (rs : List SpaceRoom) (event : PlaceEvent) (now : ℕ) (space its : List ℕ) (room : RoomState) → space ≡ its → s ≡ record { rooms = rs } → room_at rs space ≡ Some room → in_room s its event now (room_at s.rooms its) ≡ room_stepped (record { rooms = rs }) space (room_step room event now)
found_step s rs event now space its room of e at = rw (← of, e, at) refl

pub member_gives : (event : PlaceEvent) (now : ℕ) (space : List ℕ) (reply : PlaceReply) (rs ss : List SpaceRoom) → IsOfMember event space → HasStepped event now space reply rs ss → Gives event now reply (shown rs) (shown ss)
member_gives (events.Register host) now space reply rs ss of h = absurd of
member_gives (events.Beat m) now space reply rs ss of h = found_gives (events.Beat m) now space h.room reply rs ss h.is h.steps (placement_step (shown rs) (events.Beat m) now) (found_step (shown rs) rs (events.Beat m) now space m.space h.room of (shown_found rs space h.room h.is) h.is)
member_gives (events.Ack m stage version) now space reply rs ss of h = found_gives (events.Ack m stage version) now space h.room reply rs ss h.is h.steps (placement_step (shown rs) (events.Ack m stage version) now) (found_step (shown rs) rs (events.Ack m stage version) now space m.space h.room of (shown_found rs space h.room h.is) h.is)
member_gives (events.Leave m) now space reply rs ss of h = found_gives (events.Leave m) now space h.room reply rs ss h.is h.steps (placement_step (shown rs) (events.Leave m) now) (found_step (shown rs) rs (events.Leave m) now space m.space h.room of (shown_found rs space h.room h.is) h.is)
member_gives (events.Lost m) now space reply rs ss of h = found_gives (events.Lost m) now space h.room reply rs ss h.is h.steps (placement_step (shown rs) (events.Lost m) now) (found_step (shown rs) rs (events.Lost m) now space m.space h.room of (shown_found rs space h.room h.is) h.is)
member_gives events.Tick now space reply rs ss of h = absurd of
member_gives events.Look now space reply rs ss of h = absurd of

-- the space has no room, or the opening one, which stays as it is
abbrev IsNobodyAt : List SpaceRoom → List ℕ → Type 0
IsNobodyAt rs space = (room_at rs space ≡ None) ⊎ ((room_at rs space ≡ Some new_room) × (put_room rs space new_room ≡ rs))

opening_room : (space : List ℕ) → IsNobodyAt new_placement.rooms space
opening_room space = go (bytes_eq space default_space) refl
  where
    rooms : Bool → List SpaceRoom
    rooms b = cond b (record { space = space; room = new_room } ∷ []) (cond (is_before space default_space) (record { space = space; room = new_room } ∷ record { space = default_space; room = new_room } ∷ []) (record { space = default_space; room = new_room } ∷ record { space = space; room = new_room } ∷ []))

    go : (b : Bool) → bytes_eq space default_space ≡ b → (cond b (Some new_room) None ≡ None) ⊎ ((cond b (Some new_room) None ≡ Some new_room) × (rooms b ≡ record { space = default_space; room = new_room } ∷ []))
    go true e = inr (refl, ap (λ (s : List ℕ). record { space = s; room = new_room } ∷ []) (same_space space default_space e))
    go false e = inl refl

nobody_at : (rs : List SpaceRoom) (space : List ℕ) → room_at rs space ≡ None → IsNobodyAt (shown rs).rooms space
nobody_at [] space e = opening_room space
nobody_at (r ∷ rs) space e = inl e

nobody_steps : (s : PlacementState) (event : PlaceEvent) (now : ℕ) (space its : List ℕ) → space ≡ its → room_step new_room event now ≡ record { state = new_room; reply = replies.NotMember 0 } → IsNobodyAt s.rooms space → in_room s its event now (room_at s.rooms its) ≡ refused s (replies.NotMember 0)
nobody_steps s event now space its of step (inl e) = rw (← of, e) refl
nobody_steps s event now space its of step (inr e) =
    rw (← of, e.0, step) (ap (λ (rs : List SpaceRoom). record { state = record { rooms = rs }; reply = replies.NotMember 0 }) e.1)

nobody_gives : (s : PlacementState) (t : PlacementStep) → t ≡ refused s (replies.NotMember 0) → (replies.NotMember 0 ≡ t.reply) × (s ≡ t.state)
nobody_gives s t e = (ap (λ (x : PlacementStep). x.reply) (sym e), ap (λ (x : PlacementStep). x.state) (sym e))

pub stranger_gives : (event : PlaceEvent) (now : ℕ) (space : List ℕ) (rs : List SpaceRoom) → IsOfMember event space → room_at rs space ≡ None → Gives event now (replies.NotMember 0) (shown rs) (shown rs)
stranger_gives (events.Register host) now space rs of e = absurd of
stranger_gives (events.Beat m) now space rs of e = nobody_gives (shown rs) (placement_step (shown rs) (events.Beat m) now) (nobody_steps (shown rs) (events.Beat m) now space m.space of refl (nobody_at rs space e))
stranger_gives (events.Ack m stage version) now space rs of e = nobody_gives (shown rs) (placement_step (shown rs) (events.Ack m stage version) now) (nobody_steps (shown rs) (events.Ack m stage version) now space m.space of refl (nobody_at rs space e))
stranger_gives (events.Leave m) now space rs of e = nobody_gives (shown rs) (placement_step (shown rs) (events.Leave m) now) (nobody_steps (shown rs) (events.Leave m) now space m.space of refl (nobody_at rs space e))
stranger_gives (events.Lost m) now space rs of e = nobody_gives (shown rs) (placement_step (shown rs) (events.Lost m) now) (nobody_steps (shown rs) (events.Lost m) now space m.space of refl (nobody_at rs space e))
stranger_gives events.Tick now space rs of e = absurd of
stranger_gives events.Look now space rs of e = absurd of

-- ---- who registers

-- by cases: whether memory runs out
pub in_memory_gives : (event : PlaceEvent) (now : ℕ) (reply : PlaceReply) (old new : PlacementState) → ((reply ≡ replies.OutOfMemory → ⊥) → Gives event now reply old new) → (reply ≡ replies.OutOfMemory → new ≡ old) → GivesInMemory event now reply old new
in_memory_gives event now (replies.Lock v) old new g m = g (λ e. absurd (cc))
in_memory_gives event now (replies.Update v) old new g m = g (λ e. absurd (cc))
in_memory_gives event now (replies.Unlock v) old new g m = g (λ e. absurd (cc))
in_memory_gives event now replies.Idle old new g m = g (λ e. absurd (cc))
in_memory_gives event now replies.Gone old new g m = g (λ e. absurd (cc))
in_memory_gives event now (replies.Ticked n) old new g m = g (λ e. absurd (cc))
in_memory_gives event now replies.Looked old new g m = g (λ e. absurd (cc))
in_memory_gives event now (replies.StaleBoot n) old new g m = g (λ e. absurd (cc))
in_memory_gives event now (replies.NodeBusy n) old new g m = g (λ e. absurd (cc))
in_memory_gives event now (replies.NotMember n) old new g m = g (λ e. absurd (cc))
in_memory_gives event now (replies.SpacesFull n) old new g m = g (λ e. absurd (cc))
in_memory_gives event now (replies.Full n k) old new g m = g (λ e. absurd (cc))
in_memory_gives event now replies.OutOfMemory old new g m = m refl

steps_room : (event : PlaceEvent) (now : ℕ) (space : List ℕ) (room : RoomState) (reply : PlaceReply) (rs ss : List SpaceRoom) → (reply ≡ replies.OutOfMemory → ⊥) → StepsInMemory event now space room reply rs ss → StepsRoom event now space room reply rs ss
steps_room event now space room (replies.Lock v) rs ss off g = g
steps_room event now space room (replies.Update v) rs ss off g = g
steps_room event now space room (replies.Unlock v) rs ss off g = g
steps_room event now space room replies.Idle rs ss off g = g
steps_room event now space room replies.Gone rs ss off g = g
steps_room event now space room (replies.Ticked n) rs ss off g = g
steps_room event now space room replies.Looked rs ss off g = g
steps_room event now space room (replies.StaleBoot n) rs ss off g = g
steps_room event now space room (replies.NodeBusy n) rs ss off g = g
steps_room event now space room (replies.NotMember n) rs ss off g = g
steps_room event now space room (replies.SpacesFull n) rs ss off g = g
steps_room event now space room (replies.Full n m) rs ss off g = g
steps_room event now space room replies.OutOfMemory rs ss off g = absurd (off refl)

-- in one room, if memory doesn't run out
room_gives : (event : PlaceEvent) (now : ℕ) (reply : PlaceReply) (old new : RoomView) → (reply ≡ replies.OutOfMemory → ⊥) → RoomGivesInMemory event now reply old new → RoomGives event now reply old new
room_gives event now (replies.Lock v) old new off g = g
room_gives event now (replies.Update v) old new off g = g
room_gives event now (replies.Unlock v) old new off g = g
room_gives event now replies.Idle old new off g = g
room_gives event now replies.Gone old new off g = g
room_gives event now (replies.Ticked n) old new off g = g
room_gives event now replies.Looked old new off g = g
room_gives event now (replies.StaleBoot n) old new off g = g
room_gives event now (replies.NodeBusy n) old new off g = g
room_gives event now (replies.NotMember n) old new off g = g
room_gives event now (replies.SpacesFull n) old new off g = g
room_gives event now (replies.Full n m) old new off g = g
room_gives event now replies.OutOfMemory old new off g = absurd (off refl)

-- a host joins a room that is there
pub joined_gives : (host : HostInfo) (now : ℕ) (reply : PlaceReply) (rs ss : List SpaceRoom) → HasStepped (events.Register host) now host.member.space reply rs ss → GivesInMemory (events.Register host) now reply (shown rs) (shown ss)
joined_gives host now reply rs ss h =
    in_memory_gives (events.Register host) now reply (shown rs) (shown ss)
    (λ off. found_gives (events.Register host) now host.member.space h.room reply rs ss h.is (steps_room (events.Register host) now host.member.space h.room reply rs ss off h.steps) _ (joins (shown_found rs host.member.space h.room h.is)))
    (λ e. ap shown (out h.room (subst (λ (r : PlaceReply). StepsInMemory (events.Register host) now host.member.space h.room r rs ss) e h.steps)))
  where
    joins : shown rs ≡ record { rooms = rs } → joins_room (shown rs) host now (room_at (shown rs).rooms host.member.space) ≡ room_stepped (record { rooms = rs }) host.member.space (room_step h.room (events.Register host) now)
    joins e = rw (e, h.is) refl

    out : (room : RoomState) → StepsInMemory (events.Register host) now host.member.space room replies.OutOfMemory rs ss → ss ≡ rs
    out room g = g

-- a host joins a room that is made
pub opened_gives : (host : HostInfo) (now : ℕ) (reply : PlaceReply) (rs ss : List SpaceRoom) (old new : RoomView) → 0 < length rs → room_at rs host.member.space ≡ None → nat_le most_spaces (length rs) ≡ false → (host.member.boot == 0) ≡ false → old.state ≡ new_room → (reply ≡ replies.OutOfMemory → ⊥) → RoomGivesStep (events.Register host) now reply old new → ss ≡ put_room rs host.member.space new.state → GivesInMemory (events.Register host) now reply (shown rs) (shown ss)
opened_gives host now reply rs ss old new l free few booted opening off g put =
    in_memory_gives (events.Register host) now reply (shown rs) (shown ss)
    (λ o. opened (shown_kept rs l) (room_gives (events.Register host) now reply old new off g))
    (λ e. absurd (off e))
  where
    opened : shown rs ≡ record { rooms = rs } → RoomGives (events.Register host) now reply old new → Gives (events.Register host) now reply (shown rs) (shown ss)
    opened e h =
        let t = room_step new_room (events.Register host) now in
        let made : joins_room (shown rs) host now (room_at (shown rs).rooms host.member.space) ≡ room_stepped (record { rooms = rs }) host.member.space t = rw (e, free, few, booted) refl in
        let stepped : new.state ≡ t.state = ap (λ (v : RoomView). v.state) h.1 ∙ ap (λ (s : RoomState). (room_step s (events.Register host) now).state) opening in (
          h.0 ∙ ap (λ (s : RoomState). (room_step s (events.Register host) now).reply) opening ∙ ap (λ (x : PlacementStep). x.reply) (sym made),
          ap shown put ∙ shown_put rs host.member.space new.state ∙ ap (λ (s : RoomState). record { rooms = put_room rs host.member.space s }) stepped ∙ ap (λ (x : PlacementStep). x.state) (sym made),
        )

-- a host is refused if there are 64 rooms, or if its boot is 0
pub spaces_full : (host : HostInfo) (now n : ℕ) (rs : List SpaceRoom) → 0 < length rs → room_at rs host.member.space ≡ None → nat_le most_spaces (length rs) ≡ true → n ≡ length rs → GivesInMemory (events.Register host) now (replies.SpacesFull n) (shown rs) (shown rs)
spaces_full host now n rs l free full e =
    let made : joins_room (shown rs) host now (room_at (shown rs).rooms host.member.space) ≡ refused (record { rooms = rs }) (replies.SpacesFull (length rs)) = rw (shown_kept rs l, free, full) refl in
    (ap (λ (k : ℕ). replies.SpacesFull k) e ∙ ap (λ (x : PlacementStep). x.reply) (sym made), shown_kept rs l ∙ ap (λ (x : PlacementStep). x.state) (sym made))

pub boot_zero : (host : HostInfo) (now : ℕ) (rs : List SpaceRoom) → 0 < length rs → room_at rs host.member.space ≡ None → nat_le most_spaces (length rs) ≡ false → (host.member.boot == 0) ≡ true → GivesInMemory (events.Register host) now (replies.StaleBoot 0) (shown rs) (shown rs)
boot_zero host now rs l free few zero =
    let made : joins_room (shown rs) host now (room_at (shown rs).rooms host.member.space) ≡ refused (record { rooms = rs }) (replies.StaleBoot 0) = rw (shown_kept rs l, free, few, zero) refl in
    (ap (λ (x : PlacementStep). x.reply) (sym made), shown_kept rs l ∙ ap (λ (x : PlacementStep). x.state) (sym made))

-- showing the shown rooms again changes nothing
pub shown_again : (rs : List SpaceRoom) → shown (shown rs).rooms ≡ shown rs
shown_again [] = refl
shown_again (r ∷ rs) = refl

-- `member` is an index of the members of the room at the index `at`
pub member_place : (rs : List SpaceRoom) (at member : ℕ) (room : RoomState) → 0 < length rs → ((r : SpaceRoom) → slice_get rs at ≡ Some r → room ≡ r.room) → IsMemberPlace (shown rs).rooms at member → member < length room.members
member_place [] at member room l is h = absurd (omega arith)
member_place (r ∷ rs) at member room l is h =
    let g = got (r ∷ rs) at h.0 in
    rw (is g.0 g.1) (h.1 g.0 g.1)

pub not_at_most : (a b : ℕ) → b < a → nat_le a b ≡ false
not_at_most a b l = go (nat_le a b) refl
  where
    go : (t : Bool) → nat_le a b ≡ t → nat_le a b ≡ false
    go true e = let h : a ≤ b = leb-true a b e in absurd (omega arith)
    go false e = e

pub not_zero : (n : ℕ) → (n ≡ 0 → ⊥) → (n == 0) ≡ false
not_zero n f = go (n == 0) refl
  where
    go : (t : Bool) → (n == 0) ≡ t → (n == 0) ≡ false
    go true e = absurd (f ((Decides-eqb n 0).0 e))
    go false e = e
