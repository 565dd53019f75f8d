-- A refused event changes nothing.
use Rattle.std.proofs.Common.{◌≡◌, ℕ, false, List, [], ◌∷◌, length, Option, None, Some, refl, sym, ap, ◌∙◌, subst}
use Rattle.std.specs.Prelude.{nat_le, ◌==◌}
use Rattle.std.specs.declared.cmp.Ordering.{Ordering}
use Rattle.std.specs.declared.cmp.Ordering.TheVariants.{Less, Equal, Greater}
use Rattle.std.proofs.lemmas.Bool.{cond_both}
use Rattle.place_table.specs.declared.host.HostInfo.{HostInfo}
use Rattle.member_roster.specs.Places.{Ascends}
use Rattle.member_roster.proofs.Places.{cmp, same_texts, before_texts}
use Rattle.round_core.specs.declared.event.PlaceEvent.{PlaceEvent}
use Rattle.round_core.specs.declared.event.PlaceEvent.TheVariants as events
use Rattle.round_core.specs.Room.{RoomState, new_room, room_step, SameDurableState}
use Rattle.round_core.specs.Settled.{IsRefusal}
use Rattle.round_core.proofs.Durable.{recorded_durable}
use Rattle.round_core.proofs.Settling.{refused_stays}
use Rattle.placement_core.specs.Placement.{SpaceRoom, PlacementState, PlacementStep, most_spaces, room_at, put_room, in_room, joins_room, placement_step}
use Rattle.placement_core.specs.Runs.{space_of}
use Rattle.placement_core.proofs.Searched.{same_space}
use Rattle.placement_core.proofs.Orders.{absent}
use Rattle.placement_core.proofs.Replays.{joined_record}

-- the room of a space, put where it stands
put_back : (rs : List SpaceRoom) (space : List ℕ) (room : RoomState) → Ascends space_of rs → room_at rs space ≡ Some room → put_room rs space room ≡ rs
put_back [] space room a e = absurd (cc)
put_back (r ∷ rs) space room a e = go (cmp r.space space) refl (put_back rs space room a.1) e
  where
    go : (o : Ordering) → cmp r.space space ≡ o → (room_at rs space ≡ Some room → put_room rs space room ≡ rs) → room_at (r ∷ rs) space ≡ Some room → put_room (r ∷ rs) space room ≡ r ∷ rs
    go Less o ih e =
        let other = same_texts r.space space Less o in
        rw (other, before_texts r.space space Less o) (ap (λ (xs : List SpaceRoom). r ∷ xs) (ih (rw other at e)))
    go Equal o ih e =
        let same = same_texts r.space space Equal o in
        let here : Some r.room ≡ Some room = rw same at e in
        let is : r.room ≡ room = cc in
        let at : space ≡ r.space = same_space space r.space same in
        rw same (rw (at, sym is) refl)
    go Greater o ih e =
        let other = same_texts r.space space Greater o in
        let gone = absent r.space space rs o a.0 in
        let there : room_at rs space ≡ Some room = rw other at e in
        absurd (cc)

abbrev Rests : PlacementState → PlacementStep → Type 0
Rests s t = IsRefusal t.reply → t.state ≡ s

in_rests : (s : PlacementState) (space : List ℕ) (event : PlaceEvent) (now : ℕ) (o : Option RoomState) → Ascends space_of s.rooms → room_at s.rooms space ≡ o → Rests s (in_room s space event now o)
in_rests s space event now None a e = λ r. refl
in_rests s space event now (Some room) a e = λ r.
    let same = refused_stays room event now r in
    ap (λ (rs : List SpaceRoom). record { rooms = rs }) (ap (λ (u : RoomState). put_room s.rooms space u) same ∙ put_back s.rooms space room a e)

-- a host that makes a room isn't refused there
made_joins : (host : HostInfo) (now : ℕ) → (host.member.boot == 0) ≡ false → IsRefusal (room_step new_room (events.Register host) now).reply → ⊥
made_joins host now booted r =
    let event = events.Register host in
    let same = refused_stays new_room event now r in
    let kept : SameDurableState new_room new_room = record { next_version = refl; boots = refl; members = refl } in
    let none = (recorded_durable new_room event now).1 (subst (λ (u : RoomState). SameDurableState new_room u) (sym same) kept) in
    let noted = (joined_record host now booted).1 in
    absurd (cc)

join_rests : (s : PlacementState) (host : HostInfo) (now : ℕ) (o : Option RoomState) → Ascends space_of s.rooms → room_at s.rooms host.member.space ≡ o → Rests s (joins_room s host now o)
join_rests s host now (Some room) a e = in_rests s host.member.space (events.Register host) now (Some room) a e
join_rests s host now None a e =
    cond_both (nat_le most_spaces (length s.rooms)) _ _ (Rests s)
    (λ _. λ r. refl)
    (λ _. cond_both (host.member.boot == 0) _ _ (Rests s) (λ _. λ r. refl) (λ booted. λ r. absurd (made_joins host now booted r)))

pub refused_rests : (s : PlacementState) (event : PlaceEvent) (now : ℕ) → Ascends space_of s.rooms → IsRefusal (placement_step s event now).reply → (placement_step s event now).state ≡ s
refused_rests s (events.Register host) now a r = join_rests s host now (room_at s.rooms host.member.space) a refl r
refused_rests s (events.Beat m) now a r = in_rests s m.space (events.Beat m) now (room_at s.rooms m.space) a refl r
refused_rests s (events.Ack m stage version) now a r = in_rests s m.space (events.Ack m stage version) now (room_at s.rooms m.space) a refl r
refused_rests s (events.Leave m) now a r = in_rests s m.space (events.Leave m) now (room_at s.rooms m.space) a refl r
refused_rests s (events.Lost m) now a r = in_rests s m.space (events.Lost m) now (room_at s.rooms m.space) a refl r
refused_rests s events.Tick now a r = absurd r
refused_rests s events.Look now a r = refl
