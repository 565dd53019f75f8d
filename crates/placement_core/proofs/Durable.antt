-- A step leaves no record exactly if a restart keeps the same of each room as before.
use Rattle.std.proofs.Common.{ℕ, ◌≡◌, Bool, true, false, cond, List, [], ◌∷◌, ◌++◌, length, map, Option, None, Some, refl, sym, ◌∙◌, subst}
use Rattle.std.specs.Prelude.{bytes_eq, nat_le, ◌==◌, ◌↔◌}
use Rattle.place_table.specs.declared.host.HostInfo.{HostInfo}
use Rattle.member_roster.specs.Members.{is_before}
use Rattle.member_roster.specs.Places.{Ascends}
use Rattle.round_core.specs.declared.event.PlaceEvent.{PlaceEvent}
use Rattle.round_core.specs.declared.event.PlaceEvent.TheVariants as events
use Rattle.round_core.specs.declared.event.PlaceReply.TheVariants as replies
use Rattle.round_core.specs.Room.{RoomState, new_room, room_step, SameDurableState}
use Rattle.round_core.specs.Records.{RecordOf, step_record}
use Rattle.round_core.proofs.Durable.{recorded_durable}
use Rattle.round_core.proofs.Hosts.{same_bytes}
use Rattle.placement_core.specs.Entries.{EntryOf, noted, each_record, room_entries, join_entries, tick_record, placement_record}
use Rattle.placement_core.specs.Placement.{SpaceRoom, PlacementState, most_spaces, room_at, put_room, each_room, ticked, in_room, joins_room, refused, room_stepped, placement_step}
use Rattle.placement_core.specs.Runs.{space_of, SameRooms}
use Rattle.placement_core.proofs.Replays.{same_self, same_at, none_at, put_kept, joined_record}

same_back : (rs ts : List SpaceRoom) → SameRooms rs ts → SameRooms ts rs
same_back [] [] d = tt
same_back [] (t ∷ ts) d = absurd d
same_back (r ∷ rs) [] d = absurd d
same_back (r ∷ rs) (t ∷ ts) d =
    (sym d.0, record { next_version = sym d.1.next_version; boots = sym d.1.boots; members = sym d.1.members }, same_back rs ts d.2)

put_at : (rs : List SpaceRoom) (space : List ℕ) (room : RoomState) → room_at (put_room rs space room) space ≡ Some room
put_at [] space room = rw (same_bytes space) refl
put_at (r ∷ rs) space room = go (bytes_eq space r.space) (is_before space r.space) refl (put_at rs space room)
  where
    go : (b c : Bool) → bytes_eq space r.space ≡ b → room_at (put_room rs space room) space ≡ Some room → room_at (cond b (record { space = space; room = room } ∷ rs) (cond c (record { space = space; room = room } ∷ r ∷ rs) (r ∷ put_room rs space room))) space ≡ Some room
    go true c e ih = rw (same_bytes space) refl
    go false true e ih = rw (same_bytes space) refl
    go false false e ih = rw e ih

-- the rooms are the same as before exactly if there is no entry
abbrev Durable : List SpaceRoom → List SpaceRoom → List EntryOf → Type 0
Durable rs ts es = (es ≡ []) ↔ SameRooms rs ts

unchanged : (rs : List SpaceRoom) → Durable rs rs []
unchanged rs = (λ e. same_self rs, λ d. refl)

room_durable : (rs : List SpaceRoom) (space : List ℕ) (room : RoomState) (event : PlaceEvent) (now : ℕ) → Ascends space_of rs → room_at rs space ≡ Some room → Durable rs (put_room rs space (room_step room event now).state) (noted space (step_record room event now))
room_durable rs space room event now a e = go (room_step room event now).state (step_record room event now) (recorded_durable room event now)
  where
    go : (u : RoomState) (o : Option RecordOf) → (o ≡ None) ↔ SameDurableState room u → Durable rs (put_room rs space u) (noted space o)
    go u None k = (λ n. same_back (put_room rs space u) rs (put_kept rs rs space room u a e (same_self rs) (k.0 refl)), λ d. refl)
    go u (Some c) k = (
      λ n. absurd (cc),
      λ d.
          let p = same_at rs (put_room rs space u) space room d e in
          let h : Some p.at ≡ Some u = sym p.is ∙ put_at rs space u in
          let same : p.at ≡ u = cc in
          let none : Some c ≡ None = k.1 (subst (λ (s : RoomState). SameDurableState room s) same p.same) in
          absurd (cc),
    )

member_durable : (s : PlacementState) (space : List ℕ) (event : PlaceEvent) (now : ℕ) (o : Option RoomState) → Ascends space_of s.rooms → room_at s.rooms space ≡ o → Durable s.rooms (in_room s space event now o).state.rooms (room_entries space event now o)
member_durable s space event now None a e = unchanged s.rooms
member_durable s space event now (Some room) a e = room_durable s.rooms space room event now a e

-- a room that is made has an entry
made_durable : (rs : List SpaceRoom) (host : HostInfo) (now : ℕ) → room_at rs host.member.space ≡ None → (host.member.boot == 0) ≡ false → Durable rs (put_room rs host.member.space (room_step new_room (events.Register host) now).state) (noted host.member.space (step_record new_room (events.Register host) now))
made_durable rs host now free booted =
    let space = host.member.space in
    let u = (room_step new_room (events.Register host) now).state in
    let j = joined_record host now booted in
    let made : Durable rs (put_room rs space u) (noted space (Some j.0)) = (
      λ n. absurd (cc),
      λ d.
          let n = none_at rs (put_room rs space u) space d free in
          let h = put_at rs space u in
          absurd (cc),
    ) in
    subst (λ (o : Option RecordOf). Durable rs (put_room rs space u) (noted space o)) (sym j.1) made

join_durable : (s : PlacementState) (host : HostInfo) (now : ℕ) (o : Option RoomState) → Ascends space_of s.rooms → room_at s.rooms host.member.space ≡ o → Durable s.rooms (joins_room s host now o).state.rooms (join_entries s host now o)
join_durable s host now (Some room) a e = room_durable s.rooms host.member.space room (events.Register host) now a e
join_durable s host now None a e = go (nat_le most_spaces (length s.rooms)) (host.member.boot == 0) refl
  where
    go : (full zero : Bool) → (host.member.boot == 0) ≡ zero → Durable s.rooms (cond full (refused s (replies.SpacesFull (length s.rooms))) (cond zero (refused s (replies.StaleBoot 0)) (room_stepped s host.member.space (room_step new_room (events.Register host) now)))).state.rooms (cond full [] (cond zero [] (noted host.member.space (step_record new_room (events.Register host) now))))
    go true zero g = unchanged s.rooms
    go false true g = unchanged s.rooms
    go false false g = made_durable s.rooms host now e g

module _ (f : RoomState → Option RecordOf) (g : RoomState → RoomState) (durable : (s : RoomState) → (f s ≡ None) ↔ SameDurableState s (g s)) where
  all_durable : (rs : List SpaceRoom) → Durable rs (map (each_room g) rs) (each_record f rs)
  all_durable [] = unchanged []
  all_durable (r ∷ rs) = go (f r.room) refl (all_durable rs)
    where
      go : (o : Option RecordOf) → f r.room ≡ o → Durable rs (map (each_room g) rs) (each_record f rs) → Durable (r ∷ rs) (each_room g r ∷ map (each_room g) rs) (noted r.space o ++ each_record f rs)
      go None e ih = (λ n. (refl, (durable r.room).0 e, ih.0 n), λ d. ih.1 d.2)
      go (Some c) e ih = (λ n. absurd (cc), λ d. let none = (durable r.room).1 d.1 in absurd (cc))

pub recorded_same : (s : PlacementState) (event : PlaceEvent) (now : ℕ) → Ascends space_of s.rooms → (placement_record s event now ≡ []) ↔ SameRooms s.rooms (placement_step s event now).state.rooms
recorded_same s (events.Register host) now a = join_durable s host now (room_at s.rooms host.member.space) a refl
recorded_same s (events.Beat m) now a = member_durable s m.space (events.Beat m) now (room_at s.rooms m.space) a refl
recorded_same s (events.Ack m stage version) now a = member_durable s m.space (events.Ack m stage version) now (room_at s.rooms m.space) a refl
recorded_same s (events.Leave m) now a = member_durable s m.space (events.Leave m) now (room_at s.rooms m.space) a refl
recorded_same s (events.Lost m) now a = member_durable s m.space (events.Lost m) now (room_at s.rooms m.space) a refl
recorded_same s events.Tick now a = all_durable (tick_record now) (ticked now) (λ r. recorded_durable r events.Tick now) s.rooms
recorded_same s events.Look now a = unchanged s.rooms
