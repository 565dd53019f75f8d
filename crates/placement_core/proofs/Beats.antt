-- A Beat that is quiet in its room is quiet in the placement.
use Rattle.std.proofs.Common.{◌≡◌, ℕ, Bool, true, false, cond, List, [], ◌∷◌, Option, None, Some, refl, sym, ap, ◌∙◌}
use Rattle.std.specs.Prelude.{bytes_eq, unwrap_or, IfSome}
use Rattle.actor_names.specs.declared.member.Member.{Member}
use Rattle.member_roster.specs.Members.{is_before}
use Rattle.round_core.specs.declared.event.PlaceEvent.TheVariants as events
use Rattle.round_core.specs.declared.event.PlaceReply.{PlaceReply}
use Rattle.round_core.specs.Records.{RecordOf, step_record}
use Rattle.round_core.specs.Room.{RoomState, RoomStep, new_room, room_step}
use Rattle.round_core.specs.Beats.{IsQuietBeat as IsQuietInRoom}
use Rattle.round_core.proofs.Hosts.{same_bytes}
use Rattle.placement_core.specs.Beats.{IsQuietBeat}
use Rattle.placement_core.specs.Entries.{noted, placement_record}
use Rattle.placement_core.specs.Kept.{shown}
use Rattle.placement_core.specs.Placement.{SpaceRoom, PlacementState, placement_step, put_room, room_at, room_of}
use Rattle.placement_core.proofs.Steps.{shown_found}

-- the room that was put is the one of its space
put_found : (rs : List SpaceRoom) (space : List ℕ) (room : RoomState) → room_at (put_room rs space room) space ≡ Some room
put_found [] space room = rw (same_bytes space) refl
put_found (r ∷ rs) space room = go (bytes_eq space r.space) refl (is_before space r.space) (put_found rs space room)
  where
    go : (b : Bool) → bytes_eq space r.space ≡ b → (c : Bool) → room_at (put_room rs space room) space ≡ Some room
        → room_at (cond b (record { space = space; room = room } ∷ rs) (cond c (record { space = space; room = room } ∷ r ∷ rs) (r ∷ put_room rs space room))) space ≡ Some room
    go true e c ih = rw (same_bytes space) refl
    go false e true ih = rw (same_bytes space) refl
    go false e false ih = rw e ih

module _ (rs : List SpaceRoom) (m : Member) (room : RoomState) (reply : PlaceReply) (at : room_at rs m.space ≡ Some room) (quiet : IsQuietInRoom room m reply) where
  abbrev kept : PlacementState
  kept = record { rooms = rs }

  kept_table : (room_of kept m.space).table ≡ room.table
  kept_table = ap (λ (o : Option RoomState). (unwrap_or o new_room).table) at

  beat_table : (now : ℕ) → (room_of (placement_step kept (events.Beat m) now).state m.space).table ≡ (room_of kept m.space).table
  beat_table now =
      let t : RoomStep = room_step room (events.Beat m) now in
      let stepped : (room_of (placement_step kept (events.Beat m) now).state m.space).table ≡ (unwrap_or (room_at (put_room rs m.space t.state) m.space) new_room).table = rw at refl in
      stepped ∙ ap (λ (o : Option RoomState). (unwrap_or o new_room).table) (put_found rs m.space t.state) ∙ quiet.table now ∙ sym kept_table

  kept_quiet : IsQuietBeat kept m reply
  kept_quiet = record {
    told = quiet.told;
    replies = λ now. rw at (quiet.replies now);
    unrecorded = λ now.
        let recorded : placement_record kept (events.Beat m) now ≡ noted m.space (step_record room (events.Beat m) now) = rw at refl in
        recorded ∙ ap (λ (o : Option RecordOf). noted m.space o) (quiet.unrecorded now);
    table = beat_table;
  }

  shown_quiet : IsQuietBeat (shown rs) m reply
  shown_quiet = rw (shown_found rs m.space room at) kept_quiet

-- the same of an answer that may be none
pub option_quiet : (rs : List SpaceRoom) (m : Member) (room : RoomState) (o : Option PlaceReply) → room_at rs m.space ≡ Some room → IfSome o (λ reply. IsQuietInRoom room m reply) → IfSome o (λ reply. IsQuietBeat (shown rs) m reply)
option_quiet rs m room None at quiet = tt
option_quiet rs m room (Some reply) at quiet = shown_quiet rs m room reply at quiet
