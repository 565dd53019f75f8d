-- In each state of a run the rooms are in byte order of space, and at most 64.
use Rattle.std.proofs.Common.{◌≡◌, ℕ, ◌+◌, ◌<◌, ◌≤◌, List, [], ◌∷◌, length, map, Option, None, Some, refl, arith}
use Rattle.std.specs.Prelude.{bytes_eq, nat_le, ◌==◌}
use Rattle.std.specs.declared.cmp.Ordering.{Ordering}
use Rattle.std.specs.declared.cmp.Ordering.TheVariants.{Less, Equal, Greater}
use Rattle.std.proofs.lemmas.Bool.{cond_both, leb-false}
use Rattle.place_table.specs.declared.host.HostInfo.{HostInfo}
use Rattle.member_roster.specs.Members.{is_before}
use Rattle.member_roster.specs.Places.{Ascends}
use Rattle.member_roster.proofs.Places.{cmp, same_texts, before_texts}
use Rattle.round_core.specs.declared.event.PlaceEvent.{PlaceEvent}
use Rattle.round_core.specs.declared.event.PlaceEvent.TheVariants as events
use Rattle.round_core.specs.Room.{RoomState, new_room, room_step}
use Rattle.round_core.specs.Runs.{RunEvent, Steps, Restarts}
use Rattle.placement_core.specs.Placement.{SpaceRoom, PlacementState, PlacementStep, new_placement, most_spaces, room_at, put_room, each_room, ticked, restarted, in_room, joins_room, placement_step, placement_restarted}
use Rattle.placement_core.specs.Runs.{AreRooms, space_of, run_state}
use Rattle.placement_core.proofs.Orders.{absent, ascends_put, ascends_each}
use Rattle.placement_core.proofs.Searched.{length_mapped}

put_more : (rs : List SpaceRoom) (space : List ℕ) (room : RoomState) → length (put_room rs space room) ≤ length rs + 1
put_more [] space room = omega arith
put_more (r ∷ rs) space room =
    let l = put_more rs space room in
    cond_both (bytes_eq space r.space) _ _ (λ (ts : List SpaceRoom). length ts ≤ length (r ∷ rs) + 1)
    (λ _. omega arith)
    (λ _. cond_both (is_before space r.space) _ _ (λ (ts : List SpaceRoom). length ts ≤ length (r ∷ rs) + 1) (λ _. omega arith) (λ _. omega arith))

-- a room put where its space has one
put_same : (rs : List SpaceRoom) (space : List ℕ) (room new : RoomState) → Ascends space_of rs → room_at rs space ≡ Some room → length (put_room rs space new) ≡ length rs
put_same [] space room new a e = absurd (cc)
put_same (r ∷ rs) space room new a e = go (cmp r.space space) refl (put_same rs space room new a.1) e
  where
    go : (o : Ordering) → cmp r.space space ≡ o → (room_at rs space ≡ Some room → length (put_room rs space new) ≡ length rs) → room_at (r ∷ rs) space ≡ Some room → length (put_room (r ∷ rs) space new) ≡ length (r ∷ rs)
    go Less o ih e =
        let other = same_texts r.space space Less o in
        let l = ih (rw other at e) in
        rw (other, before_texts r.space space Less o) (omega arith)
    go Equal o ih e = rw (same_texts r.space space Equal o) refl
    go Greater o ih e =
        let other = same_texts r.space space Greater o in
        let gone = absent r.space space rs o a.0 in
        let there : room_at rs space ≡ Some room = rw other at e in
        absurd (cc)

abbrev Stays : PlacementStep → Type 0
Stays t = AreRooms t.state.rooms

in_ordered : (s : PlacementState) (space : List ℕ) (event : PlaceEvent) (now : ℕ) (o : Option RoomState) → AreRooms s.rooms → room_at s.rooms space ≡ o → Stays (in_room s space event now o)
in_ordered s space event now None a e = a
in_ordered s space event now (Some room) a e =
    let new = (room_step room event now).state in
    record { ascend = ascends_put space new s.rooms a.ascend; few = (let l = put_same s.rooms space room new a.ascend e in let f = a.few in omega arith) }

joins_ordered : (s : PlacementState) (host : HostInfo) (now : ℕ) (o : Option RoomState) → AreRooms s.rooms → room_at s.rooms host.member.space ≡ o → Stays (joins_room s host now o)
joins_ordered s host now None a e =
    let new = (room_step new_room (events.Register host) now).state in
    cond_both (nat_le most_spaces (length s.rooms)) _ _ Stays
    (λ _. a)
    (λ f. cond_both (host.member.boot == 0) _ _ Stays
    (λ _. a)
    (λ _. record { ascend = ascends_put host.member.space new s.rooms a.ascend; few = (let l = put_more s.rooms host.member.space new in let less : length s.rooms < 64 = leb-false 64 (length s.rooms) f in omega arith) }))
joins_ordered s host now (Some room) a e = in_ordered s host.member.space (events.Register host) now (Some room) a e

each_ordered : (f : RoomState → RoomState) (rs : List SpaceRoom) → AreRooms rs → AreRooms (map (each_room f) rs)
each_ordered f rs a = record { ascend = ascends_each f rs a.ascend; few = (let l = length_mapped (each_room f) rs in let few = a.few in omega arith) }

step_ordered : (s : PlacementState) (event : PlaceEvent) (now : ℕ) → AreRooms s.rooms → AreRooms (placement_step s event now).state.rooms
step_ordered s (events.Register host) now a = joins_ordered s host now (room_at s.rooms host.member.space) a refl
step_ordered s (events.Beat m) now a = in_ordered s m.space (events.Beat m) now (room_at s.rooms m.space) a refl
step_ordered s (events.Ack m stage version) now a = in_ordered s m.space (events.Ack m stage version) now (room_at s.rooms m.space) a refl
step_ordered s (events.Leave m) now a = in_ordered s m.space (events.Leave m) now (room_at s.rooms m.space) a refl
step_ordered s (events.Lost m) now a = in_ordered s m.space (events.Lost m) now (room_at s.rooms m.space) a refl
step_ordered s events.Tick now a = each_ordered (ticked now) s.rooms a
step_ordered s events.Look now a = a

run_rooms : (s : PlacementState) (run : List RunEvent) → AreRooms s.rooms → AreRooms (run_state s run).rooms
run_rooms s [] a = a
run_rooms s (Steps event now ∷ run) a = run_rooms (placement_step s event now).state run (step_ordered s event now a)
run_rooms s (Restarts now ∷ run) a = run_rooms (placement_restarted s now) run (each_ordered (restarted now) s.rooms a)

pub run_ordered : (run : List RunEvent) → AreRooms (run_state new_placement run).rooms
run_ordered run = run_rooms new_placement run (record { ascend = (tt, tt); few = omega arith })
