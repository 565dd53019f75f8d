-- In each state of a run, rounds have nothing left to do in any room.
use Rattle.std.proofs.Common.{◌≡◌, ℕ, Bool, true, false, cond, List, [], ◌∷◌, length, map, Option, None, Some, refl, subst}
use Rattle.std.specs.Prelude.{bytes_eq, nat_le, ◌==◌}
use Rattle.std.proofs.lemmas.Bool.{cond_both}
use Rattle.place_table.specs.declared.host.HostInfo.{HostInfo}
use Rattle.round_core.specs.declared.event.PlaceEvent.{PlaceEvent}
use Rattle.round_core.specs.declared.event.PlaceEvent.TheVariants as events
use Rattle.member_roster.specs.Members.{is_before}
use Rattle.round_core.specs.Room.{RoomState, new_room, room_step}
use Rattle.round_core.specs.Runs.{RunEvent, Steps, Restarts}
use Rattle.round_core.specs.Settled.{IsSettled}
use Rattle.round_core.proofs.Settling.{new_settled, step_settled, restart_settled}
use Rattle.placement_core.specs.Placement.{SpaceRoom, PlacementState, PlacementStep, new_placement, most_spaces, room_at, put_room, each_room, ticked, restarted, in_room, joins_room, placement_step}
use Rattle.placement_core.specs.Runs.{AreSettled, state_after, run_state}

at_settled : (rs : List SpaceRoom) (space : List ℕ) (room : RoomState) → AreSettled rs → room_at rs space ≡ Some room → IsSettled room
at_settled [] space room k e = absurd (cc)
at_settled (r ∷ rs) space room k e = go (bytes_eq space r.space) (at_settled rs space room k.1) e
  where
    go : (b : Bool) → (room_at rs space ≡ Some room → IsSettled room) → cond b (Some r.room) (room_at rs space) ≡ Some room → IsSettled room
    go true ih e = let same : r.room ≡ room = cc in subst IsSettled same k.0
    go false ih e = ih e

put_settled : (rs : List SpaceRoom) (space : List ℕ) (room : RoomState) → AreSettled rs → IsSettled room → AreSettled (put_room rs space room)
put_settled [] space room k h = (h, tt)
put_settled (r ∷ rs) space room k h =
    cond_both (bytes_eq space r.space) _ _ AreSettled
    (λ _. (h, k.1))
    (λ _. cond_both (is_before space r.space) _ _ AreSettled (λ _. (h, k)) (λ _. (k.0, put_settled rs space room k.1 h)))

each_settled : (f : RoomState → RoomState) (rs : List SpaceRoom) → ((s : RoomState) → IsSettled s → IsSettled (f s)) → AreSettled rs → AreSettled (map (each_room f) rs)
each_settled f [] h k = tt
each_settled f (r ∷ rs) h k = (h r.room k.0, each_settled f rs h k.1)

abbrev Settles : PlacementStep → Type 0
Settles t = AreSettled t.state.rooms

in_settled : (s : PlacementState) (space : List ℕ) (event : PlaceEvent) (now : ℕ) (o : Option RoomState) → AreSettled s.rooms → room_at s.rooms space ≡ o → Settles (in_room s space event now o)
in_settled s space event now None k e = k
in_settled s space event now (Some room) k e = put_settled s.rooms space (room_step room event now).state k (step_settled room event now (at_settled s.rooms space room k e))

joins_settled : (s : PlacementState) (host : HostInfo) (now : ℕ) (o : Option RoomState) → AreSettled s.rooms → room_at s.rooms host.member.space ≡ o → Settles (joins_room s host now o)
joins_settled s host now None k e =
    cond_both (nat_le most_spaces (length s.rooms)) _ _ Settles
    (λ _. k)
    (λ _. cond_both (host.member.boot == 0) _ _ Settles
    (λ _. k)
    (λ _. put_settled s.rooms host.member.space (room_step new_room (events.Register host) now).state k (step_settled new_room (events.Register host) now new_settled)))
joins_settled s host now (Some room) k e = put_settled s.rooms host.member.space (room_step room (events.Register host) now).state k (step_settled room (events.Register host) now (at_settled s.rooms host.member.space room k e))

pub placement_settled : (s : PlacementState) (event : PlaceEvent) (now : ℕ) → AreSettled s.rooms → AreSettled (placement_step s event now).state.rooms
placement_settled s (events.Register host) now k = joins_settled s host now (room_at s.rooms host.member.space) k refl
placement_settled s (events.Beat m) now k = in_settled s m.space (events.Beat m) now (room_at s.rooms m.space) k refl
placement_settled s (events.Ack m stage version) now k = in_settled s m.space (events.Ack m stage version) now (room_at s.rooms m.space) k refl
placement_settled s (events.Leave m) now k = in_settled s m.space (events.Leave m) now (room_at s.rooms m.space) k refl
placement_settled s (events.Lost m) now k = in_settled s m.space (events.Lost m) now (room_at s.rooms m.space) k refl
placement_settled s events.Tick now k = each_settled (ticked now) s.rooms (λ r h. step_settled r events.Tick now h) k
placement_settled s events.Look now k = k

event_settled : (s : PlacementState) (e : RunEvent) → AreSettled s.rooms → AreSettled (state_after s e).rooms
event_settled s (Steps event now) k = placement_settled s event now k
event_settled s (Restarts now) k = each_settled (restarted now) s.rooms (λ r h. restart_settled r now) k

pub run_settled : (s : PlacementState) (run : List RunEvent) → AreSettled s.rooms → AreSettled (run_state s run).rooms
run_settled s [] k = k
run_settled s (e ∷ es) k = run_settled (state_after s e) es (event_settled s e k)

pub opening_settled : AreSettled new_placement.rooms
opening_settled = (new_settled, tt)
