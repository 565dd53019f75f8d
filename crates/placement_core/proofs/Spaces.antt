-- The room of a space if a search finds it, and if it doesn't.
use Rattle.std.proofs.Common.{◌≡◌, ℕ, suc, zero, ◌+◌, ◌<◌, ◌≤◌, Bool, true, false, cond, List, [], ◌∷◌, ◌++◌, length, map, get_or, set, take, drop, None, Some, refl, ap, arith}
use Rattle.std.specs.List.{insert, slice_get}
use Rattle.std.specs.declared.result.Result.TheVariants.{Ok, Err}
use Rattle.actor_names.specs.declared.member.Member.{Member}
use Rattle.member_roster.specs.Members.{Joined, is_late, late_of}
use Rattle.member_roster.specs.Places.{Ascends, place_by}
use Rattle.round_core.specs.Room.{RoomState}
use Rattle.round_core.specs.Views.{RoomView}
use Rattle.placement_core.specs.declared.sweep.KeptRoom.{KeptRoom}
use Rattle.placement_core.specs.Kept.{kept, kept_space, kept_ticked, kept_restarted}
use Rattle.placement_core.specs.Kept.{shown}
use Rattle.placement_core.specs.Runs.{space_of, AreRooms}
use Rattle.placement_core.specs.Placement.{SpaceRoom, room_at, put_room, each_room, ticked, restarted, late_in}
use Rattle.placement_core.proofs.Searched.{at-found, at-missing, put-found, put-new, put-same}

abbrev kept_state : KeptRoom → RoomState
kept_state k = k.room.state

pub room_at-found : (space : List ℕ) (ks : List KeptRoom) (i : ℕ) (d : KeptRoom) → place_by kept_space space ks ≡ Ok i → room_at (map kept ks) space ≡ Some (get_or ks i d).room.state
room_at-found = at-found kept_space kept_state

pub room_at-missing : (space : List ℕ) (ks : List KeptRoom) (i : ℕ) → Ascends kept_space ks → place_by kept_space space ks ≡ Err i → room_at (map kept ks) space ≡ None
room_at-missing = at-missing kept_space kept_state

-- a room in its place
pub put_room-found : (space : List ℕ) (ks : List KeptRoom) (i : ℕ) (d : KeptRoom) (room : RoomView) → place_by kept_space space ks ≡ Ok i → put_room (map kept ks) space room.state ≡ map kept (set ks i (record { space = (get_or ks i d).space; room = room }))
put_room-found space ks i d room = put-found kept_space kept_state space ks i d (record { space = (get_or ks i d).space; room = room }) refl

-- a new room at its place
pub put_room-at : (space : List ℕ) (room : RoomView) (ks : List KeptRoom) (i : ℕ) → place_by kept_space space ks ≡ Err i → put_room (map kept ks) space room.state ≡ map kept (insert ks i (record { space = space; room = room }))
put_room-at space room ks i = put-new kept_space kept_state space (record { space = space; room = room }) ks i refl

-- a room put where it is
pub put_room-same : (space : List ℕ) (ks : List KeptRoom) (i : ℕ) (d : KeptRoom) → place_by kept_space space ks ≡ Ok i → put_room (map kept ks) space (get_or ks i d).room.state ≡ map kept ks
put_room-same = put-same kept_space kept_state

-- ---- all rooms at once

pub map_ticked : (now : ℕ) (ks : List KeptRoom) → map kept (map (kept_ticked now) ks) ≡ map (each_room (ticked now)) (map kept ks)
map_ticked now [] = refl
map_ticked now (k ∷ ks) = ap (λ rs. kept (kept_ticked now k) ∷ rs) (map_ticked now ks)

pub map_restarted : (now : ℕ) (ks : List KeptRoom) → map kept (map (kept_restarted now) ks) ≡ map (each_room (restarted now)) (map kept ks)
map_restarted now [] = refl
map_restarted now (k ∷ ks) = ap (λ rs. kept (kept_restarted now k) ∷ rs) (map_restarted now ks)

length_joined : (xs ys : List Member) → length (xs ++ ys) ≡ length xs + length ys
length_joined [] ys = omega arith
length_joined (x ∷ xs) ys = let e = length_joined xs ys in omega arith

pub late_more : (now : ℕ) (ks : List KeptRoom) (i : ℕ) (d : KeptRoom) → i < length ks → length (late_in (map kept (take (suc i) ks)) now) ≡ length (late_in (map kept (take i ks)) now) + length (late_of (get_or ks i d).room.state.members now)
late_more now [] i d l = absurd (omega arith)
late_more now (k ∷ ks) zero d l =
    let e = length_joined (late_of k.room.state.members now) [] in omega arith
late_more now (k ∷ ks) (suc i) d l =
    let e = length_joined (late_of k.room.state.members now) (late_in (map kept (take (suc i) ks)) now) in
    let f = length_joined (late_of k.room.state.members now) (late_in (map kept (take i ks)) now) in
    let ih = late_more now ks i d (omega arith) in
    omega arith

pub late_few : (js : List Joined) (now : ℕ) → length (late_of js now) ≤ length js
late_few [] now = omega arith
late_few (j ∷ js) now = go (is_late now j) (late_few js now)
  where
    go : (b : Bool) → length (late_of js now) ≤ length js → length (cond b (j.host.member ∷ late_of js now) (late_of js now)) ≤ length (j ∷ js)
    go true ih = omega arith
    go false ih = omega arith

-- what a loop over the rooms reads is what was there
pub read_at : (f : KeptRoom → KeptRoom) (ks js : List KeptRoom) (i : ℕ) (x : KeptRoom) → i < length ks → js ≡ map f (take i ks) ++ drop i ks → get_or js i x ≡ get_or ks i x
read_at f ks js i x l e = rw e (go ks i l)
  where
    go : (ks : List KeptRoom) (i : ℕ) → i < length ks → get_or (map f (take i ks) ++ drop i ks) i x ≡ get_or ks i x
    go [] i l = absurd (omega arith)
    go (k ∷ ks) zero l = refl
    go (k ∷ ks) (suc i) l = go ks i (omega arith)

pub got : (rs : List SpaceRoom) (i : ℕ) → i < length rs → (r : SpaceRoom) × (slice_get rs i ≡ Some r)
got [] i l = absurd (omega arith)
got (r ∷ rs) zero l = (r, refl)
got (r ∷ rs) (suc i) l = got rs i (omega arith)

pub shown_rooms : (rs : List SpaceRoom) → Ascends space_of rs → length rs ≤ 64 → AreRooms (shown rs).rooms
shown_rooms [] a l = record { ascend = (tt, tt); few = omega arith }
shown_rooms (r ∷ rs) a l = record { ascend = a; few = l }
