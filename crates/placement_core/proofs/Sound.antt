-- What holds of each room stays so in every step and restart, so each room is sound, and its hosts are of its space.
use Rattle.std.proofs.Common.{◌≡◌, ◌⊎◌, inl, inr, ℕ, suc, zero, Bool, true, false, cond, List, [], ◌∷◌, ◌++◌, length, map, set, Option, None, Some, refl, sym, subst, arith}
use Rattle.std.specs.Prelude.{bytes_eq, nat_le, ◌==◌}
use Rattle.std.specs.List.{AllByRecursion, insert}
use Rattle.std.proofs.lemmas.Bool.{cond_both}
use Rattle.actor_names.specs.Names.{default_space}
use Rattle.place_table.specs.declared.host.HostInfo.{HostInfo}
use Rattle.place_table.specs.Hosts.{other_space_fault}
use Rattle.round_core.specs.declared.event.PlaceEvent.{PlaceEvent}
use Rattle.round_core.specs.declared.event.PlaceEvent.TheVariants as events
use Rattle.round_core.specs.declared.event.PlaceReply.{PlaceReply}
use Rattle.round_core.specs.declared.event.PlaceReply.TheVariants as replies
use Rattle.member_roster.specs.Members.{is_before}
use Rattle.round_core.specs.Room.{RoomState, new_room, room_step}
use Rattle.round_core.specs.Runs.{RunEvent, Steps, Restarts}
use Rattle.round_core.specs.Sound.{BringsFewTypes, RunsFewTypes}
use Rattle.round_core.proofs.Hosts.{same_bytes}
use Rattle.round_core.proofs.Sound.{new_sound, step_sound, restart_sound}
use Rattle.round_core.proofs.Tables.{few_types}
use Rattle.round_core.proofs.Types.{Brings, new_hosts, step_hosts, restart_hosts, new_types, step_types, restart_types}
use Rattle.placement_core.specs.declared.sweep.KeptRoom.{KeptRoom}
use Rattle.placement_core.specs.Kept.{kept, shown, kept_ticked, kept_restarted}
use Rattle.placement_core.specs.Placement.{SpaceRoom, PlacementState, PlacementStep, new_placement, most_spaces, room_at, put_room, each_room, ticked, restarted, in_room, joins_room, placement_step, placement_restarted}
use Rattle.placement_core.specs.Runs.{AreRooms, run_state}
use Rattle.placement_core.specs.Sound.{HasSoundRoom, IsPlacementSound, IsKeptSound, IsOfSpace, HasOwnHosts, AreOfSpaces, RoomHasFewTypes, AllHaveFewTypes, HasTable}
use Rattle.placement_core.specs.Views.{GivesStep}
use Rattle.placement_core.proofs.Searched.{same_space}

-- ---- lists

pub each_set : {X : Type 0} (P : X → Type 0) (xs : List X) (i : ℕ) (x : X) → P x → AllByRecursion P xs → AllByRecursion P (set xs i x)
each_set P [] i x p a = tt
each_set P (y ∷ ys) zero x p a = (p, a.1)
each_set P (y ∷ ys) (suc i) x p a = (a.0, each_set P ys i x p a.1)

pub each_insert : {X : Type 0} (P : X → Type 0) (xs : List X) (i : ℕ) (x : X) → P x → AllByRecursion P xs → AllByRecursion P (insert xs i x)
each_insert P [] zero x p a = (p, tt)
each_insert P [] (suc i) x p a = (p, tt)
each_insert P (y ∷ ys) zero x p a = (p, a)
each_insert P (y ∷ ys) (suc i) x p a = (a.0, each_insert P ys i x p a.1)

pub each_push : {X : Type 0} (P : X → Type 0) (xs : List X) (x : X) → AllByRecursion P xs → P x → AllByRecursion P (xs ++ x ∷ [])
each_push P [] x a p = (p, tt)
each_push P (y ∷ ys) x a p = (a.0, each_push P ys x a.1 p)

-- ---- rooms as they are kept

pub kept_sound : (ks : List KeptRoom) → AllByRecursion IsKeptSound ks → AllByRecursion HasSoundRoom (map kept ks)
kept_sound [] a = tt
kept_sound (k ∷ ks) a = (a.0, kept_sound ks a.1)

pub ticked_sound : (now : ℕ) (ks : List KeptRoom) → AllByRecursion IsKeptSound ks → AllByRecursion IsKeptSound (map (kept_ticked now) ks)
ticked_sound now [] a = tt
ticked_sound now (k ∷ ks) a = (step_sound k.room.state events.Tick now a.0, ticked_sound now ks a.1)

pub restarted_sound : (now : ℕ) (ks : List KeptRoom) → AllByRecursion IsKeptSound ks → AllByRecursion IsKeptSound (map (kept_restarted now) ks)
restarted_sound now [] a = tt
restarted_sound now (k ∷ ks) a = (restart_sound k.room.state now a.0, restarted_sound now ks a.1)

pub opening_sound : IsPlacementSound new_placement
opening_sound = record { ascend = (tt, tt); few = omega arith; rooms = (new_sound, tt) }

pub shown_sound : (rs : List SpaceRoom) → AreRooms (shown rs).rooms → AllByRecursion HasSoundRoom rs → IsPlacementSound (shown rs)
shown_sound [] a s = opening_sound
shown_sound (r ∷ rs) a s = record { ascend = a.ascend; few = a.few; rooms = s }

-- ---- what holds of each room, through steps and restarts

-- the room of this space is the one in which the event happens; a Tick happens in all
abbrev pub HappensIn : List ℕ → PlaceEvent → Type 0
HappensIn space (events.Register host) = host.member.space ≡ space
HappensIn space event = Unit {0}

module _ (Q : SpaceRoom → Type 0) (opens : (space : List ℕ) → Q (record { space = space; room = new_room })) where
  at_each : (rs : List SpaceRoom) (space : List ℕ) (room : RoomState) → AllByRecursion Q rs → room_at rs space ≡ Some room → Q (record { space = space; room = room })
  at_each [] space room a e = absurd (cc)
  at_each (r ∷ rs) space room a e = go (bytes_eq space r.space) refl (at_each rs space room a.1) e
    where
      go : (b : Bool) → bytes_eq space r.space ≡ b → (room_at rs space ≡ Some room → Q (record { space = space; room = room })) → cond b (Some r.room) (room_at rs space) ≡ Some room → Q (record { space = space; room = room })
      go true t ih e =
          let there : r.room ≡ room = cc in
          let same : space ≡ r.space = same_space space r.space t in
          let is : r ≡ record { space = space; room = room } = rw (same, sym there) refl in
          subst Q is a.0
      go false t ih e = ih e

  put_each : (rs : List SpaceRoom) (space : List ℕ) (room : RoomState) → AllByRecursion Q rs → Q (record { space = space; room = room }) → AllByRecursion Q (put_room rs space room)
  put_each [] space room a q = (q, tt)
  put_each (r ∷ rs) space room a q =
      cond_both (bytes_eq space r.space) _ _ (AllByRecursion Q)
      (λ _. (q, a.1))
      (λ _. cond_both (is_before space r.space) _ _ (AllByRecursion Q) (λ _. (q, a)) (λ _. (a.0, put_each rs space room a.1 q)))

  pub all_each : (f : RoomState → RoomState) (rs : List SpaceRoom) → ((r : SpaceRoom) → Q r → Q (each_room f r)) → AllByRecursion Q rs → AllByRecursion Q (map (each_room f) rs)
  all_each f [] on a = tt
  all_each f (r ∷ rs) on a = (on r a.0, all_each f rs on a.1)

  abbrev Keeps : PlacementStep → Type 0
  Keeps t = AllByRecursion Q t.state.rooms

  -- the event keeps it in a room in which it happens
  abbrev pub Steadies : PlaceEvent → ℕ → Type 0
  Steadies event now = (r : SpaceRoom) → HappensIn r.space event → Q r → Q (record { space = r.space; room = (room_step r.room event now).state })

  in_each : (s : PlacementState) (space : List ℕ) (event : PlaceEvent) (now : ℕ) (o : Option RoomState) → HappensIn space event → Steadies event now → AllByRecursion Q s.rooms → room_at s.rooms space ≡ o → Keeps (in_room s space event now o)
  in_each s space event now None here on a e = a
  in_each s space event now (Some room) here on a e = put_each s.rooms space (room_step room event now).state a (on (record { space = space; room = room }) here (at_each s.rooms space room a e))

  joins_each : (s : PlacementState) (host : HostInfo) (now : ℕ) (o : Option RoomState) → Steadies (events.Register host) now → AllByRecursion Q s.rooms → room_at s.rooms host.member.space ≡ o → Keeps (joins_room s host now o)
  joins_each s host now None on a e =
      cond_both (nat_le most_spaces (length s.rooms)) _ _ Keeps
      (λ _. a)
      (λ _. cond_both (host.member.boot == 0) _ _ Keeps
      (λ _. a)
      (λ _. put_each s.rooms host.member.space (room_step new_room (events.Register host) now).state a (on (record { space = host.member.space; room = new_room }) refl (opens host.member.space))))
  joins_each s host now (Some room) on a e = in_each s host.member.space (events.Register host) now (Some room) refl on a e

  pub step_each : (s : PlacementState) (event : PlaceEvent) (now : ℕ) → Steadies event now → AllByRecursion Q s.rooms → AllByRecursion Q (placement_step s event now).state.rooms
  step_each s (events.Register host) now on a = joins_each s host now (room_at s.rooms host.member.space) on a refl
  step_each s (events.Beat m) now on a = in_each s m.space (events.Beat m) now (room_at s.rooms m.space) tt on a refl
  step_each s (events.Ack m stage version) now on a = in_each s m.space (events.Ack m stage version) now (room_at s.rooms m.space) tt on a refl
  step_each s (events.Leave m) now on a = in_each s m.space (events.Leave m) now (room_at s.rooms m.space) tt on a refl
  step_each s (events.Lost m) now on a = in_each s m.space (events.Lost m) now (room_at s.rooms m.space) tt on a refl
  step_each s events.Tick now on a = all_each (ticked now) s.rooms (λ r q. on r tt q) a
  step_each s events.Look now on a = a

-- ---- soundness

pub placement_sound : (s : PlacementState) (event : PlaceEvent) (now : ℕ) → AllByRecursion HasSoundRoom s.rooms → AllByRecursion HasSoundRoom (placement_step s event now).state.rooms
placement_sound s event now a = step_each HasSoundRoom (λ space. new_sound) s event now (λ r here q. step_sound r.room event now q) a

pub placement_restart_sound : (s : PlacementState) (now : ℕ) → AllByRecursion HasSoundRoom s.rooms → AllByRecursion HasSoundRoom (placement_restarted s now).rooms
placement_restart_sound s now a = all_each HasSoundRoom (λ space. new_sound) (restarted now) s.rooms (λ r q. restart_sound r.room now q) a

run_sound : (s : PlacementState) (run : List RunEvent) → AllByRecursion HasSoundRoom s.rooms → AllByRecursion HasSoundRoom (run_state s run).rooms
run_sound s [] a = a
run_sound s (Steps event now ∷ run) a = run_sound (placement_step s event now).state run (placement_sound s event now a)
run_sound s (Restarts now ∷ run) a = run_sound (placement_restarted s now) run (placement_restart_sound s now a)

-- ---- hosts of the room's space

own_brought : (event : PlaceEvent) (space : List ℕ) → HappensIn space event → Brings (IsOfSpace space) event
own_brought (events.Register host) space e = e
own_brought (events.Beat m) space e = tt
own_brought (events.Ack m stage version) space e = tt
own_brought (events.Leave m) space e = tt
own_brought (events.Lost m) space e = tt
own_brought events.Tick space e = tt
own_brought events.Look space e = tt

opens_own : (space : List ℕ) → HasOwnHosts (record { space = space; room = new_room })
opens_own space = new_hosts (IsOfSpace space)

pub step_own : (s : PlacementState) (event : PlaceEvent) (now : ℕ) → AreOfSpaces s.rooms → AreOfSpaces (placement_step s event now).state.rooms
step_own s event now a = step_each HasOwnHosts opens_own s event now (λ r here q. step_hosts (IsOfSpace r.space) r.room event now (own_brought event r.space here) q) a

pub restart_own : (s : PlacementState) (now : ℕ) → AreOfSpaces s.rooms → AreOfSpaces (placement_restarted s now).rooms
restart_own s now a = all_each HasOwnHosts opens_own (restarted now) s.rooms (λ r q. restart_hosts (IsOfSpace r.space) r.room now q) a

pub opening_own : AreOfSpaces new_placement.rooms
opening_own = (opens_own default_space, tt)

pub run_own : (s : PlacementState) (run : List RunEvent) → AreOfSpaces s.rooms → AreOfSpaces (run_state s run).rooms
run_own s [] a = a
run_own s (Steps event now ∷ run) a = run_own (placement_step s event now).state run (step_own s event now a)
run_own s (Restarts now ∷ run) a = run_own (placement_restarted s now) run (restart_own s now a)

-- ---- hosts of at most 32 types

pub step_few : (s : PlacementState) (event : PlaceEvent) (now : ℕ) → BringsFewTypes event → AllHaveFewTypes s.rooms → AllHaveFewTypes (placement_step s event now).state.rooms
step_few s event now t a = step_each RoomHasFewTypes (λ space. new_types) s event now (λ r here q. step_types r.room event now t q) a

pub restart_few : (s : PlacementState) (now : ℕ) → AllHaveFewTypes s.rooms → AllHaveFewTypes (placement_restarted s now).rooms
restart_few s now a = all_each RoomHasFewTypes (λ space. new_types) (restarted now) s.rooms (λ r q. restart_types r.room now q) a

pub run_few : (s : PlacementState) (run : List RunEvent) → RunsFewTypes run → AllHaveFewTypes s.rooms → AllHaveFewTypes (run_state s run).rooms
run_few s [] t a = a
run_few s (Steps event now ∷ run) t a = run_few (placement_step s event now).state run t.1 (step_few s event now t.0 a)
run_few s (Restarts now ∷ run) t a = run_few (placement_restarted s now) run t (restart_few s now a)

-- ---- tables

own_space : (space : List ℕ) (hs : List HostInfo) → AllByRecursion (IsOfSpace space) hs → other_space_fault space hs ≡ None
own_space space [] a = refl
own_space space (h ∷ hs) a = rw (a.0, same_bytes space) (own_space space hs a.1)

pub tables_made : (rs : List SpaceRoom) → AllByRecursion HasSoundRoom rs → AreOfSpaces rs → AllHaveFewTypes rs → AllByRecursion HasTable rs
tables_made [] s o t = tt
tables_made (r ∷ rs) s o t =
    let sound = s.0 in
    let own = o.0 in
    let few = t.0 in
    (sound.table_is_made r.space (few_types r.room.table few.table) (own_space r.space r.room.table own.table), tables_made rs s.1 o.1 t.1)

pub run_tables : (run : List RunEvent) → RunsFewTypes run → AllByRecursion HasTable (run_state new_placement run).rooms
run_tables run t =
    tables_made (run_state new_placement run).rooms (run_sound new_placement run (new_sound, tt)) (run_own new_placement run opening_own) (run_few new_placement run t (new_types, tt))

-- ---- runs

pub run_placement : (run : List RunEvent) → AreRooms (run_state new_placement run).rooms → IsPlacementSound (run_state new_placement run)
run_placement run a = record { ascend = a.ascend; few = a.few; rooms = run_sound new_placement run (new_sound, tt) }

-- ---- what a step gives

-- nothing has changed, or the state is that of the definition
pub gives_either : (event : PlaceEvent) (now : ℕ) (reply : PlaceReply) (old new : PlacementState) → GivesStep event now reply old new → (new ≡ old) ⊎ (new ≡ (placement_step old event now).state)
gives_either (events.Register host) now replies.OutOfMemory old new g = inl g
gives_either (events.Register host) now (replies.Lock v) old new g = inr g.1
gives_either (events.Register host) now (replies.Update v) old new g = inr g.1
gives_either (events.Register host) now (replies.Unlock v) old new g = inr g.1
gives_either (events.Register host) now replies.Idle old new g = inr g.1
gives_either (events.Register host) now replies.Gone old new g = inr g.1
gives_either (events.Register host) now (replies.Ticked n) old new g = inr g.1
gives_either (events.Register host) now replies.Looked old new g = inr g.1
gives_either (events.Register host) now (replies.StaleBoot n) old new g = inr g.1
gives_either (events.Register host) now (replies.NodeBusy n) old new g = inr g.1
gives_either (events.Register host) now (replies.NotMember n) old new g = inr g.1
gives_either (events.Register host) now (replies.SpacesFull n) old new g = inr g.1
gives_either (events.Register host) now (replies.Full n m) old new g = inr g.1
gives_either (events.Beat m) now reply old new g = inr g.1
gives_either (events.Ack m stage version) now reply old new g = inr g.1
gives_either (events.Leave m) now reply old new g = inr g.1
gives_either (events.Lost m) now reply old new g = inr g.1
gives_either events.Tick now reply old new g = inr g.1
gives_either events.Look now reply old new g = inr g.1

pub gives_own : (event : PlaceEvent) (now : ℕ) (reply : PlaceReply) (old new : PlacementState) → GivesStep event now reply old new → AreOfSpaces old.rooms → AreOfSpaces new.rooms
gives_own event now reply old new g a = elim (gives_either event now reply old new g) [
  | inl e ↦ subst (λ (s : PlacementState). AreOfSpaces s.rooms) (sym e) a
  | inr e ↦ subst (λ (s : PlacementState). AreOfSpaces s.rooms) (sym e) (step_own old event now a)
]

pub gives_few : (event : PlaceEvent) (now : ℕ) (reply : PlaceReply) (old new : PlacementState) → GivesStep event now reply old new → BringsFewTypes event → AllHaveFewTypes old.rooms → AllHaveFewTypes new.rooms
gives_few event now reply old new g t a = elim (gives_either event now reply old new g) [
  | inl e ↦ subst (λ (s : PlacementState). AllHaveFewTypes s.rooms) (sym e) a
  | inr e ↦ subst (λ (s : PlacementState). AllHaveFewTypes s.rooms) (sym e) (step_few old event now t a)
]

-- the restart of the rooms that are kept, none before the first Register
pub shown_restarted : (rs : List SpaceRoom) (now : ℕ) → shown (map (each_room (restarted now)) rs) ≡ placement_restarted (shown rs) now
shown_restarted [] now = refl
shown_restarted (r ∷ rs) now = refl
