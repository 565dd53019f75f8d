-- What the rooms that are kept have to record, after a step in one of them or in all.
use Rattle.std.proofs.Common.{◌≡◌, ℕ, suc, zero, ◌+◌, ◌-◌, ◌<◌, ◌≤◌, Bool, true, false, cond, List, [], ◌∷◌, ◌++◌, length, map, get_or, set, take, drop, Option, None, Some, refl, sym, ap, ◌∙◌, subst, arith}
use Rattle.std.specs.Prelude.{bytes_eq, nat_le, ◌==◌, ◌↔◌}
use Rattle.actor_names.specs.Names.{default_space}
use Rattle.std.specs.List.{insert}
use Rattle.place_table.specs.declared.host.HostInfo.{HostInfo}
use Rattle.round_core.specs.declared.event.PlaceEvent.{PlaceEvent}
use Rattle.round_core.specs.declared.event.PlaceEvent.TheVariants as events
use Rattle.round_core.specs.declared.event.PlaceReply.{PlaceReply}
use Rattle.round_core.specs.declared.event.PlaceReply.TheVariants as replies
use Rattle.member_roster.specs.Places.{Ascends, place_by}
use Rattle.std.specs.declared.result.Result.TheVariants.{Ok}
use Rattle.round_core.specs.Room.{RoomState, new_room}
use Rattle.round_core.specs.Records.{RecordOf, step_record}
use Rattle.round_core.specs.Views.{RoomView}
use Rattle.round_core.specs.Views.{GivesStep as RoomGivesStep, GivesInMemory as RoomGivesInMemory, Gives as RoomGives}
use Rattle.placement_core.specs.declared.sweep.KeptRoom.{KeptRoom}
use Rattle.placement_core.specs.Entries.{EntryOf, noted, each_record, room_entries, join_entries, tick_record, restarted_record, placement_record, placement_restart_record}
use Rattle.placement_core.specs.Kept.{kept, kept_space, kept_ticked, kept_restarted, kept_entries, shown}
use Rattle.placement_core.specs.Placement.{SpaceRoom, PlacementState, most_spaces, room_at}
use Rattle.placement_core.specs.Runs.{space_of, SameRooms}
use Rattle.placement_core.specs.Views.{GivesStep, GivesInMemory, Gives, IsOfMember, LeavesInMemory, LeavesAny, LeavesRecord}
use Rattle.placement_core.proofs.Durable.{recorded_same}
use Rattle.placement_core.proofs.Replays.{same_self}
use Rattle.placement_core.proofs.Searched.{found-key}
use Rattle.placement_core.proofs.Spaces.{room_at-found}
use Rattle.placement_core.proofs.Steps.{shown_kept, shown_found}

-- ---- the rooms that are kept

noted_alone : (space : List ℕ) (o : Option RecordOf) → noted space o ++ [] ≡ noted space o
noted_alone space None = refl
noted_alone space (Some c) = refl

-- of one room, in its place or inserted there
pub one_set : (ks : List KeptRoom) (i : ℕ) (x : KeptRoom) → i < length ks → kept_entries (take (i + 1 - i) (drop i (set ks i x))) ≡ noted x.space x.room.recent
one_set ks i x l = let one : i + 1 - i ≡ 1 = omega arith in rw one (go ks i l)
  where
    go : (ks : List KeptRoom) (i : ℕ) → i < length ks → kept_entries (take 1 (drop i (set ks i x))) ≡ noted x.space x.room.recent
    go [] i l = absurd (omega arith)
    go (k ∷ ks) zero l = noted_alone x.space x.room.recent
    go (k ∷ ks) (suc i) l = go ks i (omega arith)

pub one_new : (ks : List KeptRoom) (i : ℕ) (x : KeptRoom) → i ≤ length ks → kept_entries (take (i + 1 - i) (drop i (insert ks i x))) ≡ noted x.space x.room.recent
one_new ks i x l = let one : i + 1 - i ≡ 1 = omega arith in rw one (go ks i l)
  where
    go : (ks : List KeptRoom) (i : ℕ) → i ≤ length ks → kept_entries (take 1 (drop i (insert ks i x))) ≡ noted x.space x.room.recent
    go [] zero l = noted_alone x.space x.room.recent
    go [] (suc i) l = absurd (omega arith)
    go (k ∷ ks) zero l = noted_alone x.space x.room.recent
    go (k ∷ ks) (suc i) l = go ks i (omega arith)

-- of all rooms
pub all_taken : (ks : List KeptRoom) → kept_entries (take (length ks - 0) (drop 0 ks)) ≡ kept_entries ks
all_taken ks = let all : length ks - 0 ≡ length ks = omega arith in rw all (ap kept_entries (go ks))
  where
    go : (ks : List KeptRoom) → take (length ks) ks ≡ ks
    go [] = refl
    go (k ∷ ks) = ap (λ (xs : List KeptRoom). k ∷ xs) (go ks)

pub entries_ticked : (now : ℕ) (ks : List KeptRoom) → kept_entries (map (kept_ticked now) ks) ≡ each_record (tick_record now) (map kept ks)
entries_ticked now [] = refl
entries_ticked now (k ∷ ks) = ap (λ (es : List EntryOf). noted k.space (tick_record now k.room.state) ++ es) (entries_ticked now ks)

pub entries_restarted : (now : ℕ) (ks : List KeptRoom) → kept_entries (map (kept_restarted now) ks) ≡ each_record (restarted_record now) (map kept ks)
entries_restarted now [] = refl
entries_restarted now (k ∷ ks) = ap (λ (es : List EntryOf). noted k.space (restarted_record now k.room.state) ++ es) (entries_restarted now ks)

-- ---- a step in a room

any_noted : (event : PlaceEvent) (now : ℕ) (reply : PlaceReply) (old new : RoomView) (space : List ℕ) → RoomGives event now reply old new → noted space new.recent ≡ noted space (step_record old.state event now)
any_noted event now reply old new space g = ap (λ (v : RoomView). noted space v.recent) g.1

in_memory : (event : PlaceEvent) (now : ℕ) (reply : PlaceReply) (old new : RoomView) (space : List ℕ) → RoomGivesInMemory event now reply old new → LeavesInMemory reply (noted space (step_record old.state event now)) (noted space new.recent)
in_memory event now (replies.Lock v) old new space g = any_noted event now (replies.Lock v) old new space g
in_memory event now (replies.Update v) old new space g = any_noted event now (replies.Update v) old new space g
in_memory event now (replies.Unlock v) old new space g = any_noted event now (replies.Unlock v) old new space g
in_memory event now replies.Idle old new space g = any_noted event now replies.Idle old new space g
in_memory event now replies.Gone old new space g = any_noted event now replies.Gone old new space g
in_memory event now (replies.Ticked n) old new space g = any_noted event now (replies.Ticked n) old new space g
in_memory event now replies.Looked old new space g = any_noted event now replies.Looked old new space g
in_memory event now (replies.StaleBoot n) old new space g = any_noted event now (replies.StaleBoot n) old new space g
in_memory event now (replies.NodeBusy n) old new space g = any_noted event now (replies.NodeBusy n) old new space g
in_memory event now (replies.NotMember n) old new space g = any_noted event now (replies.NotMember n) old new space g
in_memory event now (replies.SpacesFull n) old new space g = any_noted event now (replies.SpacesFull n) old new space g
in_memory event now (replies.Full n m) old new space g = any_noted event now (replies.Full n m) old new space g
in_memory event now replies.OutOfMemory old new space g = ap (λ (v : RoomView). noted space v.recent) g

pub leaves_any : (event : PlaceEvent) (now : ℕ) (reply : PlaceReply) (old new : RoomView) (space : List ℕ) → RoomGivesStep event now reply old new → LeavesAny event reply (noted space (step_record old.state event now)) (noted space new.recent)
leaves_any (events.Register host) now reply old new space g = in_memory (events.Register host) now reply old new space g
leaves_any (events.Beat m) now reply old new space g = any_noted (events.Beat m) now reply old new space g
leaves_any (events.Ack m stage version) now reply old new space g = any_noted (events.Ack m stage version) now reply old new space g
leaves_any (events.Leave m) now reply old new space g = any_noted (events.Leave m) now reply old new space g
leaves_any (events.Lost m) now reply old new space g = any_noted (events.Lost m) now reply old new space g
leaves_any events.Tick now reply old new space g = any_noted events.Tick now reply old new space g
leaves_any events.Look now reply old new space g = any_noted events.Look now reply old new space g

-- the room that a search found takes a step
pub stepped_leaves : (event : PlaceEvent) (now : ℕ) (reply : PlaceReply) (space : List ℕ) (ks : List KeptRoom) (i : ℕ) (old : KeptRoom) (new : RoomView) (room : RoomState) → place_by kept_space space ks ≡ Ok i → i < length ks → old ≡ get_or ks i old → RoomGivesStep event now reply old.room new → room_at (map kept ks) space ≡ Some room → LeavesAny event reply (noted space (step_record room event now)) (kept_entries (take (i + 1 - i) (drop i (set ks i (record { space = old.space; room = new })))))
stepped_leaves event now reply space ks i old new room p l was g e =
    let found : room_at (map kept ks) space ≡ Some old.room.state = room_at-found space ks i old p ∙ ap (λ (k : KeptRoom). Some k.room.state) (sym was) in
    let both : Some old.room.state ≡ Some room = sym found ∙ e in
    let same : old.room.state ≡ room = cc in
    let key : old.space ≡ space = ap kept_space was ∙ found-key kept_space space ks i old p in
    let h = leaves_any event now reply old.room new space g in
    let a = subst (λ (s : RoomState). LeavesAny event reply (noted space (step_record s event now)) (noted space new.recent)) same h in
    let one = one_set ks i (record { space = old.space; room = new }) l ∙ ap (λ (s : List ℕ). noted s new.recent) key in
    subst (λ (es : List EntryOf). LeavesAny event reply (noted space (step_record room event now)) es) (sym one) a

-- ---- a step of the placement

pub ticked_leaves : (now : ℕ) (rs : List SpaceRoom) → each_record (tick_record now) rs ≡ placement_record (shown rs) events.Tick now
ticked_leaves now [] = refl
ticked_leaves now (r ∷ rs) = refl

pub restarted_leaves : (now : ℕ) (rs : List SpaceRoom) → each_record (restarted_record now) rs ≡ placement_restart_record (shown rs) now
restarted_leaves now [] = refl
restarted_leaves now (r ∷ rs) = refl

found_entries : (rs : List SpaceRoom) (space its : List ℕ) (room : RoomState) (event : PlaceEvent) (now : ℕ) → space ≡ its → room_at rs space ≡ Some room → room_entries its event now (room_at (shown rs).rooms its) ≡ noted space (step_record room event now)
found_entries rs space its room event now of e = rw (← of, shown_found rs space room e, e) refl

-- a member acts in the room of its space
pub member_leaves : (event : PlaceEvent) (now : ℕ) (space : List ℕ) (reply : PlaceReply) (rs : List SpaceRoom) (room : RoomState) (recent : List EntryOf) → IsOfMember event space → room_at rs space ≡ Some room → LeavesAny event reply (noted space (step_record room event now)) recent → LeavesRecord event now reply (shown rs) recent
member_leaves (events.Register host) now space reply rs room recent of e h = absurd of
member_leaves (events.Beat m) now space reply rs room recent of e h = h ∙ sym (found_entries rs space m.space room (events.Beat m) now of e)
member_leaves (events.Ack m stage version) now space reply rs room recent of e h = h ∙ sym (found_entries rs space m.space room (events.Ack m stage version) now of e)
member_leaves (events.Leave m) now space reply rs room recent of e h = h ∙ sym (found_entries rs space m.space room (events.Leave m) now of e)
member_leaves (events.Lost m) now space reply rs room recent of e h = h ∙ sym (found_entries rs space m.space room (events.Lost m) now of e)
member_leaves events.Tick now space reply rs room recent of e h = absurd of
member_leaves events.Look now space reply rs room recent of e h = absurd of

nobody_entries : (rs : List SpaceRoom) (space its : List ℕ) (event : PlaceEvent) (now : ℕ) → space ≡ its → step_record new_room event now ≡ None → room_at rs space ≡ None → room_entries its event now (room_at (shown rs).rooms its) ≡ []
nobody_entries [] space its event now of none e = go (bytes_eq its default_space)
  where
    go : (b : Bool) → room_entries its event now (cond b (Some new_room) None) ≡ []
    go true = ap (noted its) none
    go false = refl
nobody_entries (r ∷ rs) space its event now of none e = rw (← of, e) refl

-- nobody of the space is a member
pub stranger_leaves : (event : PlaceEvent) (now : ℕ) (space : List ℕ) (reply : PlaceReply) (rs : List SpaceRoom) (recent : List EntryOf) → IsOfMember event space → room_at rs space ≡ None → recent ≡ [] → LeavesRecord event now reply (shown rs) recent
stranger_leaves (events.Register host) now space reply rs recent of e h = absurd of
stranger_leaves (events.Beat m) now space reply rs recent of e h = h ∙ sym (nobody_entries rs space m.space (events.Beat m) now of refl e)
stranger_leaves (events.Ack m stage version) now space reply rs recent of e h = h ∙ sym (nobody_entries rs space m.space (events.Ack m stage version) now of refl e)
stranger_leaves (events.Leave m) now space reply rs recent of e h = h ∙ sym (nobody_entries rs space m.space (events.Leave m) now of refl e)
stranger_leaves (events.Lost m) now space reply rs recent of e h = h ∙ sym (nobody_entries rs space m.space (events.Lost m) now of refl e)
stranger_leaves events.Tick now space reply rs recent of e h = absurd of
stranger_leaves events.Look now space reply rs recent of e h = absurd of

-- a host joins a room that is there
pub joined_leaves : (host : HostInfo) (now : ℕ) (reply : PlaceReply) (rs : List SpaceRoom) (room : RoomState) (recent : List EntryOf) → room_at rs host.member.space ≡ Some room → LeavesAny (events.Register host) reply (noted host.member.space (step_record room (events.Register host) now)) recent → LeavesRecord (events.Register host) now reply (shown rs) recent
joined_leaves host now reply rs room recent e h =
    let same : join_entries (shown rs) host now (room_at (shown rs).rooms host.member.space) ≡ noted host.member.space (step_record room (events.Register host) now) = rw (shown_found rs host.member.space room e, e) refl in
    subst (λ (es : List EntryOf). LeavesInMemory reply es recent) (sym same) h

-- a host joins a room that is made
pub opened_leaves : (host : HostInfo) (now : ℕ) (reply : PlaceReply) (rs : List SpaceRoom) (recent : List EntryOf) → 0 < length rs → room_at rs host.member.space ≡ None → nat_le most_spaces (length rs) ≡ false → (host.member.boot == 0) ≡ false → LeavesAny (events.Register host) reply (noted host.member.space (step_record new_room (events.Register host) now)) recent → LeavesRecord (events.Register host) now reply (shown rs) recent
opened_leaves host now reply rs recent l free few booted h =
    let same : join_entries (shown rs) host now (room_at (shown rs).rooms host.member.space) ≡ noted host.member.space (step_record new_room (events.Register host) now) = rw (shown_kept rs l, free, few, booted) refl in
    subst (λ (es : List EntryOf). LeavesInMemory reply es recent) (sym same) h

-- a host is refused if there are 64 rooms, or if its boot is 0
pub full_leaves : (host : HostInfo) (now : ℕ) (rs : List SpaceRoom) → 0 < length rs → room_at rs host.member.space ≡ None → nat_le most_spaces (length rs) ≡ true → [] ≡ placement_record (shown rs) (events.Register host) now
full_leaves host now rs l free full = rw (shown_kept rs l, free, full) refl

pub zero_leaves : (host : HostInfo) (now : ℕ) (rs : List SpaceRoom) → 0 < length rs → room_at rs host.member.space ≡ None → nat_le most_spaces (length rs) ≡ false → (host.member.boot == 0) ≡ true → [] ≡ placement_record (shown rs) (events.Register host) now
zero_leaves host now rs l free few is = rw (shown_kept rs l, free, few, is) refl

-- ---- what is recorded is what a restart needs

by_record : (s t : PlacementState) (event : PlaceEvent) (now : ℕ) (reply : PlaceReply) (recent : List EntryOf) → Ascends space_of s.rooms → Gives event now reply s t → recent ≡ placement_record s event now → (recent ≡ []) ↔ SameRooms s.rooms t.rooms
by_record s t event now reply recent a g h = rw (h, g.1) (recorded_same s event now a)

in_memory_durable : (s t : PlacementState) (event : PlaceEvent) (now : ℕ) (reply : PlaceReply) (recent : List EntryOf) → Ascends space_of s.rooms → GivesInMemory event now reply s t → LeavesInMemory reply (placement_record s event now) recent → (recent ≡ []) ↔ SameRooms s.rooms t.rooms
in_memory_durable s t event now (replies.Lock v) recent a g h = by_record s t event now (replies.Lock v) recent a g h
in_memory_durable s t event now (replies.Update v) recent a g h = by_record s t event now (replies.Update v) recent a g h
in_memory_durable s t event now (replies.Unlock v) recent a g h = by_record s t event now (replies.Unlock v) recent a g h
in_memory_durable s t event now replies.Idle recent a g h = by_record s t event now replies.Idle recent a g h
in_memory_durable s t event now replies.Gone recent a g h = by_record s t event now replies.Gone recent a g h
in_memory_durable s t event now (replies.Ticked n) recent a g h = by_record s t event now (replies.Ticked n) recent a g h
in_memory_durable s t event now replies.Looked recent a g h = by_record s t event now replies.Looked recent a g h
in_memory_durable s t event now (replies.StaleBoot n) recent a g h = by_record s t event now (replies.StaleBoot n) recent a g h
in_memory_durable s t event now (replies.NodeBusy n) recent a g h = by_record s t event now (replies.NodeBusy n) recent a g h
in_memory_durable s t event now (replies.NotMember n) recent a g h = by_record s t event now (replies.NotMember n) recent a g h
in_memory_durable s t event now (replies.SpacesFull n) recent a g h = by_record s t event now (replies.SpacesFull n) recent a g h
in_memory_durable s t event now (replies.Full n m) recent a g h = by_record s t event now (replies.Full n m) recent a g h
in_memory_durable s t event now replies.OutOfMemory recent a g h = (λ e. rw g (same_self s.rooms), λ d. h)

pub leaves_durable : (s t : PlacementState) (event : PlaceEvent) (now : ℕ) (reply : PlaceReply) (recent : List EntryOf) → Ascends space_of s.rooms → GivesStep event now reply s t → LeavesRecord event now reply s recent → (recent ≡ []) ↔ SameRooms s.rooms t.rooms
leaves_durable s t (events.Register host) now reply recent a g h = in_memory_durable s t (events.Register host) now reply recent a g h
leaves_durable s t (events.Beat m) now reply recent a g h = by_record s t (events.Beat m) now reply recent a g h
leaves_durable s t (events.Ack m stage version) now reply recent a g h = by_record s t (events.Ack m stage version) now reply recent a g h
leaves_durable s t (events.Leave m) now reply recent a g h = by_record s t (events.Leave m) now reply recent a g h
leaves_durable s t (events.Lost m) now reply recent a g h = by_record s t (events.Lost m) now reply recent a g h
leaves_durable s t events.Tick now reply recent a g h = by_record s t events.Tick now reply recent a g h
leaves_durable s t events.Look now reply recent a g h = by_record s t events.Look now reply recent a g h
