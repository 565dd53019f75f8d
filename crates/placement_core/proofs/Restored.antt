-- Rooms that are read from records, one entry after the other.
use Rattle.std.proofs.Common.{◌≡◌, ℕ, ◌<◌, ◌≤◌, Bool, true, false, if◌then◌else◌, List, [], ◌∷◌, ◌++◌, length, map, get_or, set, Option, None, Some, Result, Ok, Err, refl, sym, ap, ◌∙◌, arith}
use Rattle.std.specs.Prelude.{nat_le, IfOk}
use Rattle.std.specs.List.{insert}
use Rattle.std.proofs.lemmas.Bool.{le-leb}
use Rattle.member_roster.specs.Places.{Ascends, place_by}
use Rattle.round_core.specs.Room.{RoomState, new_room}
use Rattle.round_core.specs.Records.{RecordOf, after_record}
use Rattle.round_core.specs.Runs.{RunEvent}
use Rattle.round_core.specs.declared.restore.RestoreError.{RestoreError}
use Rattle.round_core.specs.declared.restore.RestoreError.TheVariants.{BadRecord, OutOfMemory}
use Rattle.placement_core.specs.declared.readings.ReadRoom.{ReadRoom}
use Rattle.placement_core.specs.Entries.{EntryOf, noted, each_record, restarted_record}
use Rattle.placement_core.specs.Kept.{kept, kept_entries}
use Rattle.placement_core.specs.Placement.{SpaceRoom, new_placement, most_spaces, room_at, each_room, restarted, placement_restarted}
use Rattle.placement_core.specs.Readings.{read_space, room_read, kept_of, IsBadIn}
use Rattle.placement_core.specs.Restores.{put_found, after_change, after_entry, rooms_after, restarted_of}
use Rattle.placement_core.specs.Runs.{run_state, run_records}
use Rattle.placement_core.proofs.Replays.{run_restored}
use Rattle.placement_core.proofs.Searched.{at-found, at-missing, put-found, put-new, length_mapped}
use Rattle.placement_core.proofs.Steps.{not_at_most}

abbrev read_state : ReadRoom → RoomState
read_state r = r.room

abbrev entry : List ℕ → RecordOf → EntryOf
entry space change = record { space = space; change = change }

-- ---- an entry of a room that is there

entry_found : (space : List ℕ) (ks : List ReadRoom) (i : ℕ) (old : ReadRoom) (new : RoomState) (change : RecordOf) (good : Bool) → place_by read_space space ks ≡ Ok i → old ≡ get_or ks i old → after_record old.room change ≡ (if good then Some new else None) → after_entry (map room_read ks) (entry space change) ≡ (if good then Some (map room_read (set ks i (record { space = old.space; room = new }))) else None)
entry_found space ks i old new change good p was is =
    let rs = map room_read ks in
    let found : room_at rs space ≡ Some old.room = at-found read_space read_state space ks i old p ∙ ap (λ (k : ReadRoom). Some k.room) (sym was) in
    ap (λ (o : Option RoomState). after_change rs (entry space change) o) found ∙ ap (λ (o : Option RoomState). put_found rs space o) is ∙ go good
  where
    go : (good : Bool) → put_found (map room_read ks) space (if good then Some new else None) ≡ (if good then Some (map room_read (set ks i (record { space = old.space; room = new }))) else None)
    go true = ap (λ (rs : List SpaceRoom). Some rs) (put-found read_space read_state space ks i old (record { space = old.space; room = new }) (ap read_space was) p)
    go false = refl

pub entry_follows : {E : Type 0} (space : List ℕ) (ks : List ReadRoom) (i : ℕ) (old : ReadRoom) (new : RoomState) (change : RecordOf) (r : Result Bool E) → place_by read_space space ks ≡ Ok i → old ≡ get_or ks i old → IfOk r (λ good. after_record old.room change ≡ (if good then Some new else None)) → IfOk r (λ good. after_entry (map room_read ks) (entry space change) ≡ (if good then Some (map room_read (set ks i (record { space = old.space; room = new }))) else None))
entry_follows space ks i old new change (Ok good) p was is = entry_found space ks i old new change good p was is
entry_follows space ks i old new change (Err e) p was is = is

-- ---- an entry of a new room

-- there are 64 rooms
pub entry_full : (space : List ℕ) (ks : List ReadRoom) (i : ℕ) (change : RecordOf) → Ascends read_space ks → place_by read_space space ks ≡ Err i → 64 ≤ length ks → after_entry (map room_read ks) (entry space change) ≡ None
entry_full space ks i change a p l =
    let none = at-missing read_space read_state space ks i a p in
    let same = length_mapped room_read ks in
    let full : nat_le most_spaces (length (map room_read ks)) ≡ true = le-leb 64 (length (map room_read ks)) (omega arith) in
    rw (none, full) refl

entry_new : (space : List ℕ) (ks : List ReadRoom) (i : ℕ) (change : RecordOf) → Ascends read_space ks → place_by read_space space ks ≡ Err i → length ks < 64 → after_entry (map room_read ks) (entry space change) ≡ put_found (map room_read ks) space (after_record new_room change)
entry_new space ks i change a p l =
    let none = at-missing read_space read_state space ks i a p in
    let same = length_mapped room_read ks in
    let few : nat_le most_spaces (length (map room_read ks)) ≡ false = not_at_most 64 (length (map room_read ks)) (omega arith) in
    rw (none, few) refl

pub entry_bad : (space : List ℕ) (ks : List ReadRoom) (i : ℕ) (fresh new : RoomState) (change : RecordOf) (good : Bool) → Ascends read_space ks → place_by read_space space ks ≡ Err i → length ks < 64 → fresh ≡ new_room → after_record fresh change ≡ (if good then Some new else None) → good ≡ false → after_entry (map room_read ks) (entry space change) ≡ None
entry_bad space ks i fresh new change good a p l opening is bad =
    let none : after_record new_room change ≡ None = ap (λ (s : RoomState). after_record s change) (sym opening) ∙ is ∙ ap (λ (b : Bool). if b then Some new else None) bad in
    entry_new space ks i change a p l ∙ ap (λ (o : Option RoomState). put_found (map room_read ks) space o) none

pub entry_made : (space : List ℕ) (ks : List ReadRoom) (i : ℕ) (fresh new : RoomState) (change : RecordOf) (good : Bool) → Ascends read_space ks → place_by read_space space ks ≡ Err i → length ks < 64 → fresh ≡ new_room → after_record fresh change ≡ (if good then Some new else None) → good ≡ true → after_entry (map room_read ks) (entry space change) ≡ Some (map room_read (insert ks i (record { space = space; room = new })))
entry_made space ks i fresh new change good a p l opening is well =
    let some : after_record new_room change ≡ Some new = ap (λ (s : RoomState). after_record s change) (sym opening) ∙ is ∙ ap (λ (b : Bool). if b then Some new else None) well in
    entry_new space ks i change a p l ∙ ap (λ (o : Option RoomState). put_found (map room_read ks) space o) some ∙ ap (λ (rs : List SpaceRoom). Some rs) (put-new read_space read_state space (record { space = space; room = new }) ks i refl p)

-- ---- the restart

pub read_restarted : (now : ℕ) (ks : List ReadRoom) → map kept (map (kept_of now) ks) ≡ map (each_room (restarted now)) (map room_read ks)
read_restarted now [] = refl
read_restarted now (k ∷ ks) = ap (λ (rs : List SpaceRoom). kept (kept_of now k) ∷ rs) (read_restarted now ks)

pub entries_read : (now : ℕ) (ks : List ReadRoom) → kept_entries (map (kept_of now) ks) ≡ each_record (restarted_record now) (map room_read ks)
entries_read now [] = refl
entries_read now (k ∷ ks) = ap (λ (es : List EntryOf). noted k.space (restarted_record now k.room) ++ es) (entries_read now ks)

-- ---- the records of a run

pub run_restarts : (run : List RunEvent) (now : ℕ) (rs : List SpaceRoom) → rooms_after 0 new_placement.rooms (run_records new_placement run) ≡ Ok rs → placement_restarted (record { rooms = rs }) now ≡ placement_restarted (run_state new_placement run) now
run_restarts run now rs is =
    let told = run_restored run now in
    let both : restarted_of (Ok rs) now ≡ Ok (placement_restarted (run_state new_placement run) now) = ap (λ (o : Result (List SpaceRoom) ℕ). restarted_of o now) (sym is) ∙ told in
    cc

pub run_is_good : (error : RestoreError) (run : List RunEvent) → IsBadIn error (rooms_after 0 new_placement.rooms (run_records new_placement run)) → error ≡ OutOfMemory
run_is_good (BadRecord index) run is =
    let both : restarted_of (Err index) 0 ≡ Ok (placement_restarted (run_state new_placement run) 0) = ap (λ (o : Result (List SpaceRoom) ℕ). restarted_of o 0) (sym is) ∙ run_restored run 0 in
    absurd (cc)
run_is_good OutOfMemory run is = refl
