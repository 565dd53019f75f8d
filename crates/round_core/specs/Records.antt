-- The records of steps, and what is restored from them. Own.
use Rattle.std.specs.Prelude.{◌≡◌, ℕ, ◌+◌, Bool, not, ◌&&◌, ◌||◌, ◌==◌, nat_lt, if◌then◌else◌, List, [], ◌∷◌, length, Option, None, Some, is_some}
use Rattle.std.specs.declared.result.Result.{Result}
use Rattle.std.specs.declared.result.Result.TheVariants.{Ok, Err}
use Rattle.actor_names.specs.declared.member.Member.{Member}
use Rattle.place_table.specs.declared.host.HostInfo.{HostInfo}
use Rattle.round_core.specs.declared.event.PlaceEvent.{PlaceEvent}
use Rattle.round_core.specs.declared.record.RoomRecord as declared
use Rattle.round_core.specs.declared.restore.RestoreError.{RestoreError}
use Rattle.round_core.specs.declared.restore.RestoreError.TheVariants.{BadRecord, OutOfMemory}
use Rattle.member_roster.specs.Members.{Joined, greatest_boot, of_node, removes_all}
use Rattle.round_core.specs.Room.{RoomState, new_room, version_limit, is_full, with_joined, apply_membership, room_step, room_restarted}

-- what contracts see of a record
pub record RecordOf : Type 0 where
  pub joined : Option HostInfo
  pub removed : List Member
  pub next_version : ℕ

abbrev pub record_of : declared.RoomRecord → RecordOf
record_of r = record { joined = r.joined; removed = r.removed.members; next_version = r.next_version }

-- the part of a change that has to be on the disk: nothing if nobody joined or was removed and no round started
abbrev pub changes_record : Option HostInfo → List Member → ℕ → ℕ → Option RecordOf
changes_record joined removed before after =
    if is_some joined || (nat_lt 0 (length removed) || not (after == before)) then Some (record { joined = joined; removed = removed; next_version = after })
    else None

abbrev pub step_record : RoomState → PlaceEvent → ℕ → Option RecordOf
step_record s event now =
    let change = apply_membership s event now in
    changes_record change.joined change.removed s.next_version (room_step s event now).state.next_version

abbrev pub restart_record : RoomState → ℕ → Option RecordOf
restart_record s now = changes_record None [] s.next_version (room_restarted s now).next_version

-- ---- what is restored

-- a host may join: its node has no member, its boot is above the greatest one, and there is room
abbrev pub may_join : RoomState → HostInfo → Bool
may_join s host =
    not (is_some (of_node s.members host.member.node)) && (nat_lt (greatest_boot s.boots host.member.node) host.member.boot && not (is_full s host.member.node))

abbrev pub after_join : RoomState → Option HostInfo → Option RoomState
after_join s None = Some s
after_join s (Some host) = if may_join s host then Some (with_joined s host 0) else None

abbrev pub after_removal : RoomState → Option HostInfo → Option (List Joined) → Option RoomState
after_removal s joined None = None
after_removal s joined (Some js) = after_join (record s { members = js }) joined

abbrev pub at_version : ℕ → Option RoomState → Option RoomState
at_version next None = None
at_version next (Some s) = Some (record s { next_version = next })

-- the state after a record, if it isn't bad: the removals act before the join, and the version neither falls
-- nor passes 2^62
abbrev pub after_record : RoomState → RecordOf → Option RoomState
after_record s r =
    if nat_lt r.next_version s.next_version || nat_lt version_limit r.next_version then None
    else at_version r.next_version (after_removal s r.joined (removes_all s.members r.removed))

-- goes on from a state, or gives the index of the bad record
abbrev pub go_on : ℕ → Option RoomState → (RoomState → Result RoomState ℕ) → Result RoomState ℕ
go_on at None next = Err at
go_on at (Some s) next = next s

-- the state after the records, or the index of the first bad one; `at` is the index of the first record
abbrev pub after_records : ℕ → RoomState → List RecordOf → Result RoomState ℕ
after_records at s [] = Ok s
after_records at s (r ∷ rs) = go_on at (after_record s r) (λ t. after_records (at + 1) t rs)

-- what is restored from the records: the restart of the state after them, or the index of the first bad one
abbrev pub restarted_of : Result RoomState ℕ → ℕ → Result RoomState ℕ
restarted_of (Ok s) now = Ok (room_restarted s now)
restarted_of (Err at) now = Err at

abbrev pub room_restored : List RecordOf → ℕ → Result RoomState ℕ
room_restored records now = restarted_of (after_records 0 new_room records) now

-- what the restored placement has to record: what its restart has to
abbrev pub recorded_of : Result RoomState ℕ → ℕ → Option RecordOf
recorded_of (Ok s) now = restart_record s now
recorded_of (Err at) now = None

abbrev pub restored_record : List RecordOf → ℕ → Option RecordOf
restored_record records now = recorded_of (after_records 0 new_room records) now

-- a refusal for a bad record names the first bad one; out of memory says nothing about the records
abbrev pub IsBadAt : RestoreError → Result RoomState ℕ → Type 0
IsBadAt (BadRecord index) answer = answer ≡ Err index
IsBadAt OutOfMemory answer = Unit {0}
