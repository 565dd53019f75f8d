-- Worked examples of the placement state machine.
use Rattle.std.proofs.Common.{◌≡◌, ℕ, List, [], ◌∷◌, None, Some, refl}
use Rattle.std.specs.declared.result.Result.TheVariants.{Ok, Err}
use Rattle.actor_names.specs.Names.{default_space}
use Rattle.actor_names.specs.declared.member.Member.{Member}
use Rattle.place_table.specs.declared.host.HostInfo.{HostInfo}
use Rattle.place_table.specs.declared.ack_stage.AckStage.TheVariants as stages
use Rattle.round_core.specs.declared.event.PlaceEvent.{PlaceEvent}
use Rattle.round_core.specs.declared.event.PlaceEvent.TheVariants as events
use Rattle.round_core.specs.declared.event.PlaceReply.{PlaceReply}
use Rattle.round_core.specs.declared.event.PlaceReply.TheVariants as replies
use Rattle.member_roster.specs.Members.{members_of}
use Rattle.round_core.specs.Room.{RoomState, new_room, last_version, room_step, room_restarted}
use Rattle.round_core.specs.Records.{RecordOf, step_record, after_records, room_restored}
use Rattle.round_core.specs.Runs.{Steps, Restarts, run_records}

abbrev a : ℕ → Member
a boot = record { space = default_space; node = 97 ∷ []; boot = boot }

abbrev b : Member
b = record { space = default_space; node = 98 ∷ []; boot = 1 }

abbrev host : Member → HostInfo
host m = record { member = m; app = 120 ∷ []; address = record { ip = 1; port = 1 }; kinds = [] }

abbrev joins : Member → PlaceEvent
joins m = events.Register (host m)

abbrev after : RoomState → List PlaceEvent → RoomState
after s [] = s
after s (e ∷ es) = after (room_step s e 0).state es

abbrev reply_after : List PlaceEvent → PlaceEvent → PlaceReply
reply_after es e = (room_step (after new_room es) e 0).reply

-- one member goes through the first round
abbrev first_round : List PlaceEvent
first_round = joins (a 1) ∷ events.Ack (a 1) stages.Lock 1 ∷ events.Ack (a 1) stages.Update 1 ∷ []

first_locks : reply_after [] (joins (a 1)) ≡ replies.Lock 1
first_locks = refl

ack_of_lock_updates : reply_after (joins (a 1) ∷ []) (events.Ack (a 1) stages.Lock 1) ≡ replies.Update 1
ack_of_lock_updates = refl

table_is_fixed : (after new_room first_round).table ≡ host (a 1) ∷ []
table_is_fixed = refl

round_ends : reply_after first_round (events.Ack (a 1) stages.Unlock 1) ≡ replies.Idle
round_ends = refl

-- an acknowledgement of another version only counts as being heard
late_ack : reply_after (joins (a 1) ∷ []) (events.Ack (a 1) stages.Lock 2) ≡ replies.Lock 1
late_ack = refl

second_waits : reply_after (joins b ∷ []) (joins (a 1)) ≡ replies.Idle
second_waits = refl

members_stand_in_order : members_of (after new_room (joins b ∷ joins (a 1) ∷ [])).members ≡ a 1 ∷ b ∷ []
members_stand_in_order = refl

equal_boot_is_stale : reply_after (joins (a 1) ∷ events.Leave (a 1) ∷ []) (joins (a 1)) ≡ replies.StaleBoot 1
equal_boot_is_stale = refl

node_is_busy : reply_after (joins (a 1) ∷ []) (joins (a 2)) ≡ replies.NodeBusy 1
node_is_busy = refl

-- a round without targets runs through and uses its version
leave_uses_version : last_version (after new_room (joins (a 1) ∷ events.Leave (a 1) ∷ [])) ≡ 2
leave_uses_version = refl

silent_member_is_dropped : (room_step (after new_room (joins (a 1) ∷ [])) events.Tick 10000).reply ≡ replies.Ticked 1
silent_member_is_dropped = refl

heard_member_stays : (room_step (after new_room (joins (a 1) ∷ [])) events.Tick 9999).reply ≡ replies.Ticked 0
heard_member_stays = refl

stranger_is_told_greatest : reply_after (joins (a 3) ∷ []) (events.Beat (a 2)) ≡ replies.NotMember 3
stranger_is_told_greatest = refl

restart_starts_round : last_version (room_restarted (after new_room first_round) 5) ≡ 2
restart_starts_round = refl

join_is_recorded : step_record new_room (joins (a 1)) 0 ≡ Some (record { joined = Some (host (a 1)); removed = []; next_version = 2 })
join_is_recorded = refl

beat_is_not_recorded : step_record (after new_room (joins (a 1) ∷ [])) (events.Beat (a 1)) 7 ≡ None
beat_is_not_recorded = refl

stranger_is_bad_record : after_records 0 new_room (record { joined = Some (host (a 1)); removed = []; next_version = 2 } ∷ record { joined = None; removed = b ∷ []; next_version = 2 } ∷ []) ≡ Err 1
stranger_is_bad_record = refl

-- ---- what is restored

abbrev joined_at : ℕ → Member → RecordOf
joined_at next m = record { joined = Some (host m); removed = []; next_version = next }

abbrev removed_at : ℕ → Member → RecordOf
removed_at next m = record { joined = None; removed = m ∷ []; next_version = next }

nothing_restores_opening : room_restored [] 5 ≡ Ok new_room
nothing_restores_opening = refl

-- restoring the records of a run gives the restart of its last state
one_join_is_restored : room_restored (joined_at 2 (a 1) ∷ []) 5 ≡ Ok (room_restarted (after new_room (joins (a 1) ∷ [])) 5)
one_join_is_restored = refl

-- the removals of a record act before its join
removal_frees_node : room_restored (joined_at 2 (a 1) ∷ record { joined = Some (host (a 2)); removed = a 1 ∷ []; next_version = 4 } ∷ []) 5 ≡ Ok (room_restarted (after new_room (joins (a 1) ∷ events.Leave (a 1) ∷ joins (a 2) ∷ [])) 5)
removal_frees_node = refl

other_boot_is_stranger : room_restored (joined_at 2 (a 1) ∷ removed_at 2 (a 2) ∷ []) 5 ≡ Err 1
other_boot_is_stranger = refl

busy_node_is_bad : room_restored (joined_at 2 (a 1) ∷ joined_at 2 (a 2) ∷ []) 5 ≡ Err 1
busy_node_is_bad = refl

equal_boot_is_bad : room_restored (joined_at 2 (a 1) ∷ removed_at 2 (a 1) ∷ joined_at 2 (a 1) ∷ []) 5 ≡ Err 2
equal_boot_is_bad = refl

lower_version_is_bad : room_restored (joined_at 3 (a 1) ∷ joined_at 2 b ∷ []) 5 ≡ Err 1
lower_version_is_bad = refl

greatest_version_is_good : after_records 0 new_room (record { joined = None; removed = []; next_version = 4611686018427387904 } ∷ []) ≡ Ok (record new_room { next_version = 4611686018427387904 })
greatest_version_is_good = refl

greater_version_is_bad : room_restored (record { joined = None; removed = []; next_version = 4611686018427387905 } ∷ []) 5 ≡ Err 0
greater_version_is_bad = refl

-- ---- the records of a run: a Beat leaves none, and a restart the version that it used

run_leaves_records : run_records new_room (Steps (joins (a 1)) 0 ∷ Steps (events.Beat (a 1)) 1 ∷ Restarts 5 ∷ Steps (events.Leave (a 1)) 6 ∷ []) ≡ joined_at 2 (a 1) ∷ record { joined = None; removed = []; next_version = 3 } ∷ removed_at 4 (a 1) ∷ []
run_leaves_records = refl

restart_of_nothing_leaves_no_record : run_records new_room (Restarts 5 ∷ []) ≡ []
restart_of_nothing_leaves_no_record = refl
