-- The placement state machine: membership, and rounds of a table in three stages.
-- Dapr's placement service spreads its tables by lock, update and unlock; the details are own.
use Rattle.std.specs.Prelude.{◌≡◌, ℕ, ◌+◌, ◌-◌, ◌^◌, Bool, true, false, not, ◌&&◌, ◌||◌, ◌==◌, nat_lt, nat_le, if◌then◌else◌, List, [], ◌∷◌, length, map, Option, None, Some}
use Rattle.actor_names.specs.declared.member.Member.{Member}
use Rattle.place_table.specs.declared.host.HostInfo.{HostInfo}
use Rattle.place_table.specs.declared.ack_stage.AckStage.{AckStage}
use Rattle.place_table.specs.declared.ack_stage.AckStage.TheVariants as stages
use Rattle.round_core.specs.declared.event.PlaceEvent.{PlaceEvent}
use Rattle.round_core.specs.declared.event.PlaceEvent.TheVariants as events
use Rattle.round_core.specs.declared.event.PlaceReply.{PlaceReply}
use Rattle.round_core.specs.declared.event.PlaceReply.TheVariants as replies
use Rattle.round_core.specs.declared.phase.RoundPhase.{RoundPhase}
use Rattle.round_core.specs.declared.phase.RoundPhase.TheVariants.{Quiet, Running}
use Rattle.member_roster.specs.declared.book.Known.{Known}
use Rattle.member_roster.specs.Members.{Joined, greatest_boot, is_known, put_boot, of_node, is_here, is_pending, with_node, without_node, put_joined, late_of, heard_of, any_pending, entered, targeted, target_hosts, heard_at, acked_at, restarted_at, hosts_of, new_joined}

pub record RoomState : Type 0 where
  pub next_version : ℕ
  pub boots : List Known
  pub members : List Joined  -- in byte order of node
  pub phase : RoundPhase
  pub dirty : Bool  -- a change of the members awaits the next round
  pub table : List HostInfo  -- of the table that was fixed last

abbrev pub version_limit : ℕ
version_limit = 2 ^ 62

abbrev pub most_members : ℕ
most_members = 256

abbrev pub most_nodes : ℕ
most_nodes = 65536

abbrev pub new_room : RoomState
new_room = record { next_version = 1; boots = []; members = []; phase = Quiet; dirty = false; table = [] }

abbrev pub last_version : RoomState → ℕ
last_version s = s.next_version - 1

abbrev pub same_stage : AckStage → AckStage → Bool
same_stage stages.Lock stages.Lock = true
same_stage stages.Update stages.Update = true
same_stage stages.Unlock stages.Unlock = true
same_stage _ _ = false

-- ---- rounds

-- the next stage, if nobody is pending: it fixes the table, goes on, or ends the round
abbrev pub next_stage : RoomState → RoundPhase → RoomState
next_stage s Quiet = s
next_stage s (Running stages.Lock) = record s { phase = Running stages.Update; members = map entered s.members; table = target_hosts s.members }
next_stage s (Running stages.Update) = record s { phase = Running stages.Unlock; members = map entered s.members }
next_stage s (Running stages.Unlock) = record s { phase = Quiet }

abbrev pub advance_round : RoomState → RoomState
advance_round s = if any_pending s.members then s else next_stage s s.phase

abbrev pub is_quiet : RoundPhase → Bool
is_quiet Quiet = true
is_quiet (Running stage) = false

abbrev pub may_start : RoomState → Bool
may_start s = is_quiet s.phase && (s.dirty && nat_lt s.next_version version_limit)

-- a round starts if none is running and one is due: each member is a target, and pending
abbrev pub start_round : RoomState → RoomState
start_round s =
    if may_start s then record s { next_version = s.next_version + 1; members = map targeted s.members; phase = Running stages.Lock; dirty = false } else s

-- the round advances as far as it goes by itself: it has three stages
abbrev pub advance_fully : RoomState → RoomState
advance_fully s = advance_round (advance_round (advance_round s))

-- the round advances as far as it goes by itself; then a new one starts if it is due, and advances as far
abbrev pub settle_round : RoomState → RoomState
settle_round s = advance_fully (start_round (advance_fully s))

-- ---- replies

abbrev pub stage_reply : AckStage → ℕ → PlaceReply
stage_reply stages.Lock version = replies.Lock version
stage_reply stages.Update version = replies.Update version
stage_reply stages.Unlock version = replies.Unlock version

abbrev pub phase_reply : RoundPhase → ℕ → PlaceReply
phase_reply Quiet version = replies.Idle
phase_reply (Running stage) version = stage_reply stage version

-- what a member is told: the stage of the round, if it is pending
abbrev pub reply_for : RoomState → Member → PlaceReply
reply_for s m = if is_pending s.members m then phase_reply s.phase (last_version s) else replies.Idle

-- ---- membership

-- what follows a change of the members
pub data Conclusion : Type 0 where
  Stays : (reply : PlaceReply) → Conclusion  -- nothing has changed, and this is the reply
  Says : (reply : PlaceReply) → Conclusion  -- rounds go on, and this is the reply
  Tells : (member : Member) → Conclusion  -- rounds go on, and the member is told its stage

-- the state before rounds go on, who joined and who was removed
pub record Membership : Type 0 where
  pub state : RoomState
  pub joined : Option HostInfo
  pub removed : List Member
  pub conclusion : Conclusion

abbrev pub unchanged : RoomState → PlaceReply → Membership
unchanged s reply = record { state = s; joined = None; removed = []; conclusion = Stays reply }

abbrev pub not_member : RoomState → Member → Membership
not_member s m = unchanged s (replies.NotMember (greatest_boot s.boots m.node))

-- a member is heard, or acknowledges
abbrev pub with_member : RoomState → Member → (Joined → Joined) → Membership
with_member s m f = record { state = record s { members = with_node s.members m.node f }; joined = None; removed = []; conclusion = Tells m }

abbrev pub with_joined : RoomState → HostInfo → ℕ → RoomState
with_joined s host now = record s { boots = put_boot s.boots host.member; members = put_joined s.members (new_joined host now); dirty = true }

abbrev pub is_full : RoomState → List ℕ → Bool
is_full s node = nat_le most_members (length s.members) || (not (is_known s.boots node) && nat_le most_nodes (length s.boots))

abbrev pub join_free : RoomState → HostInfo → ℕ → Membership
join_free s host now =
    if is_full s host.member.node then unchanged s (replies.Full (length s.members) (length s.boots))
    else record { state = with_joined s host now; joined = Some host; removed = []; conclusion = Tells host.member }

-- a host joins if its node has no member
abbrev pub join_node : RoomState → HostInfo → ℕ → Option Joined → Membership
join_node s host now (Some j) = unchanged s (replies.NodeBusy j.host.member.boot)
join_node s host now None = join_free s host now

abbrev pub register : RoomState → HostInfo → ℕ → Membership
register s host now =
    if is_here s.members host.member then with_member s host.member (heard_at now) else (
    if nat_le host.member.boot (greatest_boot s.boots host.member.node) then unchanged s (replies.StaleBoot (greatest_boot s.boots host.member.node))
    else join_node s host now (of_node s.members host.member.node)
    )

abbrev pub is_in_stage : RoundPhase → AckStage → Bool
is_in_stage Quiet stage = false
is_in_stage (Running running) stage = same_stage running stage

-- an acknowledgement of the stage and version of the running round; any other one only counts as being heard
abbrev pub ack_change : RoomState → AckStage → ℕ → ℕ → Joined → Joined
ack_change s stage version now = if is_in_stage s.phase stage && (version == last_version s) then acked_at now else heard_at now

abbrev pub remove_member : RoomState → Member → Membership
remove_member s m =
    if is_here s.members m then
    record { state = record s { members = without_node s.members m.node; dirty = true }; joined = None; removed = m ∷ []; conclusion = Says replies.Gone }
    else not_member s m

abbrev pub drop_late : RoomState → ℕ → Membership
drop_late s now =
    record {
      state = record s { members = heard_of s.members now; dirty = s.dirty || nat_lt 0 (length (late_of s.members now)) };
      joined = None;
      removed = late_of s.members now;
      conclusion = Says (replies.Ticked (length (late_of s.members now)));
    }

abbrev pub apply_membership : RoomState → PlaceEvent → ℕ → Membership
apply_membership s (events.Register host) now = register s host now
apply_membership s (events.Beat m) now = if is_here s.members m then with_member s m (heard_at now) else not_member s m
apply_membership s (events.Ack m stage version) now = if is_here s.members m then with_member s m (ack_change s stage version now) else not_member s m
apply_membership s (events.Leave m) now = remove_member s m
apply_membership s (events.Lost m) now = remove_member s m
apply_membership s events.Tick now = drop_late s now
apply_membership s events.Look now = unchanged s replies.Looked

-- ---- the step, and the restart

pub record RoomStep : Type 0 where
  pub state : RoomState
  pub reply : PlaceReply

abbrev pub conclude : RoomState → Conclusion → RoomStep
conclude s (Stays reply) = record { state = s; reply = reply }
conclude s (Says reply) = record { state = settle_round s; reply = reply }
conclude s (Tells m) = record { state = settle_round s; reply = reply_for (settle_round s) m }

abbrev pub room_step : RoomState → PlaceEvent → ℕ → RoomStep
room_step s event now = let change = apply_membership s event now in conclude change.state change.conclusion

-- next version, greatest boots and members are kept, in no round
abbrev pub awoken : RoomState → ℕ → RoomState
awoken s now = record { next_version = s.next_version; boots = s.boots; members = map (restarted_at now) s.members; phase = Quiet; dirty = true; table = [] }

-- the restart, which starts a round if a version is left; if no round has ever started, it is the opening state
abbrev pub room_restarted : RoomState → ℕ → RoomState
room_restarted s now = if s.next_version == 1 then new_room else settle_round (awoken s now)

-- ---- what a restart keeps

pub record SameDurableState (s t : RoomState) : Type 0 where
  pub next_version : t.next_version ≡ s.next_version
  pub boots : t.boots ≡ s.boots
  pub members : hosts_of t.members ≡ hosts_of s.members
