-- The cluster as one list of events: a placement, the parts of all members, and every message ever added. Own.
use Rattle.std.specs.Prelude.{ℕ, zero, suc, ◌+◌, ◌^◌, ◌%◌, Bool, true, false, not, ◌&&◌, ◌||◌, ◌==◌, nat_le, if◌then◌else◌, List, [], ◌∷◌, ◌++◌, length, set, slice_get, Option, None, Some, Result, Ok, Err}
use Rattle.actor_names.specs.declared.member.Member.{Member}
use Rattle.actor_names.specs.declared.actor_key.ActorKey.{ActorKey}
use Rattle.place_table.specs.declared.host.HostInfo.{HostInfo}
use Rattle.place_table.specs.Hosts.{PlacementTable, key_place}
use Rattle.part_model.specs.declared.settings.TypeSettings.{TypeSettings}
use Rattle.part_model.specs.declared.event.PartEvent.{PartEvent}
use Rattle.part_model.specs.declared.event.PartEvent.TheVariants as events
use Rattle.part_model.specs.Receipts.{PartReply}
use Rattle.part_model.specs.declared.event.Reply.TheVariants as replies
use Rattle.actor_names.specs.Same.{same_member}
use Rattle.part_model.specs.Marks.{PartMark}
use Rattle.part_model.specs.Part.{PartState, PartStep, new_part, is_stopped, receipt_of, part_step}
use Rattle.part_model.specs.declared.stage.SeenStage.{SeenStage}
use Rattle.part_model.specs.declared.stage.SeenStage.TheVariants as seen
use Rattle.part_model.specs.Receipts.{ReceiptState}
use Rattle.part_model.specs.Settings.{settings_or}
use Rattle.round_core.specs.declared.event.PlaceEvent.{PlaceEvent}
use Rattle.round_core.specs.declared.event.PlaceEvent.TheVariants as changes
use Rattle.round_core.specs.declared.event.PlaceReply.{PlaceReply}
use Rattle.round_core.specs.declared.event.PlaceReply.TheVariants as place_replies
use Rattle.round_core.specs.Room.{RoomState, last_version}
use Rattle.placement_core.specs.Placement.{SpaceRoom, PlacementState, PlacementStep, new_placement, room_of, late_in, placement_step, placement_restarted}
use Rattle.part_model.specs.declared.ack.Ack as declared
use Rattle.part_model.specs.Acks.{collected, are_stopped}
use Rattle.world_events.specs.declared.settings.WorldSettings.{WorldSettings}
use Rattle.world_events.specs.declared.event.WorldEvent.{WorldEvent}
use Rattle.world_events.specs.declared.event.WorldEvent.TheVariants as lines
use Rattle.world_events.specs.declared.outcome.Outcome.{Outcome}
use Rattle.world_events.specs.declared.outcome.Outcome.TheVariants as out
use Rattle.world_events.specs.declared.outcome.TurnOutcome.TheVariants as turn
use Rattle.world_events.specs.declared.error.WorldError.{WorldError}
use Rattle.world_events.specs.declared.error.WorldError.TheVariants as refused
use Rattle.cluster_model.specs.Messages.{Request, Register, Beat, Ack, Leave, Answer, Message, Asks, Tells, answer_of, change_of, asker_of, told_event}

-- where a call of the script was made: the place of the part, and the part's number for it
pub record CallPlace : Type 0 where
  pub place : ℕ
  pub call : ℕ

-- a mark of a part, and its member
pub record TraceMark : Type 0 where
  pub member : Member
  pub what : PartMark

pub record ClusterState : Type 0 where
  pub settings : WorldSettings
  pub placement : PlacementState
  pub parts : List PartState  -- of all members, in order of boot, then number
  pub boots : ℕ  -- the boots drawn
  pub messages : List Message  -- every message ever added, in order
  pub now : ℕ
  pub calls : List (Option CallPlace)  -- none: the call was refused
  pub marks : List TraceMark
  pub events : ℕ

-- the cluster after an event, and what comes of it, or why it is refused; a refusal changes nothing
pub record WorldStep : Type 0 where
  pub world : ClusterState
  pub outcome : Result Outcome WorldError

-- the greatest number of events
abbrev pub most_events : ℕ
most_events = 2 ^ 62

abbrev pub opening_cluster : WorldSettings → ClusterState
opening_cluster settings =
    record { settings = settings; placement = new_placement; parts = []; boots = 0; messages = []; now = 0; calls = []; marks = []; events = 0 }

-- the part of an actor, given how many parts there are, by the place of its id; no proof unfolds it
unfoldable pub key_part : ActorKey → ℕ → ℕ
key_part key parts = key_place key.id % parts

-- the marks of a member's part
abbrev pub tagged : Member → List PartMark → List TraceMark
tagged m [] = []
tagged m (x ∷ xs) = record { member = m; what = x } ∷ tagged m xs

-- ---- members and their parts

abbrev pub is_part : Member → ℕ → PartState → Bool
is_part m i p = same_member m p.member && (i == p.number)

abbrev pub up : Option ℕ → Option ℕ
up None = None
up (Some n) = Some (suc n)

-- the place of a member's part
abbrev pub place_of_part : List PartState → Member → ℕ → Option ℕ
place_of_part [] m i = None
place_of_part (p ∷ ps) m i = if is_part m i p then Some 0 else up (place_of_part ps m i)

-- the places of a member's parts, the first part of the list being at this place
abbrev pub places_of : List PartState → Member → ℕ → List ℕ
places_of [] m n = []
places_of (p ∷ ps) m n = if same_member m p.member then n ∷ places_of ps m (suc n) else places_of ps m (suc n)

abbrev pub was_booted : List PartState → Member → Bool
was_booted [] m = false
was_booted (p ∷ ps) m = same_member m p.member || was_booted ps m

abbrev pub all_stopped : List PartState → Member → Bool
all_stopped [] m = true
all_stopped (p ∷ ps) m = (not (same_member m p.member) || is_stopped p.stage) && all_stopped ps m

-- the first of these members that has a running part
abbrev pub running_among : List PartState → List Member → Option Member
running_among ps [] = None
running_among ps (m ∷ ms) = if all_stopped ps m then running_among ps ms else Some m

-- messages are numbered from 1
abbrev pub message_at : ClusterState → ℕ → Option Message
message_at w zero = None
message_at w (suc k) = slice_get w.messages k

-- the settings of a type that no setting names
abbrev pub unnamed_settings : WorldSettings → List ℕ → TypeSettings
unnamed_settings s kind = record { kind = kind; idle_ms = s.idle_ms; drain_ms = s.drain_ms; depth = 0 }

abbrev pub settings_in : WorldSettings → List ℕ → TypeSettings
settings_in s kind = settings_or (unnamed_settings s kind) s.kinds kind

-- the settings of the types of a boot line
abbrev pub settings_for : WorldSettings → List (List ℕ) → List TypeSettings
settings_for s [] = []
settings_for s (kind ∷ kinds) = settings_in s kind ∷ settings_for s kinds

abbrev pub depth_in : WorldSettings → List ℕ → ℕ
depth_in s kind = (settings_in s kind).depth

-- the given number of parts of a new member, numbered from this number on
abbrev pub new_parts : Member → List TypeSettings → ℕ → ℕ → List PartState
new_parts m kinds i zero = []
new_parts m kinds i (suc n) = new_part m i kinds ∷ new_parts m kinds (suc i) n

-- a host of a script: its node is its application id, and its address is 127.0.0.1:0
abbrev pub host_of : Member → List (List ℕ) → HostInfo
host_of m kinds = record { member = m; app = m.node; address = record { ip = 2130706433; port = 0 }; kinds = kinds }

-- ---- messages

abbrev pub with_message : ClusterState → Message → ClusterState
with_message w m = record w { messages = w.messages ++ m ∷ [] }

abbrev pub next_message : ClusterState → ℕ
next_message w = suc (length w.messages)

-- what the event names doesn't exist
abbrev pub nothing : ClusterState → WorldStep
nothing w = record { world = w; outcome = Ok (out.Turn turn.NotThere) }

-- a request that is the message of this number
abbrev pub added_outcome : ℕ → Request → Outcome
added_outcome k (Register host) = out.Booted host.member k
added_outcome k (Beat m) = out.BeatAdded k
added_outcome k (Ack m stage version) = out.AckAdded k stage version
added_outcome k (Leave m) = out.LeaveAdded k

abbrev pub added : ClusterState → Request → WorldStep
added w r = record { world = with_message w (Asks r); outcome = Ok (added_outcome (next_message w) r) }

-- a new member's parts, and its request to be registered
abbrev pub booted : ClusterState → Member → List (List ℕ) → WorldStep
booted w m kinds =
    record {
      world = record (with_message w (Asks (Register (host_of m kinds)))) {
        parts = w.parts ++ new_parts m (settings_for w.settings kinds) 0 w.settings.parts;
        boots = suc w.boots;
      };
      outcome = Ok (added_outcome (next_message w) (Register (host_of m kinds)));
    }

-- the table that the placement fixed last in a space
abbrev pub table_in : PlacementState → List ℕ → List HostInfo
table_in s space = (room_of s space).table

-- the placement takes a step, and its answer is the next message
abbrev pub answers : ClusterState → Request → PlacementStep → WorldStep
answers w r s =
    record {
      world = record (with_message w (Tells (asker_of r) (answer_of (asker_of r).space (table_in s.state (asker_of r).space) s.reply))) { placement = s.state };
      outcome = Ok (out.Answered (next_message w) s.reply);
    }

abbrev pub deliver : ClusterState → Option Message → WorldStep
deliver w None = nothing w
deliver w (Some (Tells m answer)) = nothing w
deliver w (Some (Asks r)) = answers w r (placement_step w.placement (change_of r) w.now)

-- what the placement says of a lost member, and of a Tick
abbrev pub lost_outcome : Member → PlaceReply → Outcome
lost_outcome m place_replies.Gone = out.Lost m
lost_outcome m (place_replies.NotMember greatest) = out.NotMember greatest
lost_outcome m reply = out.Turn turn.NotThere

abbrev pub dropped_outcome : PlaceReply → Outcome
dropped_outcome (place_replies.Ticked dropped) = out.Dropped dropped
dropped_outcome reply = out.Turn turn.NotThere

abbrev pub placement_does : ClusterState → PlaceEvent → (PlaceReply → Outcome) → WorldStep
placement_does w e says =
    record {
      world = record w { placement = (placement_step w.placement e w.now).state };
      outcome = Ok (says (placement_step w.placement e w.now).reply);
    }

abbrev pub dishonest : ClusterState → Member → WorldStep
dishonest w m = record { world = w; outcome = Err (refused.Dishonest m) }

abbrev pub honest_tick : ClusterState → Option Member → WorldStep
honest_tick w None = placement_does w changes.Tick dropped_outcome
honest_tick w (Some m) = dishonest w m

-- the version of the round that a restart starts in a room, 0 if it starts none
abbrev pub restarted_version : RoomState → RoomState → ℕ
restarted_version old new = if last_version new == last_version old then 0 else last_version new

-- those of all rooms, in order of space
abbrev pub restarted_versions : List SpaceRoom → List SpaceRoom → List ℕ
restarted_versions [] new = []
restarted_versions (r ∷ rs) [] = []
restarted_versions (r ∷ rs) (t ∷ ts) = restarted_version r.room t.room ∷ restarted_versions rs ts

-- ---- calls of the script

-- the number of the script's call that a part began
abbrev pub script_number : List (Option CallPlace) → ℕ → ℕ → ℕ → ℕ
script_number [] n place call = 0
script_number (None ∷ cs) n place call = script_number cs (suc n) place call
script_number (Some c ∷ cs) n place call = if (c.place == place) && (c.call == call) then n else script_number cs (suc n) place call

-- where a call is made: none if it was refused
abbrev pub place_of_call : ℕ → PartReply → Option CallPlace
place_of_call n (replies.Begun call chain) = Some (record { place = n; call = call })
place_of_call n (replies.Waits call place) = Some (record { place = n; call = call })
place_of_call n reply = None

abbrev pub the_call : Option (Option CallPlace) → Option CallPlace
the_call None = None
the_call (Some c) = c

abbrev pub call_at : List (Option CallPlace) → ℕ → Option CallPlace
call_at cs zero = None
call_at cs (suc n) = the_call (slice_get cs n)

-- the script's number of the call that began at a place, if one did
abbrev pub next_number : List (Option CallPlace) → ℕ → Option ℕ → Option ℕ
next_number cs place None = None
next_number cs place (Some next) = Some (script_number cs 1 place next)

-- ---- what a part says, as the outcome of the event that asked it

-- of a call, and of a poll
abbrev pub call_outcome : ℕ → PartReply → Outcome
call_outcome n (replies.Begun call chain) = out.Turn (turn.Begun n)
call_outcome n (replies.Waits call place) = out.Turn (turn.Waits n place)
call_outcome n (replies.Depth turns) = out.Turn (turn.Depth n turns)
call_outcome n (replies.QueueFull length) = out.Turn (turn.QueueFull n)
call_outcome n replies.PartFull = out.PartFull n
call_outcome n (replies.NoHost version) = out.NoHost n version
call_outcome n (replies.Elsewhere version owner) = out.Elsewhere n version owner.member
call_outcome n (replies.Behind seen) = out.Behind n seen
call_outcome n replies.AlreadyEnded = out.Turn (turn.AlreadyEnded n)
call_outcome n replies.Stopped = out.Stopped
call_outcome n reply = out.Turn turn.NotThere

-- of an end, whose part is at this place, after these calls
abbrev pub end_outcome : List (Option CallPlace) → ℕ → ℕ → PartReply → Outcome
end_outcome cs n place (replies.Ended next) = out.Turn (turn.Ended n (next_number cs place next))
end_outcome cs n place replies.AlreadyEnded = out.Turn (turn.AlreadyEnded n)
end_outcome cs n place replies.StillWaiting = out.Turn (turn.StillWaiting n)
end_outcome cs n place replies.Stopped = out.Stopped
end_outcome cs n place reply = out.Turn turn.NotThere

-- of a hold or a release
abbrev pub hold_outcome : PartReply → Outcome
hold_outcome (replies.Held n) = out.Turn turn.Held
hold_outcome replies.NotActive = out.Turn turn.NotActive
hold_outcome replies.Released = out.Turn turn.Released
hold_outcome replies.NotHeld = out.Turn turn.NotHeld
hold_outcome replies.Stopped = out.Stopped
hold_outcome reply = out.Turn turn.NotThere

-- of a message that is delivered: a part that isn't changed ignores it
abbrev pub seen_outcome : ReceiptState → SeenStage → Outcome
seen_outcome r seen.Locked = out.Locked r.version
seen_outcome r seen.Draining = out.Updated r.version false
seen_outcome r seen.Drained = out.Updated r.version true
seen_outcome r stage = out.Ignored

abbrev pub told_outcome : PartReply → Outcome
told_outcome (replies.TableStep r true) = seen_outcome r r.stage
told_outcome (replies.Opened r begun moved) = out.Opened r.version begun moved
told_outcome (replies.NotDrained r) = out.NotDrained r.version
told_outcome replies.Stopped = out.Stopped
told_outcome reply = out.Ignored

-- of a part's Tick: the turns that it ended
abbrev pub ended_turns : PartReply → ℕ
ended_turns (replies.Ticked r ended) = ended
ended_turns reply = 0

abbrev pub closing_outcome : PartReply → Outcome
closing_outcome (replies.Close key) = out.Closing key
closing_outcome replies.NoneClosing = out.NoneClosing
closing_outcome replies.Stopped = out.Stopped
closing_outcome reply = out.Turn turn.NotThere

abbrev pub closed_outcome : List (Option CallPlace) → ActorKey → ℕ → PartReply → Outcome
closed_outcome cs key place (replies.ClosedDone next) = out.Closed key (next_number cs place next)
closed_outcome cs key place replies.NotClosing = out.NotClosing
closed_outcome cs key place replies.Stopped = out.Stopped
closed_outcome cs key place reply = out.Turn turn.NotThere

abbrev pub stop_outcome : PartReply → Outcome
stop_outcome (replies.StoppedNow r) = out.Stopped
stop_outcome reply = out.Turn turn.NotThere

-- the call's event: `Ask` if the caller gives no version, which is 0
abbrev pub ask_of : ActorKey → ℕ → Option (List ℕ) → ℕ → PartEvent
ask_of key zero chain now = events.Ask key chain now
ask_of key (suc least) chain now = events.AskAt key chain (suc least) now

-- a refused event isn't counted
abbrev pub weight_of : Result Outcome WorldError → ℕ
weight_of (Ok outcome) = 1
weight_of (Err error) = 0

-- The owner of an actor in a table, and its part among a number of parts, are parameters of what follows.
module _ (owner : PlacementTable → ActorKey → Option HostInfo) (part_of : ActorKey → ℕ → ℕ) where
  -- the part at a place takes a step
  abbrev pub with_step : ClusterState → ℕ → PartState → PartStep → ClusterState
  with_step w n p s = record w { parts = set w.parts n s.part; marks = w.marks ++ tagged p.member s.marks }

  abbrev pub step_of_part : ClusterState → ℕ → PartEvent → (PartReply → Outcome) → Option PartState → WorldStep
  step_of_part w n e says None = nothing w
  step_of_part w n e says (Some p) = record { world = with_step w n p (part_step owner p e); outcome = Ok (says (part_step owner p e).reply) }

  -- the part at this place, if any, takes a step
  abbrev pub part_does : ClusterState → Option ℕ → PartEvent → (ℕ → PartReply → Outcome) → WorldStep
  part_does w None e says = nothing w
  part_does w (Some n) e says = step_of_part w n e (says n) (slice_get w.parts n)

  -- the place of the part of an actor
  abbrev pub key_place_of : ClusterState → Member → ActorKey → Option ℕ
  key_place_of w m key = place_of_part w.parts m (part_of key w.settings.parts)

  abbrev pub call_of_part : ClusterState → ℕ → ℕ → PartEvent → Option PartState → WorldStep
  call_of_part w call n e None = nothing w
  call_of_part w call n e (Some p) =
      record {
        world = record (with_step w n p (part_step owner p e)) { calls = w.calls ++ place_of_call n (part_step owner p e).reply ∷ [] };
        outcome = Ok (call_outcome call (part_step owner p e).reply);
      }

  abbrev pub call_at_place : ClusterState → ℕ → PartEvent → Option ℕ → WorldStep
  call_at_place w call e None = nothing w
  call_at_place w call e (Some n) = call_of_part w call n e (slice_get w.parts n)

  abbrev pub end_call : ClusterState → ℕ → Option CallPlace → WorldStep
  end_call w call None = nothing w
  end_call w call (Some c) = step_of_part w c.place (events.End c.call w.now) (end_outcome w.calls call c.place) (slice_get w.parts c.place)

  abbrev pub poll_call : ClusterState → ℕ → Option CallPlace → WorldStep
  poll_call w call None = nothing w
  poll_call w call (Some c) = step_of_part w c.place (events.Poll c.call) (call_outcome call) (slice_get w.parts c.place)

  -- how many turns ended, as an outcome says; below, the parts at these places take a Tick each, with so many turns
  -- ended before
  abbrev pub turns_ended : Result Outcome WorldError → ℕ
  turns_ended (Ok (out.TickEnded turns)) = turns
  turns_ended outcome = 0

  abbrev pub tick_part : ClusterState → ℕ → WorldStep
  tick_part w n = step_of_part w n (events.Tick w.now) (λ reply. out.TickEnded (ended_turns reply)) (slice_get w.parts n)

  abbrev pub tick_each : ClusterState → List ℕ → ℕ → WorldStep
  tick_each w [] turns = record { world = w; outcome = Ok (out.TickEnded turns) }
  tick_each w (n ∷ ns) turns = tick_each (tick_part w n).world ns (turns + turns_ended (tick_part w n).outcome)

  -- the receipts of a member's parts
  abbrev pub receipts_of : List PartState → Member → List ReceiptState
  receipts_of [] m = []
  receipts_of (p ∷ ps) m = if same_member m p.member then receipt_of owner p ∷ receipts_of ps m else receipts_of ps m

  abbrev pub add_ack : ClusterState → Member → Option declared.Ack → WorldStep
  add_ack w m None = record { world = w; outcome = Ok out.NoAck }
  add_ack w m (Some a) = added w (Ack m a.stage a.version)

  abbrev pub told_part : ClusterState → ℕ → Option PartEvent → Option PartState → WorldStep
  told_part w n None found = record { world = w; outcome = Ok out.Ignored }
  told_part w n (Some e) found = step_of_part w n e told_outcome found

  abbrev pub tell_part : ClusterState → Answer → Option ℕ → WorldStep
  tell_part w answer None = nothing w
  tell_part w answer (Some n) = told_part w n (told_event answer w.now) (slice_get w.parts n)

  abbrev pub to_part : ClusterState → ℕ → Option Message → WorldStep
  to_part w i None = nothing w
  to_part w i (Some (Asks r)) = nothing w
  to_part w i (Some (Tells m answer)) = tell_part w answer (place_of_part w.parts m i)

  abbrev pub happens : ClusterState → WorldEvent → WorldStep
  happens w (lines.At moment) = record { world = record w { now = moment }; outcome = Ok (out.At moment) }
  happens w (lines.Boot space node kinds) = booted w (record { space = space; node = node; boot = suc w.boots }) kinds
  happens w (lines.Beat m) = if was_booted w.parts m then added w (Beat m) else nothing w
  happens w (lines.Collect m) = if was_booted w.parts m then add_ack w m (collected (receipts_of w.parts m)) else nothing w
  happens w (lines.Leave m) =
      if was_booted w.parts m then (if are_stopped (receipts_of w.parts m) then added w (Leave m) else record { world = w; outcome = Ok out.NotStopped }) else nothing w
  happens w (lines.To k) = deliver w (message_at w k)
  happens w (lines.Part k i) = to_part w i (message_at w k)
  happens w (lines.Call call m key least chain) =
      if call == suc (length w.calls) then call_at_place w call (ask_of key least chain w.now) (key_place_of w m key)
      else record { world = w; outcome = Err (refused.WrongNumber (suc (length w.calls))) }
  happens w (lines.Poll call) = poll_call w call (call_at w.calls call)
  happens w (lines.End call) = end_call w call (call_at w.calls call)
  happens w (lines.Hold m key) = part_does w (key_place_of w m key) (events.Hold key) (λ _. hold_outcome)
  happens w (lines.Release m key) = part_does w (key_place_of w m key) (events.Release key w.now) (λ _. hold_outcome)
  happens w (lines.Tick m) = if was_booted w.parts m then tick_each w (places_of w.parts m 0) 0 else nothing w
  happens w (lines.Closing m i) = part_does w (place_of_part w.parts m i) (events.TakeClosing w.now) (λ _. closing_outcome)
  happens w (lines.Closed m key) = part_does w (key_place_of w m key) (events.Closed key) (closed_outcome w.calls key)
  happens w (lines.Stop m i) = part_does w (place_of_part w.parts m i) events.StopPart (λ _. stop_outcome)
  happens w (lines.Lost m) =
      if was_booted w.parts m then (if all_stopped w.parts m then placement_does w (changes.Lost m) (lost_outcome m) else dishonest w m) else nothing w
  happens w lines.PlacementTick = honest_tick w (running_among w.parts (late_in w.placement.rooms w.now))
  happens w lines.Restart =
      let p = placement_restarted w.placement w.now in
      record { world = record w { placement = p }; outcome = Ok (out.Restarted (restarted_versions w.placement.rooms p.rooms)) }

  abbrev pub counted : WorldStep → WorldStep
  counted s = record { world = record (s.world) { events = s.world.events + weight_of s.outcome }; outcome = s.outcome }

  abbrev pub cluster_step : ClusterState → WorldEvent → WorldStep
  cluster_step w e = if nat_le most_events w.events then record { world = w; outcome = Err (refused.Spent w.events) } else counted (happens w e)

  abbrev pub cluster_run : ClusterState → List WorldEvent → ClusterState
  cluster_run w [] = w
  cluster_run w (e ∷ es) = cluster_run (cluster_step w e).world es

  abbrev pub outcomes : ClusterState → List WorldEvent → List (Result Outcome WorldError)
  outcomes w [] = []
  outcomes w (e ∷ es) = (cluster_step w e).outcome ∷ outcomes (cluster_step w e).world es
