-- The lines that outcomes print. Own: docs/scripts.md has the tables.
use Rattle.std.specs.Prelude.{ℕ, List, [], ◌∷◌, ◌++◌, bytes_eq, codes, decimal, if◌then◌else◌, true, false, None, Some}
use Rattle.actor_names.specs.Names.{default_space}
use Rattle.actor_names.specs.declared.actor_key.ActorKey.{ActorKey}
use Rattle.actor_names.specs.declared.member.Member.{Member}
use Rattle.place_table.specs.declared.ack_stage.AckStage.{AckStage}
use Rattle.place_table.specs.declared.ack_stage.AckStage.TheVariants as stage
use Rattle.round_core.specs.declared.event.PlaceReply.{PlaceReply}
use Rattle.round_core.specs.declared.event.PlaceReply.TheVariants as reply
use Rattle.world_events.specs.declared.outcome.TurnOutcome.{TurnOutcome}
use Rattle.world_events.specs.declared.outcome.TurnOutcome.TheVariants.{Begun, Waits, Depth, QueueFull, Ended, AlreadyEnded, StillWaiting, NotThere, Held, NotActive, Released, NotHeld}
use Rattle.world_events.specs.declared.outcome.Outcome.{Outcome}
use Rattle.world_events.specs.declared.outcome.Outcome.TheVariants as out

-- what comes of a call, of its end or poll, and of a hold
abbrev pub turn_text : TurnOutcome → List ℕ
turn_text (Begun call) = codes "begin " ++ decimal call ++ codes "\n"
turn_text (Waits call place) = codes "wait " ++ decimal call ++ codes " " ++ decimal place ++ codes "\n"
turn_text (Depth call turns) = codes "depth " ++ decimal call ++ codes " " ++ decimal turns ++ codes "\n"
turn_text (QueueFull call) = codes "queue-full " ++ decimal call ++ codes "\n"
turn_text (Ended call None) = codes "end " ++ decimal call ++ codes "\n"
turn_text (Ended call (Some next)) = codes "end " ++ decimal call ++ codes " begin " ++ decimal next ++ codes "\n"
turn_text (AlreadyEnded call) = codes "already-ended " ++ decimal call ++ codes "\n"
turn_text (StillWaiting call) = codes "still-waiting " ++ decimal call ++ codes "\n"
turn_text NotThere = codes "none\n"
turn_text Held = codes "held\n"
turn_text NotActive = codes "not-active\n"
turn_text Released = codes "released\n"
turn_text NotHeld = codes "not-held\n"

-- a space before the name of a member; `default` isn't printed
abbrev pub space_text : List ℕ → List ℕ
space_text space = if bytes_eq space default_space then [] else space ++ codes ":"

-- `NODE/BOOT` or `SPACE:NODE/BOOT`
abbrev pub member_text : Member → List ℕ
member_text m = space_text m.space ++ m.node ++ codes "/" ++ decimal m.boot

-- `TYPE/ID`: the space of a key is that of the member at which it is named
abbrev pub key_text : ActorKey → List ℕ
key_text key = key.kind ++ codes "/" ++ key.id

-- a message by its number
abbrev pub message_text : ℕ → List ℕ
message_text k = codes "msg " ++ decimal k

abbrev pub stage_text : AckStage → List ℕ
stage_text stage.Lock = codes " ack lock "
stage_text stage.Update = codes " ack update "
stage_text stage.Unlock = codes " ack unlock "

-- An answer of the placement, after its number. The last three answer no request that is a message.
abbrev pub reply_text : PlaceReply → List ℕ
reply_text (reply.Lock version) = codes " lock " ++ decimal version
reply_text (reply.Update version) = codes " update " ++ decimal version
reply_text (reply.Unlock version) = codes " unlock " ++ decimal version
reply_text reply.Idle = codes " idle"
reply_text reply.Gone = codes " gone"
reply_text (reply.StaleBoot greatest) = codes " stale-boot " ++ decimal greatest
reply_text (reply.NodeBusy boot) = codes " node-busy " ++ decimal boot
reply_text (reply.NotMember greatest) = codes " not-member " ++ decimal greatest
reply_text (reply.SpacesFull spaces) = codes " spaces-full " ++ decimal spaces
reply_text (reply.Full members nodes) = codes " full"
reply_text (reply.Ticked dropped) = codes " none"
reply_text reply.Looked = codes " none"
reply_text reply.OutOfMemory = codes " none"

-- the versions of the rounds that a restart starts
abbrev pub versions_text : List ℕ → List ℕ
versions_text [] = []
versions_text (v ∷ vs) = codes " " ++ decimal v ++ versions_text vs

abbrev pub outcome_text : Outcome → List ℕ
outcome_text (out.Turn outcome) = turn_text outcome
outcome_text (out.PartFull call) = codes "part-full " ++ decimal call ++ codes "\n"
outcome_text (out.NoHost call version) = codes "no-host " ++ decimal call ++ codes " " ++ decimal version ++ codes "\n"
outcome_text (out.Elsewhere call version m) = codes "elsewhere " ++ decimal call ++ codes " " ++ decimal version ++ codes " " ++ member_text m ++ codes "\n"
outcome_text (out.Behind call seen) = codes "behind " ++ decimal call ++ codes " " ++ decimal seen ++ codes "\n"
outcome_text out.Stopped = codes "stopped\n"
outcome_text (out.At moment) = codes "at " ++ decimal moment ++ codes "\n"
outcome_text (out.Booted m k) = codes "boot " ++ member_text m ++ codes " " ++ message_text k ++ codes "\n"
outcome_text (out.BeatAdded k) = message_text k ++ codes " beat\n"
outcome_text (out.AckAdded k stage version) = message_text k ++ stage_text stage ++ decimal version ++ codes "\n"
outcome_text (out.LeaveAdded k) = message_text k ++ codes " leave\n"
outcome_text out.NoAck = codes "no-ack\n"
outcome_text out.NotStopped = codes "not-stopped\n"
outcome_text (out.Answered k reply) = message_text k ++ reply_text reply ++ codes "\n"
outcome_text out.Ignored = codes "ignored\n"
outcome_text (out.Locked version) = codes "locked " ++ decimal version ++ codes "\n"
outcome_text (out.Updated version true) = codes "updated " ++ decimal version ++ codes " drained\n"
outcome_text (out.Updated version false) = codes "updated " ++ decimal version ++ codes " draining\n"
outcome_text (out.Opened version begun moved) =
    codes "open " ++ decimal version ++ codes " begun " ++ decimal begun ++ codes " moved " ++ decimal moved ++ codes "\n"
outcome_text (out.NotDrained version) = codes "not-drained " ++ decimal version ++ codes "\n"
outcome_text (out.TickEnded turns) = codes "tick ended " ++ decimal turns ++ codes "\n"
outcome_text (out.Closing key) = codes "closing " ++ key_text key ++ codes "\n"
outcome_text out.NoneClosing = codes "none-closing\n"
outcome_text (out.Closed key None) = codes "closed " ++ key_text key ++ codes "\n"
outcome_text (out.Closed key (Some next)) = codes "closed " ++ key_text key ++ codes " begin " ++ decimal next ++ codes "\n"
outcome_text out.NotClosing = codes "not-closing\n"
outcome_text (out.Lost m) = codes "lost " ++ member_text m ++ codes "\n"
outcome_text (out.NotMember greatest) = codes "not-member " ++ decimal greatest ++ codes "\n"
outcome_text (out.Dropped members) = codes "ptick dropped " ++ decimal members ++ codes "\n"
outcome_text (out.Restarted versions) = codes "restart" ++ versions_text versions ++ codes "\n"

-- the line that reports a refused line
abbrev pub bad_line_text : ℕ → ℕ → List ℕ
bad_line_text line column = codes "bad line " ++ decimal line ++ codes " column " ++ decimal column ++ codes "\n"
