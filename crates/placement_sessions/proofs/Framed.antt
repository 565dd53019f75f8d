-- A step that a frame asks for is answered by a frame.
use Rattle.std.proofs.Common.{◌≡◌, ℕ, List, Bool, true, false, Option, Some, None, option_map, length, refl, sym, subst}
use Rattle.std.specs.Prelude.{nat_le, ◌==◌}
use Rattle.std.proofs.lemmas.Bool.{cond_both}
use Rattle.actor_names.specs.declared.member.Member.{Member}
use Rattle.place_table.specs.declared.host.HostInfo.{HostInfo}
use Rattle.place_table.specs.declared.ack_stage.AckStage.TheVariants as stages
use Rattle.member_roster.specs.Members.{Joined, is_here, is_pending, of_node, greatest_boot}
use Rattle.round_core.specs.declared.event.PlaceEvent.{PlaceEvent}
use Rattle.round_core.specs.declared.event.PlaceEvent.TheVariants as events
use Rattle.round_core.specs.declared.event.PlaceReply.{PlaceReply}
use Rattle.round_core.specs.declared.event.PlaceReply.TheVariants as replies
use Rattle.round_core.specs.declared.phase.RoundPhase.{RoundPhase}
use Rattle.round_core.specs.declared.phase.RoundPhase.TheVariants.{Quiet, Running}
use Rattle.round_core.specs.Room.{RoomState, Conclusion, Stays, Says, Tells, last_version, settle_round, phase_reply, reply_for, conclude, register, apply_membership, join_node, join_free, is_full, room_step, new_room}
use Rattle.placement_core.specs.Placement.{PlacementState, placement_step, most_spaces, in_room, joins_room, room_at}
use Rattle.frame_wire.specs.declared.frame.Frame.{Frame}
use Rattle.frame_wire.specs.declared.frame.Frame.TheVariants as frames
use Rattle.frame_wire.specs.Frames.{payload}
use Rattle.placement_node.specs.declared.reply.NodeEvent.{NodeEvent}
use Rattle.placement_node.specs.declared.reply.NodeReply.{NodeReply}
use Rattle.placement_node.specs.declared.reply.NodeReply.TheVariants.{Message, Seen, Ticked}
use Rattle.placement_node.specs.Node.{NodeState, NodeMoves, NodeAllows, Works, stepped}
use Rattle.placement_node.specs.Ranges.{ReplyFits}
use Rattle.placement_node.specs.Replies.{event_space, reply_of, outcome_of}
use Rattle.frame_session.specs.Rounds.{IsReply}
use Rattle.frame_session.specs.AtStepGate.{StepReplies}
use Rattle.placement_sessions.specs.Placements.{place_event, node_event}

-- a reply of the placement that is a frame of the node
abbrev pub IsFramed : PlaceReply → Type 0
IsFramed (replies.Ticked dropped) = ⊥
IsFramed replies.Looked = ⊥
IsFramed reply = Unit {0}

-- an event that a frame may ask for
abbrev pub IsAsked : PlaceEvent → Type 0
IsAsked (events.Register h) = Unit {0}
IsAsked (events.Beat m) = Unit {0}
IsAsked (events.Ack m stage version) = Unit {0}
IsAsked (events.Leave m) = Unit {0}
IsAsked event = ⊥

abbrev pub Concludes : Conclusion → Type 0
Concludes (Stays reply) = IsFramed reply
Concludes (Says reply) = IsFramed reply
Concludes (Tells m) = Unit {0}

phase_framed : (phase : RoundPhase) (version : ℕ) → IsFramed (phase_reply phase version)
phase_framed Quiet version = tt
phase_framed (Running stages.Lock) version = tt
phase_framed (Running stages.Update) version = tt
phase_framed (Running stages.Unlock) version = tt

told_framed : (s : RoomState) (m : Member) → IsFramed (reply_for s m)
told_framed s m = cond_both (is_pending s.members m) (phase_reply s.phase (last_version s)) replies.Idle IsFramed (λ e. phase_framed s.phase (last_version s)) (λ e. tt)

concluded : (s : RoomState) (e : Conclusion) → Concludes e → IsFramed (conclude s e).reply
concluded s (Stays reply) framed = framed
concluded s (Says reply) framed = framed
concluded s (Tells m) framed = told_framed (settle_round s) m

-- ---- the step of a room

module _ (s : RoomState) where
  full_framed : (h : HostInfo) (now : ℕ) (b : Bool) → is_full s h.member.node ≡ b → Concludes (join_free s h now).conclusion
  full_framed h now true is = rw is tt
  full_framed h now false is = rw is tt

  node_framed : (h : HostInfo) (now : ℕ) (o : Option Joined) → Concludes (join_node s h now o).conclusion
  node_framed h now (Some j) = tt
  node_framed h now None = full_framed h now (is_full s h.member.node) refl

  register_framed : (h : HostInfo) (now : ℕ) (a b : Bool) → is_here s.members h.member ≡ a → nat_le h.member.boot (greatest_boot s.boots h.member.node) ≡ b → Concludes (register s h now).conclusion
  register_framed h now true b here stale = rw here tt
  register_framed h now false true here stale = rw (here, stale) tt
  register_framed h now false false here stale = rw (here, stale) (node_framed h now (of_node s.members h.member.node))

  applied_framed : (event : PlaceEvent) (now : ℕ) → IsAsked event → Concludes (apply_membership s event now).conclusion
  applied_framed (events.Register h) now asked = register_framed h now (is_here s.members h.member) (nat_le h.member.boot (greatest_boot s.boots h.member.node)) refl refl
  applied_framed (events.Beat m) now asked = go (is_here s.members m) refl
    where
      go : (b : Bool) → is_here s.members m ≡ b → Concludes (apply_membership s (events.Beat m) now).conclusion
      go true is = rw is tt
      go false is = rw is tt
  applied_framed (events.Ack m stage version) now asked = go (is_here s.members m) refl
    where
      go : (b : Bool) → is_here s.members m ≡ b → Concludes (apply_membership s (events.Ack m stage version) now).conclusion
      go true is = rw is tt
      go false is = rw is tt
  applied_framed (events.Leave m) now asked = go (is_here s.members m) refl
    where
      go : (b : Bool) → is_here s.members m ≡ b → Concludes (apply_membership s (events.Leave m) now).conclusion
      go true is = rw is tt
      go false is = rw is tt
  applied_framed (events.Lost m) now asked = absurd asked
  applied_framed events.Tick now asked = absurd asked
  applied_framed events.Look now asked = absurd asked

  room_framed : (event : PlaceEvent) (now : ℕ) → IsAsked event → IsFramed (room_step s event now).reply
  room_framed event now asked = let change = apply_membership s event now in concluded change.state change.conclusion (applied_framed event now asked)

-- ---- the step of the placement

member_framed : (s : PlacementState) (space : List ℕ) (event : PlaceEvent) (now : ℕ) (room : Option RoomState) → IsAsked event → IsFramed (in_room s space event now room).reply
member_framed s space event now None asked = tt
member_framed s space event now (Some room) asked = room_framed room event now asked

joins_framed : (s : PlacementState) (h : HostInfo) (now : ℕ) (room : Option RoomState) → IsFramed (joins_room s h now room).reply
joins_framed s h now (Some room) = room_framed room (events.Register h) now tt
joins_framed s h now None = go (nat_le most_spaces (length s.rooms)) (h.member.boot == 0) refl refl
  where
    go : (a b : Bool) → nat_le most_spaces (length s.rooms) ≡ a → (h.member.boot == 0) ≡ b → IsFramed (joins_room s h now None).reply
    go true b full none = rw full tt
    go false true full none = rw (full, none) tt
    go false false full none = rw (full, none) (room_framed new_room (events.Register h) now tt)

step_framed : (s : PlacementState) (event : PlaceEvent) (now : ℕ) → IsAsked event → IsFramed (placement_step s event now).reply
step_framed s (events.Register h) now asked = joins_framed s h now (room_at s.rooms h.member.space)
step_framed s (events.Beat m) now asked = member_framed s m.space (events.Beat m) now (room_at s.rooms m.space) tt
step_framed s (events.Ack m stage version) now asked = member_framed s m.space (events.Ack m stage version) now (room_at s.rooms m.space) tt
step_framed s (events.Leave m) now asked = member_framed s m.space (events.Leave m) now (room_at s.rooms m.space) tt
step_framed s (events.Lost m) now asked = absurd asked
step_framed s events.Tick now asked = absurd asked
step_framed s events.Look now asked = absurd asked

-- ---- the step of the node

-- a reply that is a message
abbrev pub IsMessage : NodeReply → Type 0
IsMessage (Message frame) = Unit {0}
IsMessage (Seen rooms) = ⊥
IsMessage (Ticked dropped) = ⊥

reply_message : (s : PlacementState) (space : List ℕ) (reply : PlaceReply) → IsFramed reply → IsMessage (reply_of s space reply)
reply_message s space (replies.Lock version) framed = tt
reply_message s space (replies.Update version) framed = tt
reply_message s space (replies.Unlock version) framed = tt
reply_message s space replies.Idle framed = tt
reply_message s space replies.Gone framed = tt
reply_message s space (replies.Ticked dropped) framed = absurd framed
reply_message s space replies.Looked framed = absurd framed
reply_message s space (replies.StaleBoot greatest) framed = tt
reply_message s space (replies.NodeBusy boot) framed = tt
reply_message s space (replies.NotMember greatest) framed = tt
reply_message s space (replies.SpacesFull spaces) framed = tt
reply_message s space (replies.Full members nodes) framed = tt
reply_message s space replies.OutOfMemory framed = tt

worked_message : (old : NodeState) (e : NodeEvent) (r : NodeReply) (new : NodeState) → IsAsked e.event → Works old e r new (outcome_of r) → IsMessage r
worked_message old e (Message frame) new asked works = tt
worked_message old e (Seen rooms) new asked works = subst IsMessage (sym works.replies) (reply_message (stepped old e).state (event_space e.event) (stepped old e).reply (step_framed old.state e.event e.now asked))
worked_message old e (Ticked dropped) new asked works = subst IsMessage (sym works.replies) (reply_message (stepped old e).state (event_space e.event) (stepped old e).reply (step_framed old.state e.event e.now asked))

moved_message : (old : NodeState) (e : NodeEvent) (r : NodeReply) (new : NodeState) → IsAsked e.event → NodeMoves old e r new → IsMessage r
moved_message old e r new asked m = go old.journal.is_broken refl
  where
    go : (b : Bool) → old.journal.is_broken ≡ b → IsMessage r
    go true is = subst IsMessage (sym (m.shut is).0) tt
    go false is = worked_message old e r new asked (m.works is)

-- ---- what a frame asks for

frame_asks : (frame : Frame) (event : PlaceEvent) → place_event frame ≡ Some event → IsAsked event
frame_asks frame event is = go frame is
  where
    put : (asked : PlaceEvent) → IsAsked asked → Some asked ≡ Some event → IsAsked event
    put asked here same = let e : asked ≡ event = cc in subst IsAsked e here

    go : (f : Frame) → place_event f ≡ Some event → IsAsked event
    go (frames.Register h) same = put (events.Register h) tt same
    go (frames.Beat m) same = put (events.Beat m) tt same
    go (frames.Ack m stage version) same = put (events.Ack m stage version) tt same
    go (frames.Leave m) same = put (events.Leave m) tt same
    go (frames.Lock version) same = absurd cc
    go (frames.Update version hosts) same = absurd cc
    go (frames.Unlock version) same = absurd cc
    go frames.Idle same = absurd cc
    go (frames.Refused refusal) same = absurd cc
    go frames.Gone same = absurd cc
    go (frames.Mirror command) same = absurd cc
    go (frames.Mirrored answer) same = absurd cc
    go (frames.Command command) same = absurd cc
    go (frames.FencedTx epoch s actor ops) same = absurd cc
    go (frames.Answer answer) same = absurd cc

node_asks : (frame : Frame) (now : ℕ) (e : NodeEvent) → node_event frame now ≡ Some e → IsAsked e.event
node_asks frame now e is = go (place_event frame) refl is
  where
    go : (o : Option PlaceEvent) → place_event frame ≡ o → option_map (λ (event : PlaceEvent). (let it : NodeEvent = record { event = event; now = now } in it)) o ≡ Some e → IsAsked e.event
    go None found same = absurd cc
    go (Some event) found same =
        let it : NodeEvent = record { event = event; now = now } in
        let here : it ≡ e = cc in
        subst (λ (x : NodeEvent). IsAsked x.event) here (frame_asks frame event found)

-- a reply that the node gave to a frame is a message that may be sent
pub reply_is_message : (r : NodeReply) → IsReply (StepReplies NodeAllows) node_event r → IsMessage r × ReplyFits r
reply_is_message r a = let moves = a.5.2 in (moved_message a.5.0 a.2 r a.5.1 (node_asks a.0 a.1 a.2 a.4) moves.0, moves.1)

message_frame : (r : NodeReply) → IsMessage r → ReplyFits r → (answer : Frame) × (r ≡ Message answer) × payload.Fits answer
message_frame (Message frame) is fits = (frame, refl, fits)
message_frame (Seen rooms) is fits = absurd is
message_frame (Ticked dropped) is fits = absurd is

pub frame_answered : (old new : NodeState) (frame : Frame) (now : ℕ) (e : NodeEvent) (r : NodeReply) → node_event frame now ≡ Some e → NodeAllows old e r new → (answer : Frame) × (r ≡ Message answer) × payload.Fits answer
frame_answered old new frame now e r is a = message_frame r (moved_message old e r new (node_asks frame now e is) a.0) a.1
