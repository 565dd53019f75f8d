-- The responses to requests for a room. After `GET /placement/state` of Dapr's placement service; the details are own.
use Rattle.std.specs.Prelude.{ℕ, Bool, true, false, List, [], ◌∷◌, ◌++◌, bytes_eq, codes, if◌then◌else◌, Option, Some, None}
use Rattle.http_edge.specs.declared.message.HttpResponse.{HttpResponse}
use Rattle.actors_api.specs.declared.refusal.ApiRefusal.{ApiRefusal}
use Rattle.actors_api.specs.declared.refusal.ApiRefusal.TheVariants as api
use Rattle.actors_api.specs.declared.side.Side.TheVariants.{Caller}
use Rattle.actors_api.specs.Refusals.{refusal_row}
use Rattle.actors_api.specs.Responses as responses
use Rattle.actors_api.specs.Responses.{field, json_response}
use Rattle.frame_wire.specs.declared.frame.Frame.{Frame}
use Rattle.frame_wire.specs.declared.frame.Frame.TheVariants as frames
use Rattle.frame_wire.specs.declared.refusal.Refusal.{Refusal}
use Rattle.frame_wire.specs.declared.refusal.Refusal.TheVariants as refusals
use Rattle.placement_sessions.specs.declared.route.Asked.{Asked}
use Rattle.placement_sessions.specs.declared.route.Asked.TheVariants.{State, Rounds}
use Rattle.placement_sessions.specs.States.{state_text, rounds_text}
use Rattle.placement_node.specs.declared.reply.NodeReply.{NodeReply}
use Rattle.placement_node.specs.declared.reply.NodeReply.TheVariants.{Message, Seen, Ticked}
use Rattle.placement_node.specs.declared.reply.RoomSeen.{RoomSeen}

-- the room of a space, if there is one
abbrev pub room_in : List RoomSeen → List ℕ → Option RoomSeen
room_in [] space = None
room_in (r ∷ rooms) space = if bytes_eq r.space space then Some r else room_in rooms space

-- a space without a room has no members, has used no version, and runs no round
abbrev pub state_of : Option RoomSeen → List ℕ
state_of None = state_text [] 0
state_of (Some r) = state_text r.members r.version

abbrev pub rounds_of : Option RoomSeen → List ℕ
rounds_of None = rounds_text None 0
rounds_of (Some r) = rounds_text r.round r.version

-- the text that is asked for
abbrev pub asked_text : Asked → List RoomSeen → List ℕ
asked_text (State space) rooms = state_of (room_in rooms space)
asked_text (Rounds space) rooms = rounds_of (room_in rooms space)

-- a response after which the session ends says so, behind its other fields
abbrev pub closing : Bool → HttpResponse → HttpResponse
closing true r = record { status = r.status; fields = r.fields ++ field (codes "Connection") (codes "close") ∷ []; body = r.body }
closing false r = r

abbrev pub refused_with : ApiRefusal → HttpResponse
refused_with refusal = responses.refusal_response Caller (refusal_row refusal)

-- What a request for a room is answered with, by the reply to its Look. A refusal for want of memory is passed
-- on; there is no response if the node must be opened again.
abbrev pub refusal_response : Refusal → Option HttpResponse
refusal_response refusals.OutOfMemory = Some (refused_with api.OutOfMemory)
refusal_response refusal = None

abbrev pub frame_response : Frame → Option HttpResponse
frame_response (frames.Refused refusal) = refusal_response refusal
frame_response frame = None

abbrev pub look_response : NodeReply → Asked → Option HttpResponse
look_response (Seen rooms) asked = Some (json_response 200 (asked_text asked rooms))
look_response (Message frame) asked = frame_response frame
look_response (Ticked dropped) asked = None
