-- The response to each reply. Own; statuses and bodies are those of Dapr's actors API where it says them.
use Rattle.std.specs.Prelude.{ℕ, if◌then◌else◌, List, [], ◌∷◌, ◌++◌, codes, Option, Some, None}
use Rattle.json_text.specs.Values.{text}
use Rattle.json_text.specs.Texts.{at_key, in_braces, text_of}
use Rattle.http_edge.specs.Fields.{is_same_word}
use Rattle.http_edge.specs.declared.message.HttpField.{HttpField}
use Rattle.http_edge.specs.declared.message.HttpResponse.{HttpResponse}
use Rattle.actors_api.specs.declared.side.Side.{Side}
use Rattle.actors_api.specs.declared.side.Side.TheVariants.{Caller, Peer}
use Rattle.actors_api.specs.declared.reply.ApiReply.{ApiReply}
use Rattle.actors_api.specs.declared.reply.ApiReply.TheVariants.{Invoked, TransactionMade, StateIs, NoState, ReminderPut, ReminderIs, ReminderDeleted, TimerSet, TimerDeleted, Elsewhere, Made, Unanswered, Refused}
use Rattle.actors_api.specs.Refusals.{RefusalRow, refusal_row}
use Rattle.actors_api.specs.Owners.{owner_text}
use Rattle.api_bodies.specs.Told.{reminder_body}

abbrev pub field : List ℕ → List ℕ → HttpField
field name value = record { name = name; value = value }

abbrev pub response : ℕ → List HttpField → List ℕ → HttpResponse
response status fields body = record { status = status; fields = fields; body = body }

-- what says that a body is JSON
abbrev pub json_type : HttpField
json_type = field (codes "Content-Type") (codes "application/json")

-- a response with JSON of the sidecar's own
abbrev pub json_response : ℕ → List ℕ → HttpResponse
json_response status body = response status (json_type ∷ []) body

abbrev pub no_content : HttpResponse
no_content = response 204 [] []

-- the status alone that is noted where there was no memory for a response
abbrev pub no_memory : HttpResponse
no_memory = response 503 [] []

-- the value of the first field with this name, whatever the case of its letters
abbrev pub first_value : List ℕ → List HttpField → Option (List ℕ)
first_value name [] = None
first_value name (f ∷ fs) = if is_same_word f.name name then Some f.value else first_value name fs

-- the field with that value, if there is one
abbrev pub field_of : List ℕ → Option (List ℕ) → List HttpField
field_of name None = []
field_of name (Some value) = field name value ∷ []

-- what is passed on of the application's reply: its status, its first Content-Type and its body
abbrev pub passed_on : HttpResponse → HttpResponse
passed_on reply = response reply.status (field_of (codes "Content-Type") (first_value (codes "Content-Type") reply.fields)) reply.body

-- `{"errorCode":"CODE","message":"TEXT"}`
abbrev pub error_body : RefusalRow → List ℕ
error_body row = in_braces (at_key (codes "errorCode") (text_of (text row.code)) ∷ at_key (codes "message") (text_of (text row.text)) ∷ [])

-- the field that tells a peer that the sidecar refused, and not the application; a caller is never told
abbrev pub refusal_word : Side → List ℕ → List HttpField
refusal_word Caller word = []
refusal_word Peer word = field (codes "Actors-Refusal") word ∷ []

-- the response to a refusal
abbrev pub refusal_response : Side → RefusalRow → HttpResponse
refusal_response side row = response row.status (json_type ∷ refusal_word side row.code) (error_body row)

-- the field that tells a peer the owner
abbrev pub owner_field : Side → List ℕ → List HttpField
owner_field Caller owner = []
owner_field Peer owner = field (codes "Actors-Owner") owner ∷ []

abbrev pub elsewhere_response : Side → List ℕ → HttpResponse
elsewhere_response side owner = response 421 (refusal_word side (codes "elsewhere") ++ owner_field side owner) []

-- the response to each reply
abbrev pub response_of : Side → ApiReply → HttpResponse
response_of side (Invoked reply) = passed_on reply
response_of side TransactionMade = no_content
response_of side (StateIs value) = json_response 200 value
response_of side NoState = no_content
response_of side ReminderPut = no_content
response_of side (ReminderIs due period ttl payload) = json_response 200 (reminder_body due period ttl payload)
response_of side ReminderDeleted = no_content
response_of side TimerSet = no_content
response_of side TimerDeleted = no_content
response_of side (Elsewhere version owner) = elsewhere_response side (owner_text version owner)
response_of side (Made response) = response
response_of side Unanswered = no_memory
response_of side (Refused refusal) = refusal_response side (refusal_row refusal)
