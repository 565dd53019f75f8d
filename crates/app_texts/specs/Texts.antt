-- The requests to an application and to another sidecar, byte for byte. Actors are called as in the service invocation
-- of Dapr's actor runtime; the fields between sidecars are own.
use Rattle.std.specs.Prelude.{ℕ, ◌/◌, ◌%◌, Bool, true, ◌||◌, ◌==◌, if◌then◌else◌, List, [], ◌∷◌, ◌++◌, length, codes, decimal, Option, Some, None}
use Rattle.std.specs.Option.{option_copied}
use Rattle.std.specs.Fmt.{digit_glyph}
use Rattle.lists_and_limits.specs.Decimals.{is_between}
use Rattle.actor_names.specs.declared.address.Address.{Address}
use Rattle.actor_names.specs.declared.actor_key.ActorKey.{ActorKey}
use Rattle.json_text.specs.Texts.{text_of}
use Rattle.json_text.specs.Values.{text}
use Rattle.call_names.specs.Texts.{address_text, call_text}
use Rattle.http_edge.specs.declared.message.HttpField.{HttpField}
use Rattle.http_edge.specs.Fields.{is_same_word}
use Rattle.app_texts.specs.declared.calls.MethodCall.{MethodCall}
use Rattle.app_texts.specs.declared.callbacks.Callback.{Callback}
use Rattle.app_texts.specs.declared.peer.PeerCall.{PeerCall}

-- ---- parts of paths

-- a byte that stands for itself in a path: a letter, a digit, `-`, `.`, `_` or `~` (RFC 3986, section 2.3)
abbrev pub is_unreserved : ℕ → Bool
is_unreserved b = is_between 97 122 b || is_between 65 90 b || is_between 48 57 b || (b == 45) || (b == 46) || (b == 95) || (b == 126)

-- `%` and two upper-case hexadecimal digits
abbrev pub escape : ℕ → List ℕ
escape b = 37 ∷ digit_glyph true (b / 16 % 16) ∷ digit_glyph true (b % 16) ∷ []

-- a part of a path
abbrev pub escaped : List ℕ → List ℕ
escaped [] = []
escaped (b ∷ bs) = (if is_unreserved b then b ∷ [] else escape b) ++ escaped bs

unfoldable pub actor_path : ActorKey → List ℕ
actor_path a = codes "/actors/" ++ escaped a.kind ++ codes "/" ++ escaped a.id

-- the method text stands as it came
abbrev pub method_path : ActorKey → List ℕ → List ℕ
method_path a method = actor_path a ++ codes "/method/" ++ method

-- ---- fields

abbrev pub line : List ℕ → List ℕ → List ℕ
line name value = name ++ codes ": " ++ value ++ codes "\r\n"

-- no line if there is no value
abbrev pub line_if : List ℕ → Option (List ℕ) → List ℕ
line_if name None = []
line_if name (Some value) = line name value

abbrev pub host_line : Address → List ℕ
host_line at = line (codes "Host") (address_text at)

abbrev pub close_line : List ℕ
close_line = codes "Connection: close\r\n"

-- the value of the first field with this name
abbrev pub first_value : List ℕ → List HttpField → Option (List ℕ)
first_value name [] = None
first_value name (f ∷ fs) = if is_same_word f.name name then Some f.value else first_value name fs

-- ---- requests

-- a request of this method, target, lines of fields and body
abbrev pub message : List ℕ → List ℕ → List ℕ → List ℕ → List ℕ
message method target lines body = method ++ codes " " ++ target ++ codes " HTTP/1.1\r\n" ++ lines ++ codes "Content-Length: " ++ decimal (length body) ++ codes "\r\n\r\n" ++ body

-- the parts of a message before and behind the lines of its fields
abbrev pub message_start : List ℕ → List ℕ → List ℕ
message_start method target = method ++ codes " " ++ target ++ codes " HTTP/1.1\r\n"

abbrev pub sized : List ℕ → List ℕ
sized body = codes "Content-Length: " ++ decimal (length body) ++ codes "\r\n\r\n" ++ body

-- the lines of a call: a Content-Type if there is one, a chain if the type is reentrant
abbrev pub call_lines : Address → Option (List ℕ) → Option (List ℕ) → List ℕ
call_lines app content chain = host_line app ++ line_if (codes "Content-Type") content ++ line_if (codes "Dapr-Reentrancy-Id") chain ++ close_line

-- A call of a method, with the caller's first Content-Type and body. It is a PUT, whatever method the caller used.
unfoldable pub invoke_text : Address → MethodCall → List ℕ
invoke_text app c = message (codes "PUT") (method_path c.actor.now c.method.now) (call_lines app (first_value (codes "Content-Type") c.request.now.fields) (option_copied c.chain)) c.request.now.body

-- the lines of a request that carries nothing
abbrev pub plain_lines : Address → List ℕ
plain_lines app = host_line app ++ close_line

-- the end of an actor's activation
unfoldable pub deactivate_text : Address → ActorKey → List ℕ
deactivate_text app a = message (codes "DELETE") (actor_path a) (plain_lines app) []

-- the question for the configuration
unfoldable pub config_text : Address → List ℕ
config_text app = message (codes "GET") (codes "/dapr/config") (plain_lines app) []

-- ---- callbacks

-- the kept JSON text of the data, or `null`
abbrev pub data_text : Option (List ℕ) → List ℕ
data_text None = codes "null"
data_text (Some kept) = kept

-- what a callback is given, behind the opening brace and what stands before `data`
abbrev pub data_members : Callback → List ℕ
data_members c = codes "\"data\":" ++ data_text (option_copied c.payload) ++ codes ",\"dueTime\":" ++ text_of (text c.due.now) ++ codes ",\"period\":" ++ text_of (text c.period.now) ++ codes "}"

abbrev pub reminder_body : Callback → List ℕ
reminder_body c = codes "{" ++ data_members c

abbrev pub timer_body : List ℕ → Callback → List ℕ
timer_body callback c = codes "{\"callback\":" ++ text_of (text callback) ++ codes "," ++ data_members c

-- a callback of the kind `remind` or `timer`, which is a call of a method
abbrev pub callback_text : List ℕ → Address → Callback → List ℕ → List ℕ
callback_text kind app c body = message (codes "PUT") (method_path c.actor.now (kind ++ escaped c.name.now)) (call_lines app (Some (codes "application/json")) (option_copied c.chain)) body

unfoldable pub reminder_text : Address → Callback → List ℕ
reminder_text app c = callback_text (codes "remind/") app c (reminder_body c)

unfoldable pub timer_text : Address → List ℕ → Callback → List ℕ
timer_text app callback c = callback_text (codes "timer/") app c (timer_body callback c)

-- ---- another sidecar

-- the lines of a call that is handed on: the least version, the name of the call, and the caller's first chain and
-- Content-Type
abbrev pub peer_lines : Address → PeerCall → List ℕ
peer_lines peer c = host_line peer ++ line (codes "Actors-Least") (decimal c.least) ++ line (codes "Actors-Call") (call_text c.name.now) ++ line_if (codes "Actors-Chain") (first_value (codes "Dapr-Reentrancy-Id") c.request.now.fields) ++ line_if (codes "Content-Type") (first_value (codes "Content-Type") c.request.now.fields) ++ close_line

-- a caller's request as it is handed on
unfoldable pub peer_text : Address → PeerCall → List ℕ
peer_text peer c = message c.request.now.method c.request.now.target (peer_lines peer c) c.request.now.body
