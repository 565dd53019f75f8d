-- The texts of messages that are written (RFC 9112, sections 3, 4 and 6).
use Rattle.std.specs.Prelude.{ℕ, ◌==◌, ◌||◌, ◌&&◌, nat_le, nat_lt, Bool, if◌then◌else◌, List, [], ◌∷◌, ◌++◌, length, codes, decimal, Option, Result, Ok, Err}
use Rattle.std.specs.Option.{unwrap_or}
use Rattle.http.specs.StatusCode.{reason_phrase}
use Rattle.http_edge.specs.declared.message.HttpField.{HttpField}
use Rattle.http_edge.specs.declared.message.HttpRequest.{HttpRequest}
use Rattle.http_edge.specs.declared.message.HttpResponse.{HttpResponse}
use Rattle.actor_ports.specs.Traffic.{Traffic}
use Rattle.http_edge.specs.declared.error.EdgeError.{EdgeError}
use Rattle.http_edge.specs.declared.error.EdgeError.TheVariants.{ConnFault, OutOfMemory}
use Rattle.http_edge.specs.Carry.{Over, IsFront, nothing}
use Rattle.http_edge.specs.Fields.{is_same_word}

-- a field that says where a message ends, which the writer makes by itself
abbrev pub is_framing : List ℕ → Bool
is_framing name = is_same_word name (codes "Content-Length") || is_same_word name (codes "Transfer-Encoding")

abbrev pub field_line : HttpField → List ℕ
field_line f = f.name ++ codes ": " ++ f.value ++ codes "\r\n"

-- the lines of the fields in their order, except those that say where the message ends
abbrev pub field_lines : List HttpField → List ℕ
field_lines [] = []
field_lines (f ∷ fs) = if is_framing f.name then field_lines fs else field_line f ++ field_lines fs

-- the length of the body, the empty line and the body
abbrev pub sized : List ℕ → List ℕ
sized body = codes "Content-Length: " ++ decimal (length body) ++ codes "\r\n\r\n" ++ body

-- what ends a response; for 204 and 304 the empty line alone
abbrev pub ending : ℕ → List ℕ → List ℕ
ending status body = if status == 204 || status == 304 then codes "\r\n" else sized body

-- the phrase that `http` gives for a status of three digits; any other number has none
abbrev pub phrase_of : ℕ → List ℕ
phrase_of status = if nat_le 100 status && nat_lt status 1000 then unwrap_or (reason_phrase status) [] else []

-- what comes before the phrase
abbrev pub status_start : ℕ → List ℕ
status_start status = codes "HTTP/1.1 " ++ decimal status ++ codes " "

-- a status line; without a phrase, the space before it is still written
abbrev pub status_line : ℕ → List ℕ
status_line status = status_start status ++ phrase_of status ++ codes "\r\n"

unfoldable pub response_text : HttpResponse → List ℕ
response_text r = status_line r.status ++ field_lines r.fields ++ ending r.status r.body

-- a request line
abbrev pub request_line : List ℕ → List ℕ → List ℕ
request_line method target = method ++ codes " " ++ target ++ codes " HTTP/1.1\r\n"

-- a request: its fields in their order, and then the length of its body, which may be 0
unfoldable pub request_text : HttpRequest → List ℕ
request_text q = request_line q.method q.target ++ field_lines q.fields ++ sized q.body

-- a text was written; if the connection failed a prefix of it, and after OutOfMemory nothing
abbrev pub WritesText : {T : Type 0} → Option Traffic → Option Traffic → List ℕ → Result T EdgeError → Type 0
WritesText before after text (Ok x) = Over before after (record { read = []; written = text })
WritesText before after text (Err ConnFault) = (front : List ℕ) × IsFront front text × Over before after (record { read = []; written = front })
WritesText before after text (Err OutOfMemory) = Over before after nothing
WritesText before after text (Err e) = ⊥
