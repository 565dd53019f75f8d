-- A request on a connection: heads as `httparse` states them, and a body of the length that the head gives (RFC 9112).
use Rattle.std.specs.Prelude.{◌≡◌, ◌<◌, ◌≤◌, ◌⊎◌, ◌==◌, ◌||◌, ℕ, Bool, List, [], ◌++◌, length, map, Option, Some, None, Result, Ok, Err}
use Rattle.actor_ports.specs.declared.port.PortError.{PortError}
use Rattle.actor_ports.specs.declared.port.PortError.TheVariants as ports
use Rattle.actor_ports.specs.Traffic.{Traffic}
use Rattle.httparse.specs.Grammar.{RequestHead, IsRequestHead, ReadsRequest, HasNoRequest, NeverHasRequest, MayBecomeRequest, print_request}
use Rattle.httparse.specs.Spans.{name_and_value, RequestExceeds, RequestOverflows}
use Rattle.http_edge.specs.declared.message.HttpField.{HttpField}
use Rattle.http_edge.specs.declared.message.HttpRequest.{HttpRequest}
use Rattle.http_edge.specs.declared.error.EdgeError.{EdgeError}
use Rattle.http_edge.specs.declared.error.EdgeError.TheVariants.{BadHead, HeadTooLong, TooManyFields, CutShort, ConnFault, OutOfMemory}
use Rattle.http_edge.specs.Carry.{Over, AtEnd}
use Rattle.http_edge.specs.Fields.{most_head, most_fields, body_told, says_close}

-- a field as its name and value
abbrev pub pair_of : HttpField → List ℕ × List ℕ
pair_of f = (f.name, f.value)

-- the name and value of each field of a head
abbrev pub pairs_of : RequestHead → List (List ℕ × List ℕ)
pairs_of h = map name_and_value h.fields

-- whether a request is the last of its connection
abbrev pub closes : RequestHead → Bool
closes h = h.minor == 0 || says_close (pairs_of h)

-- this text is that request: a whole head within its limits, and a body of the length that the head gives
pub record IsRequestText (text : List ℕ) (q : HttpRequest) : Type 0 where
  pub head : RequestHead
  pub valid : IsRequestHead head
  pub short : length (print_request head) ≤ most_head
  pub few : length head.fields ≤ most_fields
  pub size : body_told (pairs_of head) ≡ Ok (length q.body)
  pub is : text ≡ print_request head ++ q.body
  pub method : q.method ≡ head.method
  pub target : q.target ≡ head.target
  pub fields : map pair_of q.fields ≡ pairs_of head
  pub close : q.close ≡ closes head

-- a stream begins with a whole head within its limits
pub record StartsWithHead (stream : List ℕ) (head : RequestHead) (behind : List ℕ) : Type 0 where
  pub reads : ReadsRequest stream head behind
  pub short : length (print_request head) ≤ most_head
  pub few : length head.fields ≤ most_fields

-- a stream ends inside a head, or inside a target that no further bytes complete
abbrev pub IsCutHead : List ℕ → Type 0
IsCutHead stream = (length stream < most_head) × HasNoRequest stream × MayBecomeRequest stream

-- a stream ends inside the body whose length its head gives
abbrev pub IsCutBody : List ℕ → Type 0
IsCutBody stream =
    (head : RequestHead) × (behind : List ℕ) × (size : ℕ) × StartsWithHead stream head behind × (body_told (pairs_of head) ≡ Ok size) × (length behind < size)

-- a stream begins with a whole head whose fields are refused
abbrev pub RefusesBody : List ℕ → EdgeError → Type 0
RefusesBody stream e = (head : RequestHead) × (behind : List ℕ) × StartsWithHead stream head behind × (body_told (pairs_of head) ≡ Err e)

-- Why a stream gives no request. The stream is all bytes that have come, from the request's first one on. Too many
-- fields are there, and whatever follows, a head has too many.
abbrev pub Refuses : List ℕ → Option Traffic → Option Traffic → EdgeError → Type 0
Refuses stream before after BadHead = (length stream ≤ most_head) × NeverHasRequest stream
Refuses stream before after HeadTooLong = (length stream ≡ most_head) × HasNoRequest stream × MayBecomeRequest stream
Refuses stream before after TooManyFields = (length stream ≤ most_head) × RequestExceeds most_fields stream × RequestOverflows most_fields stream
Refuses stream before after (CutShort n) = (n ≡ length stream) × (0 < n) × AtEnd before after × (IsCutHead stream ⊎ IsCutBody stream)
Refuses stream before after ConnFault = Unit {0}
Refuses stream before after OutOfMemory = Unit {0}
Refuses stream before after e = RefusesBody stream e

-- What a stream gives, and the bytes that are kept for the next request.
abbrev pub Gives : List ℕ → List ℕ → Option Traffic → Option Traffic → Result (Option HttpRequest) EdgeError → Type 0
Gives stream kept before after (Ok (Some q)) = (text : List ℕ) × IsRequestText text q × (stream ≡ text ++ kept)
Gives stream kept before after (Ok None) = (stream ≡ []) × AtEnd before after
Gives stream kept before after (Err e) = Refuses stream before after e

-- one read of a reader: bytes came over the connection, and what they give with those that were kept
abbrev pub ReadsNext : List ℕ → List ℕ → Option Traffic → Option Traffic → Result (Option HttpRequest) EdgeError → Type 0
ReadsNext old new before after result =
    (got : List ℕ) × Over before after (record { read = got; written = [] }) × Gives (old ++ got) new before after result

-- what a reader holds: the bytes not yet taken, and the error that it answers from now on
pub record ReaderState : Type 0 where
  pub kept : List ℕ
  pub failed : Option EdgeError

abbrev pub new_reader : ReaderState
new_reader = record { kept = []; failed = None }

-- the count of faults doesn't fall, and rises if the connection failed
abbrev pub EdgeCause : {T : Type 0} → ℕ → ℕ → Result T EdgeError → Type 0
EdgeCause before after (Err ConnFault) = before < after
EdgeCause before after result = before ≤ after

abbrev pub edge_of : PortError → EdgeError
edge_of ports.Failed = ConnFault
edge_of ports.OutOfMemory = OutOfMemory
