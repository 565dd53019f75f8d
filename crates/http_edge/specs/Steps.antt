-- What each step of reading and writing gives: own definitions, each a case of what the message's definition says.
use Rattle.std.specs.Prelude.{◌≡◌, ◌<◌, ◌+◌, ℕ, List, [], ◌∷◌, ◌++◌, length, map, Option, Some, None, Result, Ok, Err}
use Rattle.actor_ports.specs.Traffic.{Traffic}
use Rattle.httparse.specs.declared.spans.Span.{Span}
use Rattle.httparse.specs.Grammar.{RequestHead, HasNoRequest, NeverHasRequest, MayBecomeRequest, print_request}
use Rattle.httparse.specs.Spans.{span_bytes, IsWithin, RequestExceeds, RequestOverflows}
use Rattle.http_edge.specs.declared.fields.Told.{Told}
use Rattle.http_edge.specs.declared.fields.Told.TheVariants.{Absent, Once, Often}
use Rattle.http_edge.specs.declared.head.Head.{Head}
use Rattle.http_edge.specs.declared.error.EdgeError.{EdgeError}
use Rattle.http_edge.specs.declared.error.EdgeError.TheVariants.{BadHead, HeadTooLong, TooManyFields, CutShort, ConnFault, OutOfMemory}
use Rattle.http_edge.specs.Carry.{Over, AtEnd}
use Rattle.http_edge.specs.Fields.{most_fields, body_told}
use Rattle.http_edge.specs.Requests.{StartsWithHead, RefusesBody, Refuses, pairs_of, pair_of, closes}

-- the value at a span, if there is one
abbrev pub option_span : List ℕ → Option Span → List (List ℕ)
option_span bytes None = []
option_span bytes (Some s) = span_bytes bytes s ∷ []

-- how often a field occurs, and where its value is
abbrev pub IsTold : List ℕ → List (List ℕ) → Told → Type 0
IsTold bytes values Absent = values ≡ []
IsTold bytes values (Once s) = (values ≡ span_bytes bytes s ∷ []) × IsWithin (length bytes) s
IsTold bytes values Often = (v w : List ℕ) × (vs : List (List ℕ)) × (values ≡ v ∷ w ∷ vs)

-- this is the head at the start of the stream
pub record IsHeadOf (stream : List ℕ) (h : Head) : Type 0 where
  pub head : RequestHead
  pub behind : List ℕ
  pub starts : StartsWithHead stream head behind
  pub size : body_told (pairs_of head) ≡ Ok h.size
  pub len : h.len ≡ length (print_request head)
  pub method : h.method ≡ head.method
  pub target : h.target ≡ head.target
  pub fields : map pair_of h.fields ≡ pairs_of head
  pub close : h.close ≡ closes head

-- what a look at a stream gives, if the stream isn't longer than a head may be
abbrev pub Looks : List ℕ → Result (Option Head) EdgeError → Type 0
Looks stream (Ok (Some h)) = IsHeadOf stream h
Looks stream (Ok None) = HasNoRequest stream × MayBecomeRequest stream
Looks stream (Err BadHead) = NeverHasRequest stream
Looks stream (Err TooManyFields) = RequestExceeds most_fields stream × RequestOverflows most_fields stream
Looks stream (Err HeadTooLong) = ⊥
Looks stream (Err (CutShort n)) = ⊥
Looks stream (Err ConnFault) = ⊥
Looks stream (Err OutOfMemory) = Unit {0}
Looks stream (Err e) = RefusesBody stream e

-- what reading until a head is whole gives
abbrev pub HeadGives : List ℕ → Option Traffic → Option Traffic → Result (Option Head) EdgeError → Type 0
HeadGives stream before after (Ok (Some h)) = IsHeadOf stream h
HeadGives stream before after (Ok None) = (stream ≡ []) × AtEnd before after
HeadGives stream before after (Err e) = Refuses stream before after e

-- bytes of a body came, up to its size or to the end of the input
abbrev pub Fills : {T : Type 0} → ℕ → ℕ → List ℕ → Option Traffic → Option Traffic → Result T EdgeError → Type 0
Fills len size body before after (Ok x) = length body ≡ size
Fills len size body before after (Err (CutShort n)) = (n ≡ len + length body) × (length body < size) × AtEnd before after
Fills len size body before after (Err ConnFault) = Unit {0}
Fills len size body before after (Err OutOfMemory) = Unit {0}
Fills len size body before after (Err e) = ⊥

-- bytes came over the connection, until a head was whole or there was none
abbrev pub AwaitsHead : List ℕ → List ℕ → Option Traffic → Option Traffic → Result (Option Head) EdgeError → Type 0
AwaitsHead old new before after result =
    (got : List ℕ) × (new ≡ old ++ got) × Over before after (record { read = got; written = [] }) × HeadGives new before after result

-- bytes came over the connection, until a body was whole or the input failed or ended
abbrev pub FillsOver : {T : Type 0} → ℕ → ℕ → List ℕ → List ℕ → Option Traffic → Option Traffic → Result T EdgeError → Type 0
FillsOver len size old new before after result =
    (got : List ℕ) × (new ≡ old ++ got) × Over before after (record { read = got; written = [] }) × Fills len size new before after result

-- what is answered at the end of the input
abbrev pub EndsAt : ℕ → Result (Option Head) EdgeError → Type 0
EndsAt kept (Ok None) = kept ≡ 0
EndsAt kept (Err (CutShort n)) = (n ≡ kept) × (0 < n)
EndsAt kept result = ⊥
