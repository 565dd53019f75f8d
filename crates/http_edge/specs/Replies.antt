-- A reply on a connection: heads and chunk lines as `httparse` states them (RFC 9112, sections 6 and 7.1).
use Rattle.std.specs.Prelude.{◌≡◌, ◌≢◌, ◌<◌, ◌≤◌, ◌+◌, ◌⊎◌, ◌==◌, ◌||◌, if◌then◌else◌, ℕ, List, [], ◌∷◌, ◌++◌, length, map, drop, All, Option, Result, Ok, Err, codes, min}
use Rattle.actor_ports.specs.Traffic.{Traffic}
use Rattle.httparse.specs.Ascii.{crlf_bytes}
use Rattle.httparse.specs.Grammar.{Field, IsField, LineEnd, print_section, HasNoSection, NeverHasSection, MayBecomeSection, ResponseHead, print_response, status_code, ReadsResponse, HasNoResponse, NeverHasResponse, MayBecomeResponse, ChunkLine, IsChunkLine, print_chunk_line, chunk_size, ReadsChunkLine, HasNoChunkLine, NeverHasChunkLine, MayBecomeChunkLine}
use Rattle.httparse.specs.Spans.{name_and_value, ResponseExceeds, ResponseOverflows, SectionExceeds, SectionOverflows}
use Rattle.http_edge.specs.declared.message.HttpResponse.{HttpResponse}
use Rattle.http_edge.specs.declared.form.BodyForm.{BodyForm}
use Rattle.http_edge.specs.declared.form.BodyForm.TheVariants.{BySize, ByChunks, ToEnd}
use Rattle.http_edge.specs.declared.error.EdgeError.{EdgeError}
use Rattle.http_edge.specs.declared.error.EdgeError.TheVariants.{BadHead, HeadTooLong, TooManyFields, Chunked, BadLength, BodyTooLong, CutShort, ConnFault, OutOfMemory}
use Rattle.http_edge.specs.Carry.{AtEnd}
use Rattle.http_edge.specs.Fields.{most_head, most_fields, most_body, is_same_word, values_of, length_told, at_most_body}
use Rattle.http_edge.specs.Requests.{pair_of}

-- ---- where a reply ends

abbrev pub sized_form : Result ℕ EdgeError → Result BodyForm EdgeError
sized_form (Ok n) = Ok (BySize n)
sized_form (Err e) = Err e

-- the one transfer coding that is read
abbrev pub coded_form : List ℕ → Result BodyForm EdgeError
coded_form coding = if is_same_word coding (codes "chunked") then Ok ByChunks else Err Chunked

-- the form of a reply's body, from the values of Transfer-Encoding and of Content-Length, or why there is none
abbrev pub form_by : List (List ℕ) → List (List ℕ) → Result BodyForm EdgeError
form_by [] [] = Ok ToEnd
form_by [] (v ∷ vs) = sized_form (at_most_body (length_told (v ∷ vs)))
form_by (v ∷ []) lengths = coded_form v
form_by (v ∷ w ∷ vs) lengths = Err Chunked

-- the same from the status and the fields: 204 and 304 have no body
abbrev pub form_told : ℕ → List (List ℕ × List ℕ) → Result BodyForm EdgeError
form_told status fields =
    if status == 204 || status == 304 then Ok (BySize 0) else form_by (values_of (codes "Transfer-Encoding") fields) (values_of (codes "Content-Length") fields)

-- the length, if it has one, is one that a body may have
abbrev pub IsSmallForm : BodyForm → Type 0
IsSmallForm (BySize n) = n ≤ most_body
IsSmallForm form = Unit {0}

-- ---- chunks

-- a line with the number of bytes, those bytes, and CR LF
pub record Chunk : Type 0 where
  pub line : ChunkLine
  pub bytes : List ℕ

pub record IsChunk (c : Chunk) : Type 0 where
  pub line : IsChunkLine c.line
  pub short : length (print_chunk_line c.line) ≤ most_head
  pub some : 0 < length c.bytes
  pub size : chunk_size c.line ≡ length c.bytes

abbrev pub print_chunk : Chunk → List ℕ
print_chunk c = print_chunk_line c.line ++ (c.bytes ++ crlf_bytes)

abbrev pub print_chunks : List Chunk → List ℕ
print_chunks [] = []
print_chunks (c ∷ cs) = print_chunk c ++ print_chunks cs

-- the bytes of the chunks, joined
abbrev pub joined : List Chunk → List ℕ
joined [] = []
joined (c ∷ cs) = c.bytes ++ joined cs

-- chunks, a line with the number 0, and a trailer part with the empty line that ends it
pub record IsChunkedText (text body : List ℕ) : Type 0 where
  pub chunks : List Chunk
  pub line : ChunkLine
  pub trailer : List Field
  pub last : LineEnd
  pub valid : All IsChunk chunks
  pub ends : IsChunkLine line × (chunk_size line ≡ 0) × (length (print_chunk_line line) ≤ most_head)
  pub fields : All IsField trailer × (length trailer ≤ most_fields) × (length (print_section trailer last) ≤ most_head)
  pub is : text ≡ print_chunks chunks ++ (print_chunk_line line ++ print_section trailer last)
  pub whole : body ≡ joined chunks
  pub small : length body ≤ most_body

-- ---- a reply

-- a stream begins with a whole head within its limits
pub record StartsWithReply (stream : List ℕ) (head : ResponseHead) (behind : List ℕ) : Type 0 where
  pub reads : ReadsResponse stream head behind
  pub short : length (print_response head) ≤ most_head
  pub few : length head.fields ≤ most_fields

abbrev pub reply_pairs : ResponseHead → List (List ℕ × List ℕ)
reply_pairs h = map name_and_value h.fields

abbrev pub form_of : ResponseHead → Result BodyForm EdgeError
form_of h = form_told (status_code h) (reply_pairs h)

-- what is behind a head begins with this body in its form; with neither length nor chunks, it is all up to the end of
-- the input
abbrev pub HasBody : BodyForm → List ℕ → List ℕ → Option Traffic → Option Traffic → Type 0
HasBody (BySize n) behind body before after = (length body ≡ n) × ((rest : List ℕ) × (behind ≡ body ++ rest))
HasBody ByChunks behind body before after = (text : List ℕ) × IsChunkedText text body × ((rest : List ℕ) × (behind ≡ text ++ rest))
HasBody ToEnd behind body before after = (behind ≡ body) × (length body ≤ most_body) × AtEnd before after

-- a stream begins with this reply
pub record HasReply (stream : List ℕ) (before after : Option Traffic) (r : HttpResponse) : Type 0 where
  pub head : ResponseHead
  pub behind : List ℕ
  pub form : BodyForm
  pub starts : StartsWithReply stream head behind
  pub final : 200 ≤ status_code head
  pub formed : form_of head ≡ Ok form
  pub body : HasBody form behind r.body before after
  pub status : r.status ≡ status_code head
  pub fields : map pair_of r.fields ≡ reply_pairs head

-- ---- why there is none: the stream breaks off, or what stands there has no reading

-- in its head; too many fields are there, and whatever follows, a head has too many
abbrev pub BreaksHead : List ℕ → EdgeError → Type 0
BreaksHead stream BadHead = (length stream ≤ most_head) × NeverHasResponse stream
BreaksHead stream HeadTooLong = (length stream ≡ most_head) × HasNoResponse stream × MayBecomeResponse stream
BreaksHead stream TooManyFields = (length stream ≤ most_head) × ResponseExceeds most_fields stream × ResponseOverflows most_fields stream
BreaksHead stream (CutShort n) = (length stream < most_head) × HasNoResponse stream × MayBecomeResponse stream
BreaksHead stream e = ⊥

-- a whole head is refused: first by its status, and then by its fields
abbrev pub RefusesHead : ResponseHead → EdgeError → Type 0
RefusesHead head BadHead = status_code head < 200
RefusesHead head e = (200 ≤ status_code head) × (form_of head ≡ Err e)

-- in a chunk line
abbrev pub BreaksLine : List ℕ → EdgeError → Type 0
BreaksLine rest BadLength = (length rest ≤ most_head) × NeverHasChunkLine rest
BreaksLine rest HeadTooLong = (length rest ≡ most_head) × HasNoChunkLine rest × MayBecomeChunkLine rest
BreaksLine rest (CutShort n) = (length rest < most_head) × HasNoChunkLine rest × MayBecomeChunkLine rest
BreaksLine rest e = ⊥

-- in the trailer part
abbrev pub BreaksTrailer : List ℕ → EdgeError → Type 0
BreaksTrailer rest BadHead = (length rest ≤ most_head) × NeverHasSection rest
BreaksTrailer rest HeadTooLong = (length rest ≡ most_head) × HasNoSection rest × MayBecomeSection rest
BreaksTrailer rest TooManyFields = (length rest ≤ most_head) × SectionExceeds most_fields rest × SectionOverflows most_fields rest
BreaksTrailer rest (CutShort n) = (length rest < most_head) × HasNoSection rest × MayBecomeSection rest
BreaksTrailer rest e = ⊥

-- the bytes don't begin with CR LF, whatever follows them
abbrev pub NeverEndsLine : List ℕ → Type 0
NeverEndsLine bytes = (more rest : List ℕ) → bytes ++ more ≢ crlf_bytes ++ rest

-- the bytes are a prefix of CR LF, but not all of it
abbrev pub IsCutEnd : List ℕ → Type 0
IsCutEnd bytes = (bytes ≡ []) ⊎ (bytes ≡ 13 ∷ [])

-- in the bytes of a chunk of this size or in the CR LF behind them, after `have` bytes of the body
abbrev pub BreaksData : ℕ → ℕ → List ℕ → EdgeError → Type 0
BreaksData have size rest (BodyTooLong n) = (most_body < have + size) × (n ≡ min (have + size) 18446744073709551615)
BreaksData have size rest (CutShort n) = (have + size ≤ most_body) × IsCutEnd (drop size rest)
BreaksData have size rest BadLength = (have + size ≤ most_body) × (size < length rest) × NeverEndsLine (drop size rest)
BreaksData have size rest e = ⊥

-- behind a chunk line
abbrev pub BreaksBehindLine : ℕ → ℕ → List ℕ → EdgeError → Type 0
BreaksBehindLine have size rest e = ((size ≡ 0) × BreaksTrailer rest e) ⊎ ((0 < size) × BreaksData have size rest e)

-- in a chunk or the trailer part
abbrev pub BreaksChunk : ℕ → List ℕ → EdgeError → Type 0
BreaksChunk have rest e =
    BreaksLine rest e
    ⊎ ((line : ChunkLine) × (behind : List ℕ) × ReadsChunkLine rest line behind × (length (print_chunk_line line) ≤ most_head) × BreaksBehindLine have (chunk_size line) behind e)

-- behind whole chunks, which have no more bytes than a body may have
abbrev pub BreaksChunks : ℕ → List ℕ → EdgeError → Type 0
BreaksChunks have stream e =
    (chunks : List Chunk) × (rest : List ℕ) × All IsChunk chunks × (stream ≡ print_chunks chunks ++ rest) × BreaksChunk (have + length (joined chunks)) rest e × (have + length (joined chunks) ≤ most_body)

-- in a body
abbrev pub BreaksBody : BodyForm → List ℕ → EdgeError → Type 0
BreaksBody (BySize size) behind (CutShort n) = length behind < size
BreaksBody (BySize size) behind e = ⊥
BreaksBody ByChunks behind e = BreaksChunks 0 behind e
BreaksBody ToEnd behind (BodyTooLong n) = (n ≡ most_body + 1) × (length behind ≡ n)
BreaksBody ToEnd behind e = ⊥

-- behind a head that isn't refused
abbrev pub BreaksBehind : ResponseHead → List ℕ → EdgeError → Type 0
BreaksBehind head behind e = (form : BodyForm) × (200 ≤ status_code head) × (form_of head ≡ Ok form) × BreaksBody form behind e

-- in the head, by the head, or behind it
abbrev pub Breaks : List ℕ → EdgeError → Type 0
Breaks stream e =
    BreaksHead stream e
    ⊎ ((head : ResponseHead) × (behind : List ℕ) × StartsWithReply stream head behind × (RefusesHead head e ⊎ BreaksBehind head behind e))

-- the cause of an error; for CutShort also that so many bytes came and no more will; ConnFault and OutOfMemory have no
-- cause here
abbrev pub Fails : (EdgeError → Type 0) → ℕ → Option Traffic → Option Traffic → EdgeError → Type 0
Fails Cause count before after ConnFault = Unit {0}
Fails Cause count before after OutOfMemory = Unit {0}
Fails Cause count before after (CutShort n) = (n ≡ count) × AtEnd before after × Cause (CutShort n)
Fails Cause count before after e = Cause e

-- why a stream, which is all the bytes that came, has no reply
abbrev pub HasNoReading : List ℕ → Option Traffic → Option Traffic → EdgeError → Type 0
HasNoReading stream before after e = Fails (Breaks stream) (length stream) before after e
