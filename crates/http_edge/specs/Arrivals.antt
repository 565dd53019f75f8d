-- The bytes of a reply as they come, and what each step of reading it gives: own definitions.
use Rattle.std.specs.Prelude.{◌≡◌, ◌<◌, ◌≤◌, ◌+◌, ◌⊎◌, ℕ, List, [], ◌++◌, length, map, drop, Option, Some, None, Result, Ok, Err}
use Rattle.actor_ports.specs.Traffic.{Traffic}
use Rattle.httparse.specs.Ascii.{crlf_bytes}
use Rattle.httparse.specs.Grammar.{Field, LineEnd, print_section, ReadsSection, HasNoSection, NeverHasSection, MayBecomeSection, ResponseHead, print_response, status_code, HasNoResponse, NeverHasResponse, MayBecomeResponse, ChunkLine, HasNoChunkLine, NeverHasChunkLine, MayBecomeChunkLine}
use Rattle.httparse.specs.Spans.{IsChunkLineAt, ResponseExceeds, ResponseOverflows, SectionExceeds, SectionOverflows}
use Rattle.http_edge.specs.declared.replies.ReplyHead.{ReplyHead}
use Rattle.http_edge.specs.declared.parts.Part.{Part}
use Rattle.http_edge.specs.declared.parts.Part.TheVariants.{Line, DataEnd, Trailer}
use Rattle.http_edge.specs.declared.error.EdgeError.{EdgeError}
use Rattle.http_edge.specs.declared.error.EdgeError.TheVariants.{BadHead, HeadTooLong, TooManyFields, BadLength, CutShort, ConnFault, OutOfMemory}
use Rattle.http_edge.specs.Carry.{Over, AtEnd}
use Rattle.http_edge.specs.Fields.{most_head, most_fields}
use Rattle.http_edge.specs.Requests.{pair_of}
use Rattle.http_edge.specs.Replies.{StartsWithReply, reply_pairs, form_of, IsSmallForm, BreaksHead, RefusesHead, BreaksLine, BreaksTrailer, NeverEndsLine, IsCutEnd, Fails}

-- the bytes that have come and aren't taken yet, and how many were taken before them
pub record Arrived : Type 0 where
  pub rest : List ℕ
  pub taken : ℕ

abbrev pub nothing_arrived : Arrived
nothing_arrived = record { rest = []; taken = 0 }

-- the next n bytes were taken
abbrev pub skipped : ℕ → Arrived → Arrived
skipped n a = record { rest = drop n a.rest; taken = a.taken + n }

-- this stream is the old bytes and those that came over the connection
abbrev pub Extends : List ℕ → Option Traffic → Option Traffic → List ℕ → Type 0
Extends old before after stream = (got : List ℕ) × (stream ≡ old ++ got) × Over before after (record { read = got; written = [] })

-- more bytes came, unless there are already 16,384
abbrev pub FetchGives : {T : Type 0} → Arrived → Arrived → List ℕ → Option Traffic → Option Traffic → Result T EdgeError → Type 0
FetchGives old new stream before after (Ok x) = (new.rest ≡ stream) × (new.taken ≡ old.taken) × (length old.rest < length stream)
FetchGives old new stream before after (Err HeadTooLong) = (stream ≡ old.rest) × (length old.rest ≡ most_head)
FetchGives old new stream before after (Err (CutShort n)) = (stream ≡ old.rest) × (length old.rest < most_head) × (n ≡ old.taken + length stream) × AtEnd before after
FetchGives old new stream before after (Err ConnFault) = Unit {0}
FetchGives old new stream before after (Err OutOfMemory) = Unit {0}
FetchGives old new stream before after (Err e) = ⊥

abbrev pub Fetches : {T : Type 0} → Arrived → Arrived → Option Traffic → Option Traffic → Result T EdgeError → Type 0
Fetches old new before after result = (stream : List ℕ) × Extends old.rest before after stream × FetchGives old new stream before after result

-- ---- the head

-- this is the head at the start of the stream, of a final reply whose body has a form
pub record IsReplyHead (stream : List ℕ) (h : ReplyHead) : Type 0 where
  pub head : ResponseHead
  pub behind : List ℕ
  pub starts : StartsWithReply stream head behind
  pub final : 200 ≤ status_code head
  pub formed : form_of head ≡ Ok h.form
  pub small : IsSmallForm h.form
  pub len : h.len ≡ length (print_response head)
  pub status : h.status ≡ status_code head
  pub fields : map pair_of h.fields ≡ reply_pairs head

-- a stream begins with a whole head that is refused
abbrev pub HasRefusedHead : List ℕ → EdgeError → Type 0
HasRefusedHead stream e = (head : ResponseHead) × (behind : List ℕ) × StartsWithReply stream head behind × RefusesHead head e

-- what a look at the head gives
abbrev pub LooksAtReply : List ℕ → Result (Option ReplyHead) EdgeError → Type 0
LooksAtReply stream (Ok (Some h)) = IsReplyHead stream h
LooksAtReply stream (Ok None) = HasNoResponse stream × MayBecomeResponse stream
LooksAtReply stream (Err BadHead) = NeverHasResponse stream ⊎ HasRefusedHead stream BadHead
LooksAtReply stream (Err TooManyFields) = ResponseExceeds most_fields stream × ResponseOverflows most_fields stream
LooksAtReply stream (Err HeadTooLong) = ⊥
LooksAtReply stream (Err (CutShort n)) = ⊥
LooksAtReply stream (Err ConnFault) = ⊥
LooksAtReply stream (Err OutOfMemory) = Unit {0}
LooksAtReply stream (Err e) = HasRefusedHead stream e

-- why there is no head, or one that is refused
abbrev pub BreaksAtHead : List ℕ → EdgeError → Type 0
BreaksAtHead stream e = BreaksHead stream e ⊎ HasRefusedHead stream e

abbrev pub ReplyGives : Arrived → Arrived → List ℕ → Option Traffic → Option Traffic → Result ReplyHead EdgeError → Type 0
ReplyGives old new stream before after (Ok h) = (new.rest ≡ stream) × (new.taken ≡ old.taken) × IsReplyHead stream h
ReplyGives old new stream before after (Err e) = Fails (BreaksAtHead stream) (old.taken + length stream) before after e

abbrev pub AwaitsReply : Arrived → Arrived → Option Traffic → Option Traffic → Result ReplyHead EdgeError → Type 0
AwaitsReply old new before after result = (stream : List ℕ) × Extends old.rest before after stream × ReplyGives old new stream before after result

-- ---- the parts of a body in chunks

-- the stream begins with a part of len bytes and its number: a chunk line, CR LF, or a trailer part
abbrev pub HasPart : Part → List ℕ → ℕ → ℕ → Type 0
HasPart Line stream len size = (line : ChunkLine) × IsChunkLineAt stream len size line
HasPart DataEnd stream len size = (stream ≡ crlf_bytes ++ drop len stream) × (len ≡ 2)
HasPart Trailer stream len size =
    (fields : List Field) × (last : LineEnd) × ReadsSection stream fields last (drop len stream) × (len ≡ length (print_section fields last)) × (length fields ≤ most_fields)

-- more bytes may make it a part
abbrev pub MayHavePart : Part → List ℕ → Type 0
MayHavePart Line stream = HasNoChunkLine stream × MayBecomeChunkLine stream
MayHavePart DataEnd stream = IsCutEnd stream
MayHavePart Trailer stream = HasNoSection stream × MayBecomeSection stream

-- what is there is no part, whatever follows
abbrev pub RefusesPart : Part → List ℕ → EdgeError → Type 0
RefusesPart Line stream BadLength = NeverHasChunkLine stream
RefusesPart DataEnd stream BadLength = NeverEndsLine stream
RefusesPart Trailer stream BadHead = NeverHasSection stream
RefusesPart Trailer stream TooManyFields = SectionExceeds most_fields stream × SectionOverflows most_fields stream
RefusesPart part stream e = ⊥

-- what a look at a part gives
abbrev pub LooksAtPart : Part → List ℕ → Result (Option (ℕ × ℕ)) EdgeError → Type 0
LooksAtPart part stream (Ok (Some p)) = HasPart part stream p.0 p.1 × (p.0 ≤ length stream)
LooksAtPart part stream (Ok None) = MayHavePart part stream
LooksAtPart part stream (Err e) = RefusesPart part stream e

abbrev pub BreaksEnd : List ℕ → EdgeError → Type 0
BreaksEnd stream BadLength = NeverEndsLine stream
BreaksEnd stream (CutShort n) = IsCutEnd stream
BreaksEnd stream e = ⊥

-- why there is no part
abbrev pub BreaksPart : Part → List ℕ → EdgeError → Type 0
BreaksPart Line = BreaksLine
BreaksPart DataEnd = BreaksEnd
BreaksPart Trailer = BreaksTrailer

abbrev pub PartGives : Part → Arrived → Arrived → List ℕ → Option Traffic → Option Traffic → Result ℕ EdgeError → Type 0
PartGives part old new stream before after (Ok size) =
    (len : ℕ) × HasPart part stream len size × (len ≤ length stream) × (length stream ≤ most_head) × (new.rest ≡ drop len stream) × (new.taken ≡ old.taken + len)
PartGives part old new stream before after (Err e) = Fails (BreaksPart part stream) (old.taken + length stream) before after e

abbrev pub AwaitsPart : Part → Arrived → Arrived → Option Traffic → Option Traffic → Result ℕ EdgeError → Type 0
AwaitsPart part old new before after result = (stream : List ℕ) × Extends old.rest before after stream × PartGives part old new stream before after result
