-- What each step of reading a reply's body gives: own definitions, each a case of what the reply's definition says.
use Rattle.std.specs.Prelude.{◌≡◌, ◌<◌, ◌≤◌, ◌+◌, ℕ, Bool, true, false, List, [], ◌++◌, length, take, drop, All, Option, Result, Ok, Err}
use Rattle.actor_ports.specs.Traffic.{Traffic}
use Rattle.httparse.specs.Ascii.{crlf_bytes}
use Rattle.httparse.specs.Grammar.{Field, IsField, LineEnd, print_section, ChunkLine, IsChunkLine, print_chunk_line, chunk_size}
use Rattle.http_edge.specs.declared.form.BodyForm.{BodyForm}
use Rattle.http_edge.specs.declared.message.HttpResponse.{HttpResponse}
use Rattle.http_edge.specs.declared.error.EdgeError.{EdgeError}
use Rattle.http_edge.specs.declared.error.EdgeError.TheVariants.{CutShort}
use Rattle.http_edge.specs.Carry.{Over}
use Rattle.http_edge.specs.Fields.{most_head, most_fields, most_body}
use Rattle.http_edge.specs.Replies.{Chunk, IsChunk, print_chunk, print_chunks, joined, HasBody, HasReply, BreaksData, BreaksChunk, BreaksBody, Fails, HasNoReading}
use Rattle.http_edge.specs.Arrivals.{Arrived, Extends}

-- fewer bytes came than the size
abbrev pub IsShort : ℕ → List ℕ → EdgeError → Type 0
IsShort size stream (CutShort n) = length stream < size
IsShort size stream e = ⊥

-- so many bytes of a body are appended
abbrev pub TakesGives : {T : Type 0} → ℕ → Arrived → Arrived → List ℕ → List ℕ → List ℕ → Option Traffic → Option Traffic → Result T EdgeError → Type 0
TakesGives size old new body more stream before after (Ok x) =
    (size ≤ length stream) × (more ≡ body ++ take size stream) × (new ≡ record { rest = drop size stream; taken = old.taken + size })
TakesGives size old new body more stream before after (Err e) = Fails (IsShort size stream) (old.taken + length stream) before after e

abbrev pub TakesData : {T : Type 0} → ℕ → Arrived → Arrived → List ℕ → List ℕ → Option Traffic → Option Traffic → Result T EdgeError → Type 0
TakesData size old new body more before after result =
    (stream : List ℕ) × Extends old.rest before after stream × TakesGives size old new body more stream before after result

-- the bytes of a chunk and CR LF
abbrev pub DataGives : {T : Type 0} → ℕ → Arrived → Arrived → List ℕ → List ℕ → List ℕ → Option Traffic → Option Traffic → Result T EdgeError → Type 0
DataGives size old new body more stream before after (Ok x) =
    (bytes : List ℕ) × (length bytes ≡ size) × (stream ≡ bytes ++ (crlf_bytes ++ new.rest)) × (more ≡ body ++ bytes) × (length more ≤ most_body) × (new.taken ≡ old.taken + (size + 2))
DataGives size old new body more stream before after (Err e) = Fails (BreaksData (length body) size stream) (old.taken + length stream) before after e

abbrev pub ReadsData : {T : Type 0} → ℕ → Arrived → Arrived → List ℕ → List ℕ → Option Traffic → Option Traffic → Result T EdgeError → Type 0
ReadsData size old new body more before after result =
    (stream : List ℕ) × Extends old.rest before after stream × DataGives size old new body more stream before after result

-- the end of a body in chunks
pub record IsLastPart (text : List ℕ) : Type 0 where
  pub line : ChunkLine
  pub trailer : List Field
  pub last : LineEnd
  pub ends : IsChunkLine line × (chunk_size line ≡ 0) × (length (print_chunk_line line) ≤ most_head)
  pub fields : All IsField trailer × (length trailer ≤ most_fields) × (length (print_section trailer last) ≤ most_head)
  pub is : text ≡ print_chunk_line line ++ print_section trailer last

-- one chunk, or the end
abbrev pub ChunkGives : Arrived → Arrived → List ℕ → List ℕ → List ℕ → Option Traffic → Option Traffic → Result Bool EdgeError → Type 0
ChunkGives old new body more stream before after (Ok true) =
    (c : Chunk) × IsChunk c × (stream ≡ print_chunk c ++ new.rest) × (more ≡ body ++ c.bytes) × (length more ≤ most_body) × (new.taken ≡ old.taken + length (print_chunk c))
ChunkGives old new body more stream before after (Ok false) = (text : List ℕ) × IsLastPart text × (stream ≡ text ++ new.rest) × (more ≡ body)
ChunkGives old new body more stream before after (Err e) = Fails (BreaksChunk (length body) stream) (old.taken + length stream) before after e

abbrev pub ReadsChunk : Arrived → Arrived → List ℕ → List ℕ → Option Traffic → Option Traffic → Result Bool EdgeError → Type 0
ReadsChunk old new body more before after result =
    (stream : List ℕ) × Extends old.rest before after stream × ChunkGives old new body more stream before after result

-- whole chunks came, and the body has their bytes
abbrev pub HasChunks : Arrived → Arrived → List ℕ → Option Traffic → Option Traffic → Type 0
HasChunks old new body before after =
    (chunks : List Chunk) × (stream : List ℕ) × All IsChunk chunks × Extends old.rest before after stream × (stream ≡ print_chunks chunks ++ new.rest) × (body ≡ joined chunks) × (new.taken ≡ old.taken + length (print_chunks chunks))

-- a body in this form
abbrev pub BodyGives : {T : Type 0} → BodyForm → Arrived → List ℕ → List ℕ → Option Traffic → Option Traffic → Result T EdgeError → Type 0
BodyGives form old body stream before after (Ok x) = HasBody form stream body before after
BodyGives form old body stream before after (Err e) = Fails (BreaksBody form stream) (old.taken + length stream) before after e

abbrev pub ReadsBody : {T : Type 0} → BodyForm → Arrived → List ℕ → Option Traffic → Option Traffic → Result T EdgeError → Type 0
ReadsBody form old body before after result = (stream : List ℕ) × Extends old.rest before after stream × BodyGives form old body stream before after result

-- a reply
abbrev pub StreamGives : List ℕ → Option Traffic → Option Traffic → Result HttpResponse EdgeError → Type 0
StreamGives stream before after (Ok r) = HasReply stream before after r
StreamGives stream before after (Err e) = HasNoReading stream before after e

abbrev pub ReadsReply : Option Traffic → Option Traffic → Result HttpResponse EdgeError → Type 0
ReadsReply before after result = (stream : List ℕ) × Over before after (record { read = stream; written = [] }) × StreamGives stream before after result
