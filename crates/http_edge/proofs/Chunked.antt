-- Chunks, one after the other.
use Rattle.std.proofs.Common.{refl, sym, ap, subst, ◌∙◌, ◌≡◌, ◌<◌, ◌≤◌, ◌+◌, ◌*◌, ◌-◌, inl, inr, min, ℕ, List, [], ◌∷◌, ◌++◌, length, take, drop, Option, Ok, Err, true, false, append_assoc, length-append, arith}
use Rattle.std.proofs.lemmas.List.{append-nil, take-append-drop, length-take-le}
use Rattle.std.proofs.lemmas.List.Elements.{All-push}
use Rattle.actor_ports.specs.Traffic.{Traffic}
use Rattle.httparse.specs.Ascii.{crlf_bytes}
use Rattle.httparse.specs.Grammar.{ChunkLine, print_chunk_line, print_section, chunk_size, ReadsChunkLine}
use Rattle.http_edge.specs.declared.parts.Part.TheVariants.{Line, DataEnd, Trailer}
use Rattle.http_edge.specs.declared.form.BodyForm.TheVariants.{ByChunks}
use Rattle.http_edge.specs.declared.error.EdgeError.{EdgeError}
use Rattle.http_edge.specs.declared.error.EdgeError.TheVariants.{BadHead, HeadTooLong, TooManyFields, Chunked, BadLength, BodyTooLong, CutShort, ConnFault, OutOfMemory}
use Rattle.http_edge.specs.Fields.{most_head, most_body}
use Rattle.http_edge.specs.Replies.{Chunk, IsChunk, print_chunk, print_chunks, joined, IsCutEnd, NeverEndsLine, BreaksTrailer, BreaksData, BreaksBehindLine, BreaksChunk, BreaksBody, Fails}
use Rattle.http_edge.specs.Arrivals.{Arrived, Extends, AwaitsPart, BreaksEnd}
use Rattle.http_edge.specs.Content.{TakesData, ReadsData, ReadsChunk, HasChunks, ReadsBody}
use Rattle.http_edge.proofs.Extended.{extends_none, extends_then, fails_then}

-- ---- the bytes of a chunk

drop_front : (front behind : List ℕ) → drop (length front) (front ++ behind) ≡ behind
drop_front [] behind = refl
drop_front (x ∷ xs) behind = drop_front xs behind

pub drop_taken : (n : ℕ) (front behind : List ℕ) → length front ≡ n → drop n (front ++ behind) ≡ behind
drop_taken n front behind e = ap (λ m. drop m (front ++ behind)) (sym e) ∙ drop_front front behind

pub long_data : (have size n : ℕ) → have ≤ most_body → most_body - have < size → n ≡ min (size + have) 18446744073709551615 → (most_body < have + size) × (n ≡ min (have + size) 18446744073709551615)
long_data have size n small lt is = (omega arith, omega (arith, is))

-- bytes that no more bytes can make a CR LF aren't empty
some_end : (stream : List ℕ) → NeverEndsLine stream → 0 < length stream
some_end [] never = absurd (never crlf_bytes [] refl)
some_end (x ∷ xs) never = omega arith

end_breaks : (have size : ℕ) (bytes stream : List ℕ) (e : EdgeError) → have + size ≤ most_body → length bytes ≡ size → BreaksEnd stream e → BreaksData have size (bytes ++ stream) e
end_breaks have size bytes stream BadHead fits long f = absurd f
end_breaks have size bytes stream HeadTooLong fits long f = absurd f
end_breaks have size bytes stream TooManyFields fits long f = absurd f
end_breaks have size bytes stream Chunked fits long f = absurd f
end_breaks have size bytes stream BadLength fits long f =
    let one = some_end stream f in
    let two = length-append bytes stream in
    (fits, omega arith, subst NeverEndsLine (sym (drop_taken size bytes stream long)) f)
end_breaks have size bytes stream (BodyTooLong n) fits long f = absurd f
end_breaks have size bytes stream (CutShort n) fits long f = (fits, subst IsCutEnd (sym (drop_taken size bytes stream long)) f)
end_breaks have size bytes stream ConnFault fits long f = absurd f
end_breaks have size bytes stream OutOfMemory fits long f = absurd f

split_there : (size : ℕ) (stream rest : List ℕ) → rest ≡ drop size stream → stream ≡ take size stream ++ rest
split_there size stream rest e = sym (take-append-drop size stream) ∙ ap (λ l. take size stream ++ l) (sym e)

-- the bytes of the chunk came, but not the CR LF
pub end_fails : (T : Type 0) (size : ℕ) (old mid new : Arrived) (body more : List ℕ) (x : T) (a b d : Option Traffic) (e : EdgeError)
    → length body + size ≤ most_body → TakesData size old mid body more a b (Ok x) → AwaitsPart DataEnd mid new b d (Err e) → ReadsData {T = T} size old new body more a d (Err e)
end_fails T size old mid new body more x a b d e fits t w =
    let front = take size t.0 in
    let long : length front ≡ size = length-take-le size t.0 t.2.0 in
    let there : t.0 ≡ front ++ mid.rest = split_there size t.0 mid.rest (ap (λ (m : Arrived). m.rest) t.2.2) in
    let one = length-append front w.0 in
    let two : mid.taken ≡ old.taken + size = ap (λ (m : Arrived). m.taken) t.2.2 in (
      front ++ w.0,
      extends_then old.rest t.0 front mid.rest w.0 a b d t.1 there w.1,
      fails_then (BreaksEnd w.0) (BreaksData (length body) size (front ++ w.0)) (mid.taken + length w.0) (old.taken + length (front ++ w.0)) old.rest t.0 a b d e t.1
          (λ y. end_breaks (length body) size front w.0 y fits long) (omega arith) w.2,
    )

pub data_ended : {T : Type 0} (y : T) (size n : ℕ) (old mid new : Arrived) (body more : List ℕ) (x : T) (a b d : Option Traffic)
    → length body + size ≤ most_body → TakesData size old mid body more a b (Ok x) → AwaitsPart DataEnd mid new b d (Ok n) → ReadsData size old new body more a d (Ok y)
data_ended y size n old mid new body more x a b d fits t w =
    let front = take size t.0 in
    let long : length front ≡ size = length-take-le size t.0 t.2.0 in
    let there : t.0 ≡ front ++ mid.rest = split_there size t.0 mid.rest (ap (λ (m : Arrived). m.rest) t.2.2) in
    let len = w.2.0 in
    let two : len ≡ 2 = w.2.1.1 in
    let three : mid.taken ≡ old.taken + size = ap (λ (m : Arrived). m.taken) t.2.2 in
    let four : new.taken ≡ mid.taken + len = w.2.5 in
    let five = ap length t.2.1 in
    let six = length-append body front in (
      front ++ w.0,
      extends_then old.rest t.0 front mid.rest w.0 a b d t.1 there w.1,
      (
        front,
        long,
        ap (λ l. front ++ l) (w.2.1.0 ∙ ap (λ l. crlf_bytes ++ l) (sym w.2.4)),
        t.2.1,
        omega arith,
        omega arith,
      ),
    )

-- ---- one chunk

-- what should be behind the line of a chunk isn't there
behind_breaks : (have size : ℕ) (line : ChunkLine) (stream rest behind : List ℕ) (e : EdgeError)
    → ReadsChunkLine stream line rest → length (print_chunk_line line) ≤ most_head → size ≡ chunk_size line → BreaksBehindLine have size behind e → BreaksChunk have (print_chunk_line line ++ behind) e
behind_breaks have size line stream rest behind e reads short is f =
    inr (line, behind, (reads.0, refl), short, subst (λ n. BreaksBehindLine have n behind e) is f)

behind_fails : (have size : ℕ) (old mid : Arrived) (stream : List ℕ) (a b d : Option Traffic) (e : EdgeError) (Cause : EdgeError → Type 0)
    → AwaitsPart Line old mid a b (Ok size) → Extends mid.rest b d stream → ((x : EdgeError) → Cause x → BreaksBehindLine have size stream x) → Fails Cause (mid.taken + length stream) b d e
    → (whole : List ℕ) × Extends old.rest a d whole × Fails (BreaksChunk have whole) (old.taken + length whole) a d e
behind_fails have size old mid stream a b d e Cause w x h f =
    let line = w.2.1.0 in
    let at = w.2.1.1 in
    let front = print_chunk_line line in
    let there : w.0 ≡ front ++ mid.rest = at.reads.1 ∙ ap (λ l. front ++ l) (sym w.2.4) in
    let one = length-append front stream in
    let two = at.len_is in
    let three = w.2.5 in
    let four = w.2.2 in
    let five = w.2.3 in (
      front ++ stream,
      extends_then old.rest w.0 front mid.rest stream a b d w.1 there x,
      fails_then Cause (BreaksChunk have (front ++ stream)) (mid.taken + length stream) (old.taken + length (front ++ stream)) old.rest w.0 a b d e w.1
          (λ y z. behind_breaks have size line w.0 (drop w.2.0 w.0) stream y at.reads (omega arith) at.size_is (h y z)) (omega arith) f,
    )

pub trailer_fails : (old mid new : Arrived) (body : List ℕ) (size : ℕ) (a b d : Option Traffic) (e : EdgeError)
    → size ≡ 0 → AwaitsPart Line old mid a b (Ok size) → AwaitsPart Trailer mid new b d (Err e) → ReadsChunk old new body body a d (Err e)
trailer_fails old mid new body size a b d e none w t = behind_fails (length body) size old mid t.0 a b d e (BreaksTrailer t.0) w t.1 (λ x f. inl (none, f)) t.2

pub chunk_fails : (T : Type 0) (old mid new : Arrived) (body more : List ℕ) (size : ℕ) (a b d : Option Traffic) (e : EdgeError)
    → 0 < size → AwaitsPart Line old mid a b (Ok size) → ReadsData {T = T} size mid new body more b d (Err e) → ReadsChunk old new body more a d (Err e)
chunk_fails T old mid new body more size a b d e some w t = behind_fails (length body) size old mid t.0 a b d e (BreaksData (length body) size t.0) w t.1 (λ x f. inr (some, f)) t.2

pub last_part : (old mid new : Arrived) (body : List ℕ) (size n : ℕ) (a b d : Option Traffic)
    → size ≡ 0 → AwaitsPart Line old mid a b (Ok size) → AwaitsPart Trailer mid new b d (Ok n) → ReadsChunk old new body body a d (Ok false)
last_part old mid new body size n a b d none w t =
    let line = w.2.1.0 in
    let at = w.2.1.1 in
    let front = print_chunk_line line in
    let there : w.0 ≡ front ++ mid.rest = at.reads.1 ∙ ap (λ l. front ++ l) (sym w.2.4) in
    let fields = t.2.1.0 in
    let last = t.2.1.1 in
    let section = print_section fields last in
    let one = at.len_is in
    let two = w.2.2 in
    let three = w.2.3 in
    let four = t.2.1.3 in
    let five = t.2.2 in
    let six = t.2.3 in (
      front ++ t.0,
      extends_then old.rest w.0 front mid.rest t.0 a b d w.1 there t.1,
      (
        front ++ section,
        record {
          line = line;
          trailer = fields;
          last = last;
          ends = (at.reads.0, sym at.size_is ∙ none, omega arith);
          fields = (t.2.1.2.0, t.2.1.4, omega arith);
          is = refl;
        },
        ap (λ l. front ++ l) (t.2.1.2.1 ∙ ap (λ l. section ++ l) (sym t.2.4)) ∙ sym (append_assoc front section new.rest),
        refl,
      ),
    )

pub one_chunk : {T : Type 0} (x : T) (old mid new : Arrived) (body more : List ℕ) (size : ℕ) (a b d : Option Traffic)
    → 0 < size → AwaitsPart Line old mid a b (Ok size) → ReadsData size mid new body more b d (Ok x) → ReadsChunk old new body more a d (Ok true)
one_chunk x old mid new body more size a b d some w t =
    let line = w.2.1.0 in
    let at = w.2.1.1 in
    let front = print_chunk_line line in
    let there : w.0 ≡ front ++ mid.rest = at.reads.1 ∙ ap (λ l. front ++ l) (sym w.2.4) in
    let bytes = t.2.0 in
    let long : length bytes ≡ size = t.2.1 in
    let one = at.len_is in
    let two = w.2.2 in
    let three = w.2.3 in
    let four : mid.taken ≡ old.taken + w.2.0 = w.2.5 in
    let five : new.taken ≡ mid.taken + (size + 2) = t.2.5 in
    let six = length-append front (bytes ++ crlf_bytes) in
    let seven = length-append bytes crlf_bytes in (
      front ++ t.0,
      extends_then old.rest w.0 front mid.rest t.0 a b d w.1 there t.1,
      (
        record { line = line; bytes = bytes },
        record { line = at.reads.0; short = omega arith; some = omega arith; size = sym at.size_is ∙ sym long },
        ap (λ l. front ++ l) (t.2.2 ∙ sym (append_assoc bytes crlf_bytes new.rest)) ∙ sym (append_assoc front (bytes ++ crlf_bytes) new.rest),
        t.2.3,
        t.2.4,
        omega arith,
      ),
    )

-- ---- all of them

print_push : (cs : List Chunk) (c : Chunk) → print_chunks (cs ++ c ∷ []) ≡ print_chunks cs ++ print_chunk c
print_push [] c = append-nil (print_chunk c)
print_push (k ∷ cs) c = ap (λ l. print_chunk k ++ l) (print_push cs c) ∙ sym (append_assoc (print_chunk k) (print_chunks cs) (print_chunk c))

joined_push : (cs : List Chunk) (c : Chunk) → joined (cs ++ c ∷ []) ≡ joined cs ++ c.bytes
joined_push [] c = append-nil c.bytes
joined_push (k ∷ cs) c = ap (λ l. k.bytes ++ l) (joined_push cs c) ∙ sym (append_assoc k.bytes (joined cs) c.bytes)

pub no_chunks : (old : Arrived) (body : List ℕ) (a : Option Traffic) → body ≡ [] → HasChunks old old body a a
no_chunks old body a empty = ([], old.rest, (λ i d lt. absurd (omega (arith, lt))), extends_none old.rest a, refl, empty, omega arith)

pub more_chunks : (old mid new : Arrived) (body more : List ℕ) (a b d : Option Traffic) → HasChunks old mid body a b → ReadsChunk mid new body more b d (Ok true) → HasChunks old new more a d
more_chunks old mid new body more a b d h r =
    let cs = h.0 in
    let c = r.2.0 in
    let front = print_chunks cs in
    let one = ap length (print_push cs c) in
    let two = length-append front (print_chunk c) in
    let three : mid.taken ≡ old.taken + length front = h.6 in
    let four : new.taken ≡ mid.taken + length (print_chunk c) = r.2.5 in (
      cs ++ c ∷ [],
      front ++ r.0,
      All-push IsChunk cs c h.2 r.2.1,
      extends_then old.rest h.1 front mid.rest r.0 a b d h.3 h.4 r.1,
      ap (λ l. front ++ l) r.2.2 ∙ sym (append_assoc front (print_chunk c) new.rest) ∙ ap (λ l. l ++ new.rest) (sym (print_push cs c)),
      r.2.3 ∙ ap (λ l. l ++ c.bytes) h.5 ∙ sym (joined_push cs c),
      omega arith,
    )

pub chunks_end : {T : Type 0} (x : T) (old mid new : Arrived) (body more : List ℕ) (a b d : Option Traffic) → length body ≤ most_body → HasChunks old mid body a b → ReadsChunk mid new body more b d (Ok false) → ReadsBody ByChunks old more a d (Ok x)
chunks_end x old mid new body more a b d small h r =
    let front = print_chunks h.0 in
    let text = r.2.0 in
    let p = r.2.1 in (
      front ++ r.0,
      extends_then old.rest h.1 front mid.rest r.0 a b d h.3 h.4 r.1,
      (
        front ++ text,
        record {
          chunks = h.0;
          line = p.line;
          trailer = p.trailer;
          last = p.last;
          valid = h.2;
          ends = p.ends;
          fields = p.fields;
          is = ap (λ l. front ++ l) p.is;
          whole = r.2.3 ∙ h.5;
          small = subst (λ l. length l ≤ most_body) (sym r.2.3) small;
        },
        (new.rest, ap (λ l. front ++ l) r.2.2 ∙ sym (append_assoc front text new.rest)),
      ),
    )

pub chunks_fail : (T : Type 0) (old mid new : Arrived) (body more : List ℕ) (a b d : Option Traffic) (e : EdgeError)
    → length body ≤ most_body → HasChunks old mid body a b → ReadsChunk mid new body more b d (Err e) → ReadsBody {T = T} ByChunks old more a d (Err e)
chunks_fail T old mid new body more a b d e small h r =
    let front = print_chunks h.0 in
    let one = length-append front r.0 in
    let two : mid.taken ≡ old.taken + length front = h.6 in
    let have : length body ≡ 0 + length (joined h.0) = omega (arith, ap length h.5) in (
      front ++ r.0,
      extends_then old.rest h.1 front mid.rest r.0 a b d h.3 h.4 r.1,
      fails_then (BreaksChunk (length body) r.0) (BreaksBody ByChunks (front ++ r.0)) (mid.taken + length r.0) (old.taken + length (front ++ r.0)) old.rest h.1 a b d e h.3
          (λ x f. (h.0, r.0, h.2, refl, subst (λ n. BreaksChunk n r.0 x) have f, subst (λ n. n ≤ most_body) have small)) (omega arith) r.2,
    )

-- how many bytes were taken, bounded by those of the body, after one more chunk
pub chunk_counts : (mid new : Arrived) (body more : List ℕ) (b d : Option Traffic) → ReadsChunk mid new body more b d (Ok true)
    → length body ≤ mid.taken → mid.taken ≤ most_head + 16387 * length body → (length more ≤ new.taken) × (new.taken ≤ most_head + 16387 * length more)
chunk_counts mid new body more b d r counted taken =
    let c = r.2.0 in
    let one = ap length r.2.3 in
    let two = length-append body c.bytes in
    let three = length-append (print_chunk_line c.line) (c.bytes ++ crlf_bytes) in
    let four = length-append c.bytes crlf_bytes in
    let five = r.2.5 in
    let six = r.2.1.short in
    let seven = r.2.1.some in
    (omega arith, omega arith)
