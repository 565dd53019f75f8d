-- What begins a stream, and why it doesn't, exclude each other.
use Rattle.std.proofs.Common.{refl, sym, ap, ◌∙◌, ◌≡◌, ◌≤◌, ◌+◌, inl, inr, ℕ, List, [], ◌∷◌, ◌++◌, length, drop, length-append, arith}
use Rattle.httparse.specs.Ascii.{crlf_bytes}
use Rattle.httparse.specs.Grammar.{Field, LineEnd, print_section, ReadsSection, HasNoSection, ResponseHead, print_response, ReadsResponse, HasNoResponse, ChunkLine, print_chunk_line, ReadsChunkLine, HasNoChunkLine}
use Rattle.http_edge.specs.declared.error.EdgeError.{EdgeError}
use Rattle.http_edge.specs.declared.error.EdgeError.TheVariants.{BadHead, HeadTooLong, TooManyFields, Chunked, BadLength, BodyTooLong, CutShort, ConnFault, OutOfMemory}
use Rattle.http_edge.specs.Fields.{most_head, most_fields, most_body}
use Rattle.http_edge.specs.Replies.{StartsWithReply, BreaksHead, BreaksLine, BreaksTrailer, BreaksData, IsCutEnd}
use Rattle.http_edge.specs.Settled.{MayFollow}

-- ---- fronts of a stream

-- a front that is no longer than the stream begins it
pub front_within : (stream more front rest : List ℕ) → stream ++ more ≡ front ++ rest → length front ≤ length stream → stream ≡ front ++ drop (length front) stream
front_within stream more [] rest e le = refl
front_within [] more (x ∷ xs) rest e le = absurd (omega arith)
front_within (y ∷ ys) more (x ∷ xs) rest e le =
    let head : y ≡ x = cc in
    let tail : ys ++ more ≡ xs ++ rest = cc in
    let here : ys ≡ xs ++ drop (length xs) ys = front_within ys more xs rest tail (omega arith) in
    λ i. head i ∷ here i

-- and the rest is behind it
behind_within : (stream more front rest : List ℕ) → stream ++ more ≡ front ++ rest → length front ≤ length stream → drop (length front) stream ++ more ≡ rest
behind_within stream more [] rest e le = e
behind_within [] more (x ∷ xs) rest e le = absurd (omega arith)
behind_within (y ∷ ys) more (x ∷ xs) rest e le =
    let tail : ys ++ more ≡ xs ++ rest = cc in
    behind_within ys more xs rest tail (omega arith)

pub behind_front : (n : ℕ) (stream more front rest : List ℕ) → stream ++ more ≡ front ++ rest → length front ≡ n → n ≤ length stream → drop n stream ++ more ≡ rest
behind_front n stream more front rest e is le = ap (λ m. drop m stream ++ more) (sym is) ∙ behind_within stream more front rest e (omega arith)

-- two fronts of one length are equal
pub fronts_same : (a b x y : List ℕ) → a ++ x ≡ b ++ y → length a ≡ length b → (a ≡ b) × (x ≡ y)
fronts_same [] [] x y e long = (refl, e)
fronts_same [] (k ∷ b) x y e long = absurd (omega arith)
fronts_same (j ∷ a) [] x y e long = absurd (omega arith)
fronts_same (j ∷ a) (k ∷ b) x y e long =
    let head : j ≡ k = cc in
    let tail : a ++ x ≡ b ++ y = cc in
    let both = fronts_same a b x y tail (omega arith) in
    (λ i. head i ∷ both.0 i, both.1)

-- what is whole lies within the stream, if nothing follows
pub whole_within : (stream more front rest : List ℕ) → more ≡ [] → stream ++ more ≡ front ++ rest → length front ≤ length stream
whole_within stream more front rest none e =
    let a = ap length e in
    let b = ap length none in
    let c = length-append stream more in
    let d = length-append front rest in
    omega arith

-- ---- heads, chunk lines, trailer parts

no_head : (stream more : List ℕ) (h : ResponseHead) (rest : List ℕ) → HasNoResponse stream → ReadsResponse (stream ++ more) h rest → length (print_response h) ≤ length stream → ⊥
no_head stream more h rest none reads le = none h (drop (length (print_response h)) stream) (reads.0, front_within stream more (print_response h) rest reads.1 le)

no_line : (stream more : List ℕ) (l : ChunkLine) (rest : List ℕ) → HasNoChunkLine stream → ReadsChunkLine (stream ++ more) l rest → length (print_chunk_line l) ≤ length stream → ⊥
no_line stream more l rest none reads le = none l (drop (length (print_chunk_line l)) stream) (reads.0, front_within stream more (print_chunk_line l) rest reads.1 le)

no_section : (stream more : List ℕ) (fields : List Field) (last : LineEnd) (rest : List ℕ)
    → HasNoSection stream → ReadsSection (stream ++ more) fields last rest → length (print_section fields last) ≤ length stream → ⊥
no_section stream more fields last rest none reads le =
    none fields last (drop (length (print_section fields last)) stream) (reads.0, front_within stream more (print_section fields last) rest reads.1 le)

pub head_excluded : (stream more : List ℕ) (h : ResponseHead) (rest : List ℕ) (e : EdgeError) → MayFollow e more → BreaksHead stream e → StartsWithReply (stream ++ more) h rest → ⊥
head_excluded stream more h rest BadHead on f s = f.1 more h rest s.reads
head_excluded stream more h rest HeadTooLong on f s = let full = f.0 in let short = s.short in no_head stream more h rest f.1 s.reads (omega arith)
head_excluded stream more h rest TooManyFields on f s = let many = f.2 more h rest s.reads in let few = s.few in omega arith
head_excluded stream more h rest (CutShort n) on f s = no_head stream more h rest f.1 s.reads (whole_within stream more (print_response h) rest on s.reads.1)
head_excluded stream more h rest Chunked on f s = absurd f
head_excluded stream more h rest BadLength on f s = absurd f
head_excluded stream more h rest (BodyTooLong n) on f s = absurd f
head_excluded stream more h rest ConnFault on f s = absurd f
head_excluded stream more h rest OutOfMemory on f s = absurd f

pub line_excluded : (stream more : List ℕ) (l : ChunkLine) (rest : List ℕ) (e : EdgeError)
    → MayFollow e more → BreaksLine stream e → ReadsChunkLine (stream ++ more) l rest → length (print_chunk_line l) ≤ most_head → ⊥
line_excluded stream more l rest BadLength on f reads short = f.1 more l rest reads
line_excluded stream more l rest HeadTooLong on f reads short = let full = f.0 in no_line stream more l rest f.1 reads (omega arith)
line_excluded stream more l rest (CutShort n) on f reads short = no_line stream more l rest f.1 reads (whole_within stream more (print_chunk_line l) rest on reads.1)
line_excluded stream more l rest BadHead on f reads short = absurd f
line_excluded stream more l rest TooManyFields on f reads short = absurd f
line_excluded stream more l rest Chunked on f reads short = absurd f
line_excluded stream more l rest (BodyTooLong n) on f reads short = absurd f
line_excluded stream more l rest ConnFault on f reads short = absurd f
line_excluded stream more l rest OutOfMemory on f reads short = absurd f

pub trailer_excluded : (stream more : List ℕ) (fields : List Field) (last : LineEnd) (rest : List ℕ) (e : EdgeError)
    → MayFollow e more → BreaksTrailer stream e → ReadsSection (stream ++ more) fields last rest → length fields ≤ most_fields → length (print_section fields last) ≤ most_head → ⊥
trailer_excluded stream more fields last rest BadHead on f reads few short = f.1 more fields last rest reads
trailer_excluded stream more fields last rest HeadTooLong on f reads few short = let full = f.0 in no_section stream more fields last rest f.1 reads (omega arith)
trailer_excluded stream more fields last rest TooManyFields on f reads few short = let many = f.2 more fields last rest reads in omega arith
trailer_excluded stream more fields last rest (CutShort n) on f reads few short =
    no_section stream more fields last rest f.1 reads (whole_within stream more (print_section fields last) rest on reads.1)
trailer_excluded stream more fields last rest Chunked on f reads few short = absurd f
trailer_excluded stream more fields last rest BadLength on f reads few short = absurd f
trailer_excluded stream more fields last rest (BodyTooLong n) on f reads few short = absurd f
trailer_excluded stream more fields last rest ConnFault on f reads few short = absurd f
trailer_excluded stream more fields last rest OutOfMemory on f reads few short = absurd f

-- ---- the bytes of a chunk

cut_end_short : (bytes : List ℕ) → IsCutEnd bytes → length bytes ≤ 1
cut_end_short bytes (inl e) = let n = ap length e in omega arith
cut_end_short bytes (inr e) = let n = ap length e in omega arith

-- the bytes and the CR LF are there
pub data_excluded : (have size : ℕ) (stream more bytes rest : List ℕ) (e : EdgeError)
    → MayFollow e more → BreaksData have size stream e → stream ++ more ≡ bytes ++ (crlf_bytes ++ rest) → length bytes ≡ size → have + size ≤ most_body → ⊥
data_excluded have size stream more bytes rest (BodyTooLong n) on f is long small = let over = f.0 in omega arith
data_excluded have size stream more bytes rest BadLength on f is long small =
    let within = f.1 in
    f.2 more rest (behind_front size stream more bytes (crlf_bytes ++ rest) is long (omega arith))
data_excluded have size stream more bytes rest (CutShort n) on f is long small =
    let a = ap length (behind_front size stream more bytes (crlf_bytes ++ rest) is long (omega (arith, long, whole_within stream more bytes (crlf_bytes ++ rest) on is))) in
    let b = length-append (drop size stream) more in
    let c = length-append crlf_bytes rest in
    let d = cut_end_short (drop size stream) f.1 in
    let none = ap length on in
    omega arith
data_excluded have size stream more bytes rest BadHead on f is long small = absurd f
data_excluded have size stream more bytes rest HeadTooLong on f is long small = absurd f
data_excluded have size stream more bytes rest TooManyFields on f is long small = absurd f
data_excluded have size stream more bytes rest Chunked on f is long small = absurd f
data_excluded have size stream more bytes rest ConnFault on f is long small = absurd f
data_excluded have size stream more bytes rest OutOfMemory on f is long small = absurd f
