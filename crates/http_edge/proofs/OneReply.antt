-- A stream begins with one reply, and a reply and the cause of an error exclude each other.
use Rattle.std.proofs.Common.{refl, sym, ap, subst, ◌∙◌, ◌≡◌, ◌≤◌, ◌+◌, inl, inr, ℕ, List, [], ◌∷◌, ◌++◌, length, map, All, Option, Result, Ok, append_assoc, length-append, arith}
use Rattle.std.proofs.lemmas.List.{append-nil}
use Rattle.std.proofs.lemmas.List.Elements.{All-head, All-tail}
use Rattle.actor_ports.specs.Traffic.{Traffic}
use Rattle.httparse.specs.Ascii.{crlf_bytes}
use Rattle.httparse.specs.Grammar.{Field, IsField, LineEnd, print_section, ResponseHead, status_code, ChunkLine, IsChunkLine, print_chunk_line, chunk_size}
use Rattle.httparse.proofs.GrammarLemmas.{response_unique, ReadsResponse-append}
use Rattle.httparse.proofs.ChunkLemmas.{chunk_line_unique, ReadsChunkLine-append}
use Rattle.http_edge.specs.declared.message.HttpField.{HttpField}
use Rattle.http_edge.specs.declared.message.HttpResponse.{HttpResponse}
use Rattle.http_edge.specs.declared.form.BodyForm.{BodyForm}
use Rattle.http_edge.specs.declared.form.BodyForm.TheVariants.{BySize, ByChunks, ToEnd}
use Rattle.http_edge.specs.declared.error.EdgeError.{EdgeError}
use Rattle.http_edge.specs.declared.error.EdgeError.TheVariants.{BadHead, BodyTooLong, CutShort}
use Rattle.http_edge.specs.Fields.{most_head, most_fields, most_body}
use Rattle.http_edge.specs.Requests.{pair_of}
use Rattle.http_edge.specs.Replies.{Chunk, IsChunk, print_chunk, print_chunks, joined, IsChunkedText, StartsWithReply, reply_pairs, form_of, HasBody, HasReply, RefusesHead, BreaksChunk, BreaksBody}
use Rattle.http_edge.specs.Settled.{MayFollow, CauseExcludesReply, HasOneReply}
use Rattle.http_edge.proofs.Excluded.{fronts_same, head_excluded, line_excluded, trailer_excluded, data_excluded, whole_within}

-- ---- chunks

-- the end of a body in chunks
record IsEnd (line : ChunkLine) (trailer : List Field) (last : LineEnd) : Type 0 where
  pub ends : IsChunkLine line × (chunk_size line ≡ 0) × (length (print_chunk_line line) ≤ most_head)
  pub fields : All IsField trailer × (length trailer ≤ most_fields) × (length (print_section trailer last) ≤ most_head)

-- a chunk's line, and what is behind it
chunk_line : (c : Chunk) (text rest : List ℕ) → text ≡ print_chunk c ++ rest → text ≡ print_chunk_line c.line ++ (c.bytes ++ (crlf_bytes ++ rest))
chunk_line c text rest e =
    e ∙ append_assoc (print_chunk_line c.line) (c.bytes ++ crlf_bytes) rest ∙ ap (λ l. print_chunk_line c.line ++ l) (append_assoc c.bytes crlf_bytes rest)

-- two chunks that begin one text have the same bytes
pub first_chunk : (text : List ℕ) (c d : Chunk) (x y : List ℕ) → IsChunk c → IsChunk d → text ≡ print_chunk c ++ x → text ≡ print_chunk d ++ y → (c.bytes ≡ d.bytes) × (x ≡ y)
first_chunk text c d x y p q e f =
    let lines = chunk_line_unique text c.line d.line (c.bytes ++ (crlf_bytes ++ x)) (d.bytes ++ (crlf_bytes ++ y)) (p.line, chunk_line c text x e) (q.line, chunk_line d text y f) in
    let sizes = ap chunk_size lines.0 in
    let long : length c.bytes ≡ length d.bytes = sym p.size ∙ sizes ∙ q.size in
    let both = fronts_same c.bytes d.bytes (crlf_bytes ++ x) (crlf_bytes ++ y) lines.1 long in
    (both.0, (fronts_same crlf_bytes crlf_bytes x y both.1 refl).1)

-- a chunk isn't the end
chunk_goes_on : (text : List ℕ) (c : Chunk) (line : ChunkLine) (x y : List ℕ) → IsChunk c → IsChunkLine line → chunk_size line ≡ 0 → text ≡ print_chunk c ++ x → text ≡ print_chunk_line line ++ y → ⊥
chunk_goes_on text c line x y p valid none e f =
    let lines = chunk_line_unique text c.line line (c.bytes ++ (crlf_bytes ++ x)) y (p.line, chunk_line c text x e) (valid, f) in
    let sizes = ap chunk_size lines.0 in
    let size = p.size in
    let some = p.some in
    omega arith

-- the first chunk of several
pub first_of_chunks : (c : Chunk) (cs : List Chunk) (text rest : List ℕ) → text ≡ print_chunks (c ∷ cs) ++ rest → text ≡ print_chunk c ++ (print_chunks cs ++ rest)
first_of_chunks c cs text rest e = e ∙ append_assoc (print_chunk c) (print_chunks cs) rest

-- one text has the chunks of one body
chunks_same :
    (cs ds : List Chunk) (line other : ChunkLine) (x y text : List ℕ)
    → All IsChunk cs → All IsChunk ds → IsChunkLine line → chunk_size line ≡ 0 → IsChunkLine other → chunk_size other ≡ 0
    → text ≡ print_chunks cs ++ (print_chunk_line line ++ x) → text ≡ print_chunks ds ++ (print_chunk_line other ++ y) → joined cs ≡ joined ds
chunks_same [] [] line other x y text p q v n w m e f = refl
chunks_same [] (d ∷ ds) line other x y text p q v n w m e f =
    absurd (chunk_goes_on text d line (print_chunks ds ++ (print_chunk_line other ++ y)) x (All-head IsChunk d ds q) v n (first_of_chunks d ds text _ f) e)
chunks_same (c ∷ cs) [] line other x y text p q v n w m e f =
    absurd (chunk_goes_on text c other (print_chunks cs ++ (print_chunk_line line ++ x)) y (All-head IsChunk c cs p) w m (first_of_chunks c cs text _ e) f)
chunks_same (c ∷ cs) (d ∷ ds) line other x y text p q v n w m e f =
    let behind = print_chunks cs ++ (print_chunk_line line ++ x) in
    let first = first_chunk text c d behind (print_chunks ds ++ (print_chunk_line other ++ y)) (All-head IsChunk c cs p) (All-head IsChunk d ds q) (first_of_chunks c cs text _ e) (first_of_chunks d ds text _ f) in
    let others : joined cs ≡ joined ds = chunks_same cs ds line other x y behind (All-tail IsChunk c cs p) (All-tail IsChunk d ds q) v n w m refl first.1 in
    λ i. first.0 i ++ others i

-- the end is there
end_excluded : (have : ℕ) (stream more rest : List ℕ) (line : ChunkLine) (trailer : List Field) (last : LineEnd) (e : EdgeError)
    → MayFollow e more → BreaksChunk have stream e → IsEnd line trailer last → stream ++ more ≡ print_chunk_line line ++ (print_section trailer last ++ rest) → ⊥
end_excluded have stream more rest line trailer last e on (inl f) p is =
    line_excluded stream more line (print_section trailer last ++ rest) e on f (p.ends.0, is) p.ends.2
end_excluded have stream more rest line trailer last e on (inr f) p is =
    let lines = chunk_line_unique (stream ++ more) f.0 line (f.1 ++ more) (print_section trailer last ++ rest) (ReadsChunkLine-append stream f.0 f.1 more f.2) (p.ends.0, is) in
    let size : chunk_size f.0 ≡ 0 = ap chunk_size lines.0 ∙ p.ends.1 in
    elim f.4 [
      | inl t ↦ trailer_excluded f.1 more trailer last rest e on t.1 (p.fields.0, lines.1) p.fields.1 p.fields.2
      | inr t ↦ let some = t.0 in omega arith
    ]

-- a chunk is there
pub chunk_excluded : (have : ℕ) (stream more rest : List ℕ) (c : Chunk) (e : EdgeError)
    → MayFollow e more → BreaksChunk have stream e → IsChunk c → have + length c.bytes ≤ most_body → stream ++ more ≡ print_chunk c ++ rest → ⊥
chunk_excluded have stream more rest c e on (inl f) p small is =
    line_excluded stream more c.line (c.bytes ++ (crlf_bytes ++ rest)) e on f (p.line, chunk_line c (stream ++ more) rest is) p.short
chunk_excluded have stream more rest c e on (inr f) p small is =
    let lines = chunk_line_unique (stream ++ more) f.0 c.line (f.1 ++ more) (c.bytes ++ (crlf_bytes ++ rest)) (ReadsChunkLine-append stream f.0 f.1 more f.2) (p.line, chunk_line c (stream ++ more) rest is) in
    let size : chunk_size f.0 ≡ length c.bytes = ap chunk_size lines.0 ∙ p.size in
    let bytes = p.some in
    elim f.4 [
      | inl t ↦ let none = t.0 in omega arith
      | inr t ↦ data_excluded have (chunk_size f.0) f.1 more c.bytes rest e on t.1 lines.1 (sym size) (omega arith)
    ]

-- chunks and the end are there
chunks_excluded :
    (ds cs : List Chunk) (have : ℕ) (rest more tail : List ℕ) (line : ChunkLine) (trailer : List Field) (last : LineEnd) (e : EdgeError)
    → MayFollow e more → All IsChunk ds → All IsChunk cs → IsEnd line trailer last → have + length (joined cs) ≤ most_body
    → print_chunks ds ++ (rest ++ more) ≡ print_chunks cs ++ (print_chunk_line line ++ (print_section trailer last ++ tail))
    → BreaksChunk (have + length (joined ds)) rest e → ⊥
chunks_excluded [] [] have rest more tail line trailer last e on q p end small is f = end_excluded (have + length (joined [])) rest more tail line trailer last e on f end is
chunks_excluded [] (c ∷ cs) have rest more tail line trailer last e on q p end small is f =
    let a = length-append c.bytes (joined cs) in
    chunk_excluded (have + length (joined [])) rest more (print_chunks cs ++ (print_chunk_line line ++ (print_section trailer last ++ tail))) c e on f (All-head IsChunk c cs p) (omega arith)
    (first_of_chunks c cs (rest ++ more) _ is)
chunks_excluded (d ∷ ds) [] have rest more tail line trailer last e on q p end small is f =
    chunk_goes_on (print_chunks (d ∷ ds) ++ (rest ++ more)) d line (print_chunks ds ++ (rest ++ more)) (print_section trailer last ++ tail) (All-head IsChunk d ds q) end.ends.0 end.ends.1 (first_of_chunks d ds (print_chunks (d ∷ ds) ++ (rest ++ more)) (rest ++ more) refl) is
chunks_excluded (d ∷ ds) (c ∷ cs) have rest more tail line trailer last e on q p end small is f =
    let behind = print_chunks cs ++ (print_chunk_line line ++ (print_section trailer last ++ tail)) in
    let whole = print_chunks (d ∷ ds) ++ (rest ++ more) in
    let first = first_chunk whole d c (print_chunks ds ++ (rest ++ more)) behind (All-head IsChunk d ds q) (All-head IsChunk c cs p) (first_of_chunks d ds whole (rest ++ more) refl) (first_of_chunks c cs whole _ is) in
    let a = length-append d.bytes (joined ds) in
    let b = length-append c.bytes (joined cs) in
    let long = ap length first.0 in
    let sum : have + length (joined (d ∷ ds)) ≡ have + length d.bytes + length (joined ds) = omega arith in
    chunks_excluded ds cs (have + length d.bytes) rest more tail line trailer last e on (All-tail IsChunk d ds q) (All-tail IsChunk c cs p) end (omega arith) first.1 (subst (λ n. BreaksChunk n rest e) sum f)

-- ---- bodies

end_of : (text body : List ℕ) (t : IsChunkedText text body) → IsEnd t.line t.trailer t.last
end_of text body t = record { ends = t.ends; fields = t.fields }

chunked_there : (text body stream rest : List ℕ) (t : IsChunkedText text body) → stream ≡ text ++ rest
    → stream ≡ print_chunks t.chunks ++ (print_chunk_line t.line ++ (print_section t.trailer t.last ++ rest))
chunked_there text body stream rest t e =
    e ∙ ap (λ l. l ++ rest) t.is ∙ append_assoc (print_chunks t.chunks) (print_chunk_line t.line ++ print_section t.trailer t.last) rest
    ∙ ap (λ l. print_chunks t.chunks ++ l) (append_assoc (print_chunk_line t.line) (print_section t.trailer t.last) rest)

pub body_excluded : (form : BodyForm) (behind more body : List ℕ) (a b : Option Traffic) (e : EdgeError)
    → MayFollow e more → BreaksBody form behind e → HasBody form (behind ++ more) body a b → ⊥
body_excluded (BySize n) behind more body a b (CutShort k) on f h =
    let long = whole_within behind more body h.1.0 on h.1.1 in
    let is = h.0 in
    omega (arith, f)
body_excluded (BySize n) behind more body a b e on f h = absurd f
body_excluded ByChunks behind more body a b e on f h =
    let t = h.1 in
    let small : 0 + length (joined t.chunks) ≤ most_body = subst (λ l. 0 + length l ≤ most_body) t.whole (omega (arith, t.small)) in
    let there : behind ++ more ≡ print_chunks f.0 ++ (f.1 ++ more) = ap (λ l. l ++ more) f.3 ∙ append_assoc (print_chunks f.0) f.1 more in
    chunks_excluded f.0 t.chunks 0 f.1 more h.2.0 t.line t.trailer t.last e on f.2 t.valid (end_of h.0 body t) small
    (sym there ∙ chunked_there h.0 body (behind ++ more) h.2.0 t h.2.1) f.4
body_excluded ToEnd behind more body a b (BodyTooLong n) on f h =
    let sum = length-append behind more in
    let all = ap length h.0 in
    let small = h.1 in
    let over = f.0 in
    let long = f.1 in
    omega arith
body_excluded ToEnd behind more body a b e on f h = absurd f

body_same : (form : BodyForm) (behind more body other : List ℕ) (a b c d : Option Traffic)
    → (form ≡ ToEnd → more ≡ []) → HasBody form behind body a b → HasBody form (behind ++ more) other c d → body ≡ other
body_same (BySize n) behind more body other a b c d end h k =
    (fronts_same body other (h.1.0 ++ more) k.1.0 (sym (append_assoc body h.1.0 more) ∙ ap (λ l. l ++ more) (sym h.1.1) ∙ k.1.1) (h.0 ∙ sym k.0)).0
body_same ByChunks behind more body other a b c d end h k =
    let t = h.1 in
    let u = k.1 in
    let there : behind ++ more ≡ h.0 ++ (h.2.0 ++ more) = ap (λ l. l ++ more) h.2.1 ∙ append_assoc h.0 h.2.0 more in
    t.whole
    ∙ chunks_same t.chunks u.chunks t.line u.line (print_section t.trailer t.last ++ (h.2.0 ++ more)) (print_section u.trailer u.last ++ k.2.0) (behind ++ more) t.valid u.valid t.ends.0 t.ends.1 u.ends.0 u.ends.1
    (chunked_there h.0 body (behind ++ more) (h.2.0 ++ more) t there) (chunked_there k.0 other (behind ++ more) k.2.0 u k.2.1)
    ∙ sym u.whole
body_same ToEnd behind more body other a b c d end h k = sym h.0 ∙ sym (append-nil behind) ∙ ap (λ l. behind ++ l) (sym (end refl)) ∙ k.0

-- ---- replies

pub heads_same : (stream more : List ℕ) (h k : ResponseHead) (x y : List ℕ) → StartsWithReply stream h x → StartsWithReply (stream ++ more) k y → (h ≡ k) × (x ++ more ≡ y)
heads_same stream more h k x y s t = response_unique (stream ++ more) h k (x ++ more) y (ReadsResponse-append stream h x more s.reads) t.reads

-- a head that is refused has no form, or no final status
pub not_refused : (head : ResponseHead) (form : BodyForm) (e : EdgeError) → RefusesHead head e → 200 ≤ status_code head → form_of head ≡ Ok form → ⊥
not_refused head form BadHead f final formed = omega (arith, f, final)
not_refused head form e f final formed = let two = f.1 in absurd (cc)

pub form_same : (x y : BodyForm) → ◌≡◌ {A = Result BodyForm EdgeError} (Ok x) (Ok y) → x ≡ y
form_same x y e = cc

pub cause_excludes : CauseExcludesReply
cause_excludes stream more e a b r on (inl f) h = head_excluded stream more h.head h.behind e on f h.starts
cause_excludes stream more e a b r on (inr f) h =
    let same = heads_same stream more f.0 h.head f.1 h.behind f.2 h.starts in
    let formed : form_of f.0 ≡ Ok h.form = ap form_of same.0 ∙ h.formed in
    let final : 200 ≤ status_code f.0 = subst (λ (k : ResponseHead). 200 ≤ status_code k) (sym same.0) h.final in
    elim f.3 [
      | inl x ↦ not_refused f.0 h.form e x final formed
      | inr x ↦
          let forms : x.0 ≡ h.form = form_same x.0 h.form (sym x.2 ∙ formed) in
          body_excluded h.form f.1 more r.body a b e on (subst (λ (m : BodyForm). BreaksBody m f.1 e) forms x.3) (subst (λ l. HasBody h.form l r.body a b) (sym same.1) h.body)
    ]

pub fields_same : (fs gs : List HttpField) → map pair_of fs ≡ map pair_of gs → fs ≡ gs
fields_same [] [] e = refl
fields_same [] (g ∷ gs) e = absurd (cc)
fields_same (f ∷ fs) [] e = absurd (cc)
fields_same (f ∷ fs) (g ∷ gs) e =
    let first : pair_of f ≡ pair_of g = cc in
    let tail : map pair_of fs ≡ map pair_of gs = cc in
    let others : fs ≡ gs = fields_same fs gs tail in
    λ i. record { name = (first i).0; value = (first i).1 } ∷ others i

-- the same reply, if more bytes come behind one that doesn't end with the input
pub reply_same : (stream more : List ℕ) (a b c d : Option Traffic) (r s : HttpResponse) (h : HasReply stream a b r)
    → (h.form ≡ ToEnd → more ≡ []) → HasReply (stream ++ more) c d s → r ≡ s
reply_same stream more a b c d r s h end k =
    let same = heads_same stream more h.head k.head h.behind k.behind h.starts k.starts in
    let forms : k.form ≡ h.form = form_same k.form h.form (sym k.formed ∙ ap form_of (sym same.0) ∙ h.formed) in
    let other : HasBody h.form (h.behind ++ more) s.body c d = subst (λ (l : List ℕ). HasBody h.form l s.body c d) (sym same.1) (subst (λ (m : BodyForm). HasBody m k.behind s.body c d) forms k.body) in
    let status : r.status ≡ s.status = h.status ∙ ap status_code same.0 ∙ sym k.status in
    let fields : r.fields ≡ s.fields = fields_same r.fields s.fields (h.fields ∙ ap reply_pairs same.0 ∙ sym k.fields) in
    let body : r.body ≡ s.body = body_same h.form h.behind more r.body s.body a b c d end h.body other in
    λ i. record { status = status i; fields = fields i; body = body i }

pub one_reply : HasOneReply
one_reply stream a b c d r s h k = reply_same stream [] a b c d r s h (λ e. refl) (subst (λ l. HasReply l c d s) (sym (append-nil stream)) k)
