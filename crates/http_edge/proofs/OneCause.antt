-- All causes that one input gives for having no reply agree.
use Rattle.std.proofs.Common.{refl, sym, ap, subst, ◌∙◌, ◌≡◌, ◌<◌, ◌≤◌, ◌+◌, ◌⊎◌, inl, inr, ℕ, List, [], ◌∷◌, ◌++◌, length, drop, All, None, Result, Err, suc, zero, append_assoc, length-append, arith}
use Rattle.std.proofs.lemmas.List.{append-nil}
use Rattle.std.proofs.lemmas.List.Elements.{All-head, All-tail}
use Rattle.httparse.specs.Ascii.{crlf_bytes}
use Rattle.httparse.specs.Grammar.{NeverHasResponse, MayBecomeResponse, ResponseHead, NeverHasChunkLine, MayBecomeChunkLine, chunk_size, NeverHasSection, MayBecomeSection}
use Rattle.httparse.proofs.GrammarLemmas.{ReadsResponse-append}
use Rattle.httparse.proofs.ChunkLemmas.{chunk_line_unique, ReadsChunkLine-append}
use Rattle.http_edge.specs.declared.form.BodyForm.{BodyForm}
use Rattle.http_edge.specs.declared.form.BodyForm.TheVariants.{BySize, ByChunks, ToEnd}
use Rattle.http_edge.specs.declared.error.EdgeError.{EdgeError}
use Rattle.http_edge.specs.declared.error.EdgeError.TheVariants.{BadHead, HeadTooLong, TooManyFields, Chunked, BadLength, BodyTooLong, CutShort, ConnFault, OutOfMemory}
use Rattle.http_edge.specs.Fields.{most_head, most_body}
use Rattle.http_edge.specs.Replies.{Chunk, IsChunk, print_chunks, joined, StartsWithReply, form_of, BreaksHead, RefusesHead, BreaksLine, BreaksTrailer, NeverEndsLine, IsCutEnd, BreaksData, BreaksBehindLine, BreaksChunk, BreaksBody, BreaksBehind, Breaks, HasNoReading}
use Rattle.http_edge.specs.Settled.{MayFollow, IsNamed, AgreesWith, InputBreaks, GivesOneError}
use Rattle.http_edge.proofs.Excluded.{front_within, head_excluded, line_excluded}
use Rattle.http_edge.proofs.OneReply.{first_chunk, first_of_chunks, chunk_excluded, heads_same, not_refused, form_same}

-- the same, wherever the input was cut
abbrev Alike : EdgeError → EdgeError → Type 0
Alike (CutShort n) (CutShort m) = Unit {0}
Alike e f = AgreesWith e f

alike_itself : (e : EdgeError) → Alike e e
alike_itself (CutShort n) = tt
alike_itself e = refl

alike_same : (e f : EdgeError) → e ≡ f → Alike e f
alike_same e f is = subst (λ (x : EdgeError). Alike e x) is (alike_itself e)

-- ---- two fronts of one input

longer : (stream more other rest : List ℕ) → stream ++ more ≡ other ++ rest → rest ≡ [] → length stream ≤ length other
longer stream more other rest is none =
    let a = ap length is in
    let b = ap length none in
    let c = length-append stream more in
    let d = length-append other rest in
    omega arith

full_not_cut : (stream more other rest : List ℕ) → stream ++ more ≡ other ++ rest → length stream ≡ most_head → length other < most_head → rest ≡ [] → ⊥
full_not_cut stream more other rest is full short none = let a = longer stream more other rest is none in omega arith

goes_on : (stream more other rest : List ℕ) → stream ++ more ≡ other ++ rest → length stream ≤ length other → other ≡ stream ++ drop (length stream) other
goes_on stream more other rest is le = front_within other rest stream more (sym is) le

never_head : (stream more other rest : List ℕ) → stream ++ more ≡ other ++ rest → length stream ≤ length other → NeverHasResponse stream → MayBecomeResponse other → ⊥
never_head stream more other rest is le never m =
    let mid = drop (length stream) other in
    never (mid ++ m.0) m.1 [] (m.2.0, sym (append_assoc stream mid m.0) ∙ ap (λ l. l ++ m.0) (sym (goes_on stream more other rest is le)) ∙ m.2.1)

never_line : (stream more other rest : List ℕ) → stream ++ more ≡ other ++ rest → length stream ≤ length other → NeverHasChunkLine stream → MayBecomeChunkLine other → ⊥
never_line stream more other rest is le never m =
    let mid = drop (length stream) other in
    never (mid ++ m.0) m.1 [] (m.2.0, sym (append_assoc stream mid m.0) ∙ ap (λ l. l ++ m.0) (sym (goes_on stream more other rest is le)) ∙ m.2.1)

never_section : (stream more other rest : List ℕ) → stream ++ more ≡ other ++ rest → length stream ≤ length other → NeverHasSection stream → MayBecomeSection other → ⊥
never_section stream more other rest is le never m =
    let mid = drop (length stream) other in
    never (mid ++ m.0) m.1 m.2 [] (m.3.0, sym (append_assoc stream mid m.0) ∙ ap (λ l. l ++ m.0) (sym (goes_on stream more other rest is le)) ∙ m.3.1)

-- ---- heads, chunk lines, trailer parts

head_alike : (stream more other rest : List ℕ) (e f : EdgeError) → stream ++ more ≡ other ++ rest → MayFollow e more → MayFollow f rest → BreaksHead stream e → BreaksHead other f → Alike e f
head_alike stream more other rest BadHead BadHead is on off x y = refl
head_alike stream more other rest BadHead TooManyFields is on off x y = tt
head_alike stream more other rest BadHead HeadTooLong is on off x y = let short = x.0 in let full = y.0 in absurd (never_head stream more other rest is (omega arith) x.1 y.2)
head_alike stream more other rest BadHead (CutShort m) is on off x y = absurd (never_head stream more other rest is (longer stream more other rest is off) x.1 y.2)
head_alike stream more other rest BadHead f is on off x y = absurd y
head_alike stream more other rest TooManyFields BadHead is on off x y = tt
head_alike stream more other rest TooManyFields TooManyFields is on off x y = refl
head_alike stream more other rest TooManyFields HeadTooLong is on off x y = tt
head_alike stream more other rest TooManyFields (CutShort m) is on off x y = tt
head_alike stream more other rest TooManyFields f is on off x y = absurd y
head_alike stream more other rest HeadTooLong BadHead is on off x y = let full = x.0 in let short = y.0 in absurd (never_head other rest stream more (sym is) (omega arith) y.1 x.2)
head_alike stream more other rest HeadTooLong TooManyFields is on off x y = tt
head_alike stream more other rest HeadTooLong HeadTooLong is on off x y = refl
head_alike stream more other rest HeadTooLong (CutShort m) is on off x y = absurd (full_not_cut stream more other rest is x.0 y.0 off)
head_alike stream more other rest HeadTooLong f is on off x y = absurd y
head_alike stream more other rest (CutShort n) BadHead is on off x y = absurd (never_head other rest stream more (sym is) (longer other rest stream more (sym is) on) y.1 x.2)
head_alike stream more other rest (CutShort n) TooManyFields is on off x y = tt
head_alike stream more other rest (CutShort n) HeadTooLong is on off x y = absurd (full_not_cut other rest stream more (sym is) y.0 x.0 on)
head_alike stream more other rest (CutShort n) (CutShort m) is on off x y = tt
head_alike stream more other rest (CutShort n) f is on off x y = absurd y
head_alike stream more other rest e f is on off x y = absurd x

trailer_alike : (stream more other rest : List ℕ) (e f : EdgeError) → stream ++ more ≡ other ++ rest → MayFollow e more → MayFollow f rest → BreaksTrailer stream e → BreaksTrailer other f → Alike e f
trailer_alike stream more other rest BadHead BadHead is on off x y = refl
trailer_alike stream more other rest BadHead TooManyFields is on off x y = tt
trailer_alike stream more other rest BadHead HeadTooLong is on off x y = let short = x.0 in let full = y.0 in absurd (never_section stream more other rest is (omega arith) x.1 y.2)
trailer_alike stream more other rest BadHead (CutShort m) is on off x y = absurd (never_section stream more other rest is (longer stream more other rest is off) x.1 y.2)
trailer_alike stream more other rest BadHead f is on off x y = absurd y
trailer_alike stream more other rest TooManyFields BadHead is on off x y = tt
trailer_alike stream more other rest TooManyFields TooManyFields is on off x y = refl
trailer_alike stream more other rest TooManyFields HeadTooLong is on off x y = tt
trailer_alike stream more other rest TooManyFields (CutShort m) is on off x y = tt
trailer_alike stream more other rest TooManyFields f is on off x y = absurd y
trailer_alike stream more other rest HeadTooLong BadHead is on off x y = let full = x.0 in let short = y.0 in absurd (never_section other rest stream more (sym is) (omega arith) y.1 x.2)
trailer_alike stream more other rest HeadTooLong TooManyFields is on off x y = tt
trailer_alike stream more other rest HeadTooLong HeadTooLong is on off x y = refl
trailer_alike stream more other rest HeadTooLong (CutShort m) is on off x y = absurd (full_not_cut stream more other rest is x.0 y.0 off)
trailer_alike stream more other rest HeadTooLong f is on off x y = absurd y
trailer_alike stream more other rest (CutShort n) BadHead is on off x y = absurd (never_section other rest stream more (sym is) (longer other rest stream more (sym is) on) y.1 x.2)
trailer_alike stream more other rest (CutShort n) TooManyFields is on off x y = tt
trailer_alike stream more other rest (CutShort n) HeadTooLong is on off x y = absurd (full_not_cut other rest stream more (sym is) y.0 x.0 on)
trailer_alike stream more other rest (CutShort n) (CutShort m) is on off x y = tt
trailer_alike stream more other rest (CutShort n) f is on off x y = absurd y
trailer_alike stream more other rest e f is on off x y = absurd x

line_alike : (stream more other rest : List ℕ) (e f : EdgeError) → stream ++ more ≡ other ++ rest → MayFollow e more → MayFollow f rest → BreaksLine stream e → BreaksLine other f → Alike e f
line_alike stream more other rest BadLength BadLength is on off x y = refl
line_alike stream more other rest BadLength HeadTooLong is on off x y = let short = x.0 in let full = y.0 in absurd (never_line stream more other rest is (omega arith) x.1 y.2)
line_alike stream more other rest BadLength (CutShort m) is on off x y = absurd (never_line stream more other rest is (longer stream more other rest is off) x.1 y.2)
line_alike stream more other rest BadLength f is on off x y = absurd y
line_alike stream more other rest HeadTooLong BadLength is on off x y = let full = x.0 in let short = y.0 in absurd (never_line other rest stream more (sym is) (omega arith) y.1 x.2)
line_alike stream more other rest HeadTooLong HeadTooLong is on off x y = refl
line_alike stream more other rest HeadTooLong (CutShort m) is on off x y = absurd (full_not_cut stream more other rest is x.0 y.0 off)
line_alike stream more other rest HeadTooLong f is on off x y = absurd y
line_alike stream more other rest (CutShort n) BadLength is on off x y = absurd (never_line other rest stream more (sym is) (longer other rest stream more (sym is) on) y.1 x.2)
line_alike stream more other rest (CutShort n) HeadTooLong is on off x y = absurd (full_not_cut other rest stream more (sym is) y.0 x.0 on)
line_alike stream more other rest (CutShort n) (CutShort m) is on off x y = tt
line_alike stream more other rest (CutShort n) f is on off x y = absurd y
line_alike stream more other rest e f is on off x y = absurd x

-- ---- the bytes of a chunk

-- what isn't CR LF, whatever follows, isn't a prefix of it either
cut_or_never : (bytes : List ℕ) → IsCutEnd bytes → NeverEndsLine bytes → ⊥
cut_or_never bytes (inl e) never = never crlf_bytes [] (ap (λ l. l ++ crlf_bytes) e)
cut_or_never bytes (inr e) never = never (10 ∷ []) [] (ap (λ l. l ++ 10 ∷ []) e)

-- the beginning of a cut end is one
cut_front : (front rest : List ℕ) → IsCutEnd (front ++ rest) → IsCutEnd front
cut_front [] rest c = inl refl
cut_front (x ∷ []) rest (inl e) = let a = ap length e in absurd (omega arith)
cut_front (x ∷ []) rest (inr e) = let head : x ≡ 13 = cc in inr (ap (λ y. y ∷ []) head)
cut_front (x ∷ y ∷ l) rest (inl e) = let a = ap length e in absurd (omega arith)
cut_front (x ∷ y ∷ l) rest (inr e) = let a = ap length e in absurd (omega arith)

-- an end that is cut, and one that is wrong
end_apart : (size : ℕ) (stream more other rest : List ℕ) → stream ++ more ≡ other ++ rest → more ≡ [] → IsCutEnd (drop size stream) → size < length other → NeverEndsLine (drop size other) → ⊥
end_apart size stream more other rest is none cut within never =
    let le = longer other rest stream more (sym is) none in
    let same : stream ≡ other ++ rest = sym (append-nil stream) ∙ ap (λ l. stream ++ l) (sym none) ∙ is in
    let behind : drop size stream ≡ drop size other ++ rest = ap (drop size) same ∙ drop_within size other rest (omega arith) in
    cut_or_never (drop size other) (cut_front (drop size other) rest (subst IsCutEnd behind cut)) never
  where
    drop_within : (n : ℕ) (l more : List ℕ) → n ≤ length l → drop n (l ++ more) ≡ drop n l ++ more
    drop_within zero l more le = refl
    drop_within (suc n) [] more le = absurd (omega arith)
    drop_within (suc n) (x ∷ l) more le = drop_within n l more (omega arith)

data_alike : (have size : ℕ) (stream more other rest : List ℕ) (e f : EdgeError) → stream ++ more ≡ other ++ rest → MayFollow e more → MayFollow f rest → BreaksData have size stream e → BreaksData have size other f → Alike e f
data_alike have size stream more other rest (BodyTooLong n) (BodyTooLong m) is on off x y = ap (λ k. BodyTooLong k) (x.1 ∙ sym y.1)
data_alike have size stream more other rest (BodyTooLong n) (CutShort m) is on off x y = let over = x.0 in let fits = y.0 in absurd (omega arith)
data_alike have size stream more other rest (BodyTooLong n) BadLength is on off x y = let over = x.0 in let fits = y.0 in absurd (omega arith)
data_alike have size stream more other rest (BodyTooLong n) f is on off x y = absurd y
data_alike have size stream more other rest (CutShort n) (BodyTooLong m) is on off x y = let over = y.0 in let fits = x.0 in absurd (omega arith)
data_alike have size stream more other rest (CutShort n) (CutShort m) is on off x y = tt
data_alike have size stream more other rest (CutShort n) BadLength is on off x y = absurd (end_apart size stream more other rest is on x.1 y.1 y.2)
data_alike have size stream more other rest (CutShort n) f is on off x y = absurd y
data_alike have size stream more other rest BadLength (BodyTooLong m) is on off x y = let over = y.0 in let fits = x.0 in absurd (omega arith)
data_alike have size stream more other rest BadLength (CutShort m) is on off x y = absurd (end_apart size other rest stream more (sym is) off y.1 x.1 x.2)
data_alike have size stream more other rest BadLength BadLength is on off x y = refl
data_alike have size stream more other rest BadLength f is on off x y = absurd y
data_alike have size stream more other rest e f is on off x y = absurd x

-- ---- chunks

behind_alike : (have size : ℕ) (stream more other rest : List ℕ) (e f : EdgeError) → stream ++ more ≡ other ++ rest → MayFollow e more → MayFollow f rest → BreaksBehindLine have size stream e → BreaksBehindLine have size other f → Alike e f
behind_alike have size stream more other rest e f is on off (inl x) (inl y) = trailer_alike stream more other rest e f is on off x.1 y.1
behind_alike have size stream more other rest e f is on off (inl x) (inr y) = let none = x.0 in let some = y.0 in absurd (omega arith)
behind_alike have size stream more other rest e f is on off (inr x) (inl y) = let some = x.0 in let none = y.0 in absurd (omega arith)
behind_alike have size stream more other rest e f is on off (inr x) (inr y) = data_alike have size stream more other rest e f is on off x.1 y.1

chunk_alike : (have : ℕ) (stream more other rest : List ℕ) (e f : EdgeError) → stream ++ more ≡ other ++ rest → MayFollow e more → MayFollow f rest → BreaksChunk have stream e → BreaksChunk have other f → Alike e f
chunk_alike have stream more other rest e f is on off (inl x) (inl y) = line_alike stream more other rest e f is on off x y
chunk_alike have stream more other rest e f is on off (inl x) (inr y) =
    let reads = ReadsChunkLine-append other y.0 y.1 rest y.2 in
    absurd (line_excluded stream more y.0 (y.1 ++ rest) e on x (reads.0, is ∙ reads.1) y.3)
chunk_alike have stream more other rest e f is on off (inr x) (inl y) =
    let reads = ReadsChunkLine-append stream x.0 x.1 more x.2 in
    absurd (line_excluded other rest x.0 (x.1 ++ more) f off y (reads.0, sym is ∙ reads.1) x.3)
chunk_alike have stream more other rest e f is on off (inr x) (inr y) =
    let reads = ReadsChunkLine-append other y.0 y.1 rest y.2 in
    let lines = chunk_line_unique (stream ++ more) x.0 y.0 (x.1 ++ more) (y.1 ++ rest) (ReadsChunkLine-append stream x.0 x.1 more x.2) (reads.0, is ∙ reads.1) in
    behind_alike have (chunk_size y.0) x.1 more y.1 rest e f lines.1 on off (subst (λ n. BreaksBehindLine have n x.1 e) (ap chunk_size lines.0) x.4) y.4

chunks_alike :
    (ds cs : List Chunk) (have : ℕ) (stream more other rest : List ℕ) (e f : EdgeError)
    → MayFollow e more → MayFollow f rest → All IsChunk ds → All IsChunk cs → have + length (joined ds) ≤ most_body → have + length (joined cs) ≤ most_body
    → print_chunks ds ++ (stream ++ more) ≡ print_chunks cs ++ (other ++ rest)
    → BreaksChunk (have + length (joined ds)) stream e → BreaksChunk (have + length (joined cs)) other f → Alike e f
chunks_alike [] [] have stream more other rest e f on off p q small little is x y = chunk_alike (have + length (joined [])) stream more other rest e f is on off x y
chunks_alike [] (c ∷ cs) have stream more other rest e f on off p q small little is x y =
    let a = length-append c.bytes (joined cs) in
    absurd (chunk_excluded (have + length (joined [])) stream more (print_chunks cs ++ (other ++ rest)) c e on x (All-head IsChunk c cs q) (omega arith) (first_of_chunks c cs (stream ++ more) (other ++ rest) is))
chunks_alike (d ∷ ds) [] have stream more other rest e f on off p q small little is x y =
    let a = length-append d.bytes (joined ds) in
    absurd (chunk_excluded (have + length (joined [])) other rest (print_chunks ds ++ (stream ++ more)) d f off y (All-head IsChunk d ds p) (omega arith) (first_of_chunks d ds (other ++ rest) (stream ++ more) (sym is)))
chunks_alike (d ∷ ds) (c ∷ cs) have stream more other rest e f on off p q small little is x y =
    let whole = print_chunks (d ∷ ds) ++ (stream ++ more) in
    let first = first_chunk whole d c (print_chunks ds ++ (stream ++ more)) (print_chunks cs ++ (other ++ rest)) (All-head IsChunk d ds p) (All-head IsChunk c cs q)
    (first_of_chunks d ds whole (stream ++ more) refl) (first_of_chunks c cs whole (other ++ rest) is) in
    let a = length-append d.bytes (joined ds) in
    let b = length-append c.bytes (joined cs) in
    let long = ap length first.0 in
    let sum : have + length (joined (d ∷ ds)) ≡ have + length d.bytes + length (joined ds) = omega arith in
    let total : have + length (joined (c ∷ cs)) ≡ have + length d.bytes + length (joined cs) = omega arith in
    chunks_alike ds cs (have + length d.bytes) stream more other rest e f on off (All-tail IsChunk d ds p) (All-tail IsChunk c cs q) (omega arith) (omega arith) first.1
    (subst (λ n. BreaksChunk n stream e) sum x) (subst (λ n. BreaksChunk n other f) total y)

-- ---- bodies and replies

body_alike : (form : BodyForm) (stream more other rest : List ℕ) (e f : EdgeError) → stream ++ more ≡ other ++ rest → MayFollow e more → MayFollow f rest → BreaksBody form stream e → BreaksBody form other f → Alike e f
body_alike (BySize n) stream more other rest (CutShort j) (CutShort k) is on off x y = tt
body_alike (BySize n) stream more other rest (CutShort j) f is on off x y = absurd y
body_alike (BySize n) stream more other rest e f is on off x y = absurd x
body_alike ByChunks stream more other rest e f is on off x y =
    let there : print_chunks x.0 ++ (x.1 ++ more) ≡ print_chunks y.0 ++ (y.1 ++ rest) =
    sym (append_assoc (print_chunks x.0) x.1 more) ∙ ap (λ l. l ++ more) (sym x.3) ∙ is ∙ ap (λ l. l ++ rest) y.3 ∙ append_assoc (print_chunks y.0) y.1 rest in
    chunks_alike x.0 y.0 0 x.1 more y.1 rest e f on off x.2 y.2 x.5 y.5 there x.4 y.4
body_alike ToEnd stream more other rest (BodyTooLong j) (BodyTooLong k) is on off x y = ap (λ n. BodyTooLong n) (x.0 ∙ sym y.0)
body_alike ToEnd stream more other rest (BodyTooLong j) f is on off x y = absurd y
body_alike ToEnd stream more other rest e f is on off x y = absurd x

refused_alike : (head : ResponseHead) (e f : EdgeError) → RefusesHead head e → RefusesHead head f → Alike e f
refused_alike head BadHead BadHead x y = refl
refused_alike head BadHead f x y = let final = y.0 in absurd (omega (arith, x, final))
refused_alike head e BadHead x y = let final = x.0 in absurd (omega (arith, y, final))
refused_alike head e f x y = alike_same e f (errors_same (form_of head) e f x.1 y.1)
  where
    errors_same : (form : Result BodyForm EdgeError) (e f : EdgeError) → form ≡ Err e → form ≡ Err f → e ≡ f
    errors_same form e f p q = let both : ◌≡◌ {A = Result BodyForm EdgeError} (Err e) (Err f) = sym p ∙ q in cc

-- what is wrong by one head, or behind it
after_head : (head : ResponseHead) (stream more other rest : List ℕ) (e f : EdgeError) → stream ++ more ≡ other ++ rest → MayFollow e more → MayFollow f rest
    → RefusesHead head e ⊎ BreaksBehind head stream e → RefusesHead head f ⊎ BreaksBehind head other f → Alike e f
after_head head stream more other rest e f is on off (inl x) (inl y) = refused_alike head e f x y
after_head head stream more other rest e f is on off (inl x) (inr y) = absurd (not_refused head y.0 e x y.1 y.2)
after_head head stream more other rest e f is on off (inr x) (inl y) = absurd (not_refused head x.0 f y x.1 x.2)
after_head head stream more other rest e f is on off (inr x) (inr y) =
    let forms : x.0 ≡ y.0 = form_same x.0 y.0 (sym x.2 ∙ y.2) in
    body_alike y.0 stream more other rest e f is on off (subst (λ (m : BodyForm). BreaksBody m stream e) forms x.3) y.3

starts_on : (stream more other rest : List ℕ) (h : ResponseHead) (behind : List ℕ) → stream ++ more ≡ other ++ rest → StartsWithReply other h behind → StartsWithReply (stream ++ more) h (behind ++ rest)
starts_on stream more other rest h behind is s =
    let reads = ReadsResponse-append other h behind rest s.reads in
    record { reads = (reads.0, is ∙ reads.1); short = s.short; few = s.few }

cause_alike : (stream more other rest : List ℕ) (e f : EdgeError) → stream ++ more ≡ other ++ rest → MayFollow e more → MayFollow f rest → Breaks stream e → Breaks other f → Alike e f
cause_alike stream more other rest e f is on off (inl x) (inl y) = head_alike stream more other rest e f is on off x y
cause_alike stream more other rest e f is on off (inl x) (inr y) = absurd (head_excluded stream more y.0 (y.1 ++ rest) e on x (starts_on stream more other rest y.0 y.1 is y.2))
cause_alike stream more other rest e f is on off (inr x) (inl y) = absurd (head_excluded other rest x.0 (x.1 ++ more) f off y (starts_on other rest stream more x.0 x.1 (sym is) x.2))
cause_alike stream more other rest e f is on off (inr x) (inr y) =
    let same = heads_same stream more x.0 y.0 x.1 (y.1 ++ rest) x.2 (starts_on stream more other rest y.0 y.1 is y.2) in
    after_head y.0 x.1 more y.1 rest e f same.1 on off (subst (λ (h : ResponseHead). RefusesHead h e ⊎ BreaksBehind h x.1 e) same.0 x.3) y.3

-- ---- the whole input

-- the cause of a named error
cause_of : (stream : List ℕ) (e : EdgeError) → IsNamed e → HasNoReading stream None None e → Breaks stream e
cause_of stream (CutShort n) named c = c.2
cause_of stream ConnFault named c = absurd named
cause_of stream OutOfMemory named c = absurd named
cause_of stream BadHead named c = c
cause_of stream HeadTooLong named c = c
cause_of stream TooManyFields named c = c
cause_of stream Chunked named c = c
cause_of stream BadLength named c = c
cause_of stream (BodyTooLong n) named c = c

-- an input is cut where it ends
cut_where : (input stream more : List ℕ) (n : ℕ) → input ≡ stream ++ more → more ≡ [] → n ≡ length stream → n ≡ length input
cut_where input stream more n is none count = count ∙ ap length (sym (append-nil stream)) ∙ ap (λ l. length (stream ++ l)) (sym none) ∙ ap length (sym is)

agree_from : (input : List ℕ) (e f : EdgeError) → InputBreaks input e → InputBreaks input f → Alike e f → AgreesWith e f
agree_from input (CutShort n) (CutShort m) x y a =
    ap (λ k. CutShort k) (cut_where input x.stream x.more n x.is x.behind x.cause.0 ∙ sym (cut_where input y.stream y.more m y.is y.behind y.cause.0))
agree_from input e f x y a = a

pub one_error : GivesOneError
one_error input e f named too x y =
    agree_from input e f x y (cause_alike x.stream x.more y.stream y.more e f (sym x.is ∙ y.is) x.behind y.behind (cause_of x.stream e named x.cause) (cause_of y.stream f too y.cause))
