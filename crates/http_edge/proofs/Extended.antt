-- Streams that grow, and the causes of errors that hold of them.
use Rattle.std.proofs.Common.{refl, sym, ap, subst, ◌∙◌, ◌≡◌, ◌<◌, ◌≤◌, ◌+◌, inl, inr, ℕ, List, [], ◌++◌, length, Option, Err, append_assoc, arith}
use Rattle.std.proofs.lemmas.List.{append-nil}
use Rattle.actor_ports.specs.Traffic.{Traffic}
use Rattle.http_edge.specs.declared.parts.Part.{Part}
use Rattle.http_edge.specs.declared.parts.Part.TheVariants.{Line, DataEnd, Trailer}
use Rattle.http_edge.specs.declared.error.EdgeError.{EdgeError}
use Rattle.http_edge.specs.declared.error.EdgeError.TheVariants.{BadHead, HeadTooLong, TooManyFields, Chunked, BadLength, BodyTooLong, CutShort, ConnFault, OutOfMemory}
use Rattle.http_edge.specs.Fields.{most_head}
use Rattle.http_edge.specs.Replies.{IsCutEnd, Fails}
use Rattle.http_edge.specs.Arrivals.{Arrived, Extends, FetchGives, Fetches, LooksAtReply, BreaksAtHead, MayHavePart, LooksAtPart, BreaksPart}
use Rattle.http_edge.proofs.Carried.{over_nothing, over_then, end_told}

pub extends_none : (old : List ℕ) (a : Option Traffic) → Extends old a a old
extends_none old a = ([], sym (append-nil old), over_nothing a)

-- behind a prefix that was taken, more came
pub extends_then : (old whole front mid stream : List ℕ) (a b d : Option Traffic) → Extends old a b whole → whole ≡ front ++ mid → Extends mid b d stream → Extends old a d (front ++ stream)
extends_then old whole front mid stream a b d x e y = (
  x.0 ++ y.0,
  ap (λ l. front ++ l) y.1 ∙ sym (append_assoc front mid y.0) ∙ ap (λ l. l ++ y.0) (sym e ∙ x.1) ∙ append_assoc old x.0 y.0,
  over_then a b d (record { read = x.0; written = [] }) (record { read = y.0; written = [] }) x.2 y.2,
)

pub extends_more : (old mid stream : List ℕ) (a b d : Option Traffic) → Extends old a b mid → Extends mid b d stream → Extends old a d stream
extends_more old mid stream a b d x y = extends_then old mid [] mid stream a b d x refl y

-- a cause that follows from the cause of a later call
pub fails_then : (Cause Other : EdgeError → Type 0) (n m : ℕ) (old mid : List ℕ) (a b d : Option Traffic) (e : EdgeError)
    → Extends old a b mid → ((x : EdgeError) → Cause x → Other x) → n ≡ m → Fails Cause n b d e → Fails Other m a d e
fails_then Cause Other n m old mid a b d BadHead x h same f = h BadHead f
fails_then Cause Other n m old mid a b d HeadTooLong x h same f = h HeadTooLong f
fails_then Cause Other n m old mid a b d TooManyFields x h same f = h TooManyFields f
fails_then Cause Other n m old mid a b d Chunked x h same f = h Chunked f
fails_then Cause Other n m old mid a b d BadLength x h same f = h BadLength f
fails_then Cause Other n m old mid a b d (BodyTooLong k) x h same f = h (BodyTooLong k) f
fails_then Cause Other n m old mid a b d (CutShort k) x h same f = (f.0 ∙ same, end_told a b d x.0 x.2 f.1, h (CutShort k) f.2)
fails_then Cause Other n m old mid a b d ConnFault x h same f = tt
fails_then Cause Other n m old mid a b d OutOfMemory x h same f = tt

pub fails_because : (Cause Other : EdgeError → Type 0) (n m : ℕ) (a b : Option Traffic) (e : EdgeError)
    → ((x : EdgeError) → Cause x → Other x) → n ≡ m → Fails Cause n a b e → Fails Other m a b e
fails_because Cause Other n m a b e h same f = fails_then Cause Other n m [] [] a a b e (extends_none [] a) h same f

-- ---- waiting for what begins a stream

fetch_fails : (T : Type 0) (Cause : List ℕ → EdgeError → Type 0) (old new : Arrived) (stream : List ℕ) (a b : Option Traffic) (e : EdgeError)
    → (length old.rest ≡ most_head → Cause old.rest HeadTooLong) → ((n : ℕ) → length old.rest < most_head → Cause old.rest (CutShort n))
    → FetchGives {T = T} old new stream a b (Err e) → Fails (Cause stream) (old.taken + length stream) a b e
fetch_fails T Cause old new stream a b BadHead full cut f = absurd f
fetch_fails T Cause old new stream a b HeadTooLong full cut f = subst (λ l. Cause l HeadTooLong) (sym f.0) (full f.1)
fetch_fails T Cause old new stream a b TooManyFields full cut f = absurd f
fetch_fails T Cause old new stream a b Chunked full cut f = absurd f
fetch_fails T Cause old new stream a b BadLength full cut f = absurd f
fetch_fails T Cause old new stream a b (BodyTooLong k) full cut f = absurd f
fetch_fails T Cause old new stream a b (CutShort k) full cut f = (f.2, f.3, subst (λ l. Cause l (CutShort k)) (sym f.0) (cut k f.1))
fetch_fails T Cause old new stream a b ConnFault full cut f = tt
fetch_fails T Cause old new stream a b OutOfMemory full cut f = tt

-- what has come so far may still become whole, and no more bytes came
pub wait_fails : (T : Type 0) (Cause : List ℕ → EdgeError → Type 0) (start old new : Arrived) (a b d : Option Traffic) (e : EdgeError)
    → Extends start.rest a b old.rest → old.taken ≡ start.taken
    → (length old.rest ≡ most_head → Cause old.rest HeadTooLong) → ((n : ℕ) → length old.rest < most_head → Cause old.rest (CutShort n))
    → Fetches {T = T} old new b d (Err e)
    → (stream : List ℕ) × Extends start.rest a d stream × Fails (Cause stream) (start.taken + length stream) a d e
wait_fails T Cause start old new a b d e x same full cut f = (
  f.0,
  extends_more start.rest old.rest f.0 a b d x f.1,
  fails_then (Cause f.0) (Cause f.0) (old.taken + length f.0) (start.taken + length f.0) start.rest old.rest a b d e x (λ _ y. y) (ap (λ n. n + length f.0) same)
      (fetch_fails T Cause old new f.0 b d e full cut f.2),
)

-- ---- the head

pub look_fails : (stream : List ℕ) (n : ℕ) (a b : Option Traffic) (e : EdgeError) → length stream ≤ most_head → LooksAtReply stream (Err e) → Fails (BreaksAtHead stream) n a b e
look_fails stream n a b BadHead short (inl f) = inl (short, f)
look_fails stream n a b BadHead short (inr f) = inr f
look_fails stream n a b HeadTooLong short f = absurd f
look_fails stream n a b TooManyFields short f = inl (short, f.0, f.1)
look_fails stream n a b Chunked short f = inr f
look_fails stream n a b BadLength short f = inr f
look_fails stream n a b (BodyTooLong k) short f = inr f
look_fails stream n a b (CutShort k) short f = absurd f
look_fails stream n a b ConnFault short f = absurd f
look_fails stream n a b OutOfMemory short f = tt

-- ---- the parts of a body in chunks

pub part_fails : (part : Part) (stream : List ℕ) (n : ℕ) (a b : Option Traffic) (e : EdgeError) → length stream ≤ most_head → LooksAtPart part stream (Err e) → Fails (BreaksPart part stream) n a b e
part_fails Line stream n a b BadHead short f = absurd f
part_fails Line stream n a b HeadTooLong short f = absurd f
part_fails Line stream n a b TooManyFields short f = absurd f
part_fails Line stream n a b Chunked short f = absurd f
part_fails Line stream n a b BadLength short f = (short, f)
part_fails Line stream n a b (BodyTooLong k) short f = absurd f
part_fails Line stream n a b (CutShort k) short f = absurd f
part_fails Line stream n a b ConnFault short f = absurd f
part_fails Line stream n a b OutOfMemory short f = absurd f
part_fails DataEnd stream n a b BadHead short f = absurd f
part_fails DataEnd stream n a b HeadTooLong short f = absurd f
part_fails DataEnd stream n a b TooManyFields short f = absurd f
part_fails DataEnd stream n a b Chunked short f = absurd f
part_fails DataEnd stream n a b BadLength short f = f
part_fails DataEnd stream n a b (BodyTooLong k) short f = absurd f
part_fails DataEnd stream n a b (CutShort k) short f = absurd f
part_fails DataEnd stream n a b ConnFault short f = absurd f
part_fails DataEnd stream n a b OutOfMemory short f = absurd f
part_fails Trailer stream n a b BadHead short f = (short, f)
part_fails Trailer stream n a b HeadTooLong short f = absurd f
part_fails Trailer stream n a b TooManyFields short f = (short, f.0, f.1)
part_fails Trailer stream n a b Chunked short f = absurd f
part_fails Trailer stream n a b BadLength short f = absurd f
part_fails Trailer stream n a b (BodyTooLong k) short f = absurd f
part_fails Trailer stream n a b (CutShort k) short f = absurd f
part_fails Trailer stream n a b ConnFault short f = absurd f
part_fails Trailer stream n a b OutOfMemory short f = absurd f

no_long_end : (stream : List ℕ) → IsCutEnd stream → length stream ≡ most_head → ⊥
no_long_end stream (inl e) full = let n = ap length e in omega (arith, n, full)
no_long_end stream (inr e) full = let n = ap length e in omega (arith, n, full)

pub part_full : (part : Part) (stream : List ℕ) → MayHavePart part stream → length stream ≡ most_head → BreaksPart part stream HeadTooLong
part_full Line stream may full = (full, may.0, may.1)
part_full DataEnd stream may full = absurd (no_long_end stream may full)
part_full Trailer stream may full = (full, may.0, may.1)

pub part_cut : (part : Part) (stream : List ℕ) (n : ℕ) → MayHavePart part stream → length stream < most_head → BreaksPart part stream (CutShort n)
part_cut Line stream n may short = (short, may.0, may.1)
part_cut DataEnd stream n may short = may
part_cut Trailer stream n may short = (short, may.0, may.1)
