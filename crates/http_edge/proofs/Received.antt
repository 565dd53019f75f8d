-- What a reader has received, and what it gives.
use Rattle.std.proofs.Common.{refl, sym, ap, subst, ◌∙◌, ◌≡◌, ◌<◌, ℕ, List, [], ◌∷◌, ◌++◌, length, Option, Some, None, Result, Ok, Err, inl, append_assoc, arith}
use Rattle.std.proofs.lemmas.List.{append-nil}
use Rattle.httparse.specs.Grammar.{HasNoRequest, MayBecomeRequest}
use Rattle.actor_ports.specs.Traffic.{Traffic}
use Rattle.http_edge.specs.declared.head.Head.{Head}
use Rattle.http_edge.specs.declared.message.HttpRequest.{HttpRequest}
use Rattle.http_edge.specs.declared.error.EdgeError.{EdgeError}
use Rattle.http_edge.specs.declared.error.EdgeError.TheVariants.{BadHead, HeadTooLong, TooManyFields, Chunked, BadLength, BodyTooLong, CutShort, ConnFault, OutOfMemory}
use Rattle.http_edge.specs.Carry.{Over, AtEnd, Reads}
use Rattle.http_edge.specs.Fields.{most_head}
use Rattle.http_edge.specs.Requests.{Refuses, Gives, ReadsNext}
use Rattle.http_edge.specs.Steps.{HeadGives, AwaitsHead, EndsAt}
use Rattle.http_edge.proofs.Carried.{over_nothing, over_then, end_told, told_along}

-- the new bytes are the old ones and those that came over the connection
abbrev pub Came : List ℕ → List ℕ → Option Traffic → Option Traffic → Type 0
Came old new a b = (got : List ℕ) × (new ≡ old ++ got) × Over a b (record { read = got; written = [] })

pub came_none : (old : List ℕ) (a : Option Traffic) → Came old old a a
came_none old a = ([], sym (append-nil old), over_nothing a)

pub came_more : (old mid new : List ℕ) (a b d : Option Traffic) (n : ℕ) → Came old mid a b → Reads b d mid new (Ok n) → Came old new a d
came_more old mid new a b d n read more = (
  read.0 ++ more.0,
  more.2 ∙ ap (λ m. m ++ more.0) read.1 ∙ append_assoc old read.0 more.0,
  over_then a b d (record { read = read.0; written = [] }) (record { read = more.0; written = [] }) read.2 more.3,
)

pub empty_list : (l : List ℕ) → length l ≡ 0 → l ≡ []
empty_list [] e = refl
empty_list (x ∷ xs) e = absurd (omega arith)

-- at the end nothing came
pub same_at_end : (mid new : List ℕ) (b d : Option Traffic) → Reads b d mid new (Ok 0) → new ≡ mid
same_at_end mid new b d more = more.2 ∙ ap (λ x. mid ++ x) (empty_list more.0 more.1) ∙ append-nil mid

pub at_end : (old mid new : List ℕ) (a b d : Option Traffic) → Came old mid a b → Reads b d mid new (Ok 0) → AtEnd a d
at_end old mid new a b d read more = told_along a b d (record { read = read.0; written = [] }) read.2 (more.4 refl)

-- ---- the head

-- the input ended without a head
pub ended_gives :
    (old mid new : List ℕ) (a b d : Option Traffic) (result : Result (Option Head) EdgeError)
    → HasNoRequest mid × MayBecomeRequest mid → length mid < most_head → Came old mid a b → Reads b d mid new (Ok 0) → EndsAt (length new) result → HeadGives new a d result
ended_gives old mid new a b d (Ok None) none short read more e = (empty_list new e, at_end old mid new a b d read more)
ended_gives old mid new a b d (Ok (Some h)) none short read more e = absurd e
ended_gives old mid new a b d (Err (CutShort n)) none short read more e =
    let same = same_at_end mid new b d more in
    (e.0, e.1, at_end old mid new a b d read more, inl (subst (λ l. length l < most_head) (sym same) short, subst HasNoRequest (sym same) none.0, subst MayBecomeRequest (sym same) none.1))
ended_gives old mid new a b d (Err BadHead) none short read more e = absurd e
ended_gives old mid new a b d (Err HeadTooLong) none short read more e = absurd e
ended_gives old mid new a b d (Err TooManyFields) none short read more e = absurd e
ended_gives old mid new a b d (Err Chunked) none short read more e = absurd e
ended_gives old mid new a b d (Err BadLength) none short read more e = absurd e
ended_gives old mid new a b d (Err (BodyTooLong n)) none short read more e = absurd e
ended_gives old mid new a b d (Err ConnFault) none short read more e = absurd e
ended_gives old mid new a b d (Err OutOfMemory) none short read more e = absurd e

pub awaits_from : (old new : List ℕ) (a b : Option Traffic) (result : Result (Option Head) EdgeError) → Came old new a b → HeadGives new a b result → AwaitsHead old new a b result
awaits_from old new a b result came gives = (came.0, came.1, came.2, gives)

-- ---- one step after the other

refuses_along : (stream : List ℕ) (a b d : Option Traffic) (got : List ℕ) (e : EdgeError) → Over a b (record { read = got; written = [] }) → Refuses stream b d e → Refuses stream a d e
refuses_along stream a b d got BadHead o r = r
refuses_along stream a b d got HeadTooLong o r = r
refuses_along stream a b d got TooManyFields o r = r
refuses_along stream a b d got Chunked o r = r
refuses_along stream a b d got BadLength o r = r
refuses_along stream a b d got (BodyTooLong n) o r = r
refuses_along stream a b d got (CutShort n) o r = (r.0, r.1, end_told a b d got o r.2, r.3)
refuses_along stream a b d got ConnFault o r = tt
refuses_along stream a b d got OutOfMemory o r = tt

gives_along : (stream kept : List ℕ) (a b d : Option Traffic) (got : List ℕ) (result : Result (Option HttpRequest) EdgeError) → Over a b (record { read = got; written = [] }) → Gives stream kept b d result → Gives stream kept a d result
gives_along stream kept a b d got (Ok (Some q)) o g = g
gives_along stream kept a b d got (Ok None) o g = (g.0, end_told a b d got o g.1)
gives_along stream kept a b d got (Err e) o g = refuses_along stream a b d got e o g

-- a head came, and then what its body gives
pub then_next :
    (old mid new : List ℕ) (a b d : Option Traffic) (h : Head) (result : Result (Option HttpRequest) EdgeError)
    → AwaitsHead old mid a b (Ok (Some h)) → ReadsNext mid new b d result → ReadsNext old new a d result
then_next old mid new a b d h result w n = (
  w.0 ++ n.0,
  over_then a b d (record { read = w.0; written = [] }) (record { read = n.0; written = [] }) w.2 n.1,
  subst (λ m. Gives m new a d result) (ap (λ m. m ++ n.0) w.1 ∙ append_assoc old w.0 n.0) (gives_along (mid ++ n.0) new a b d w.0 result w.2 n.2),
)
