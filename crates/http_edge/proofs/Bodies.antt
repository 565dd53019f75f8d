-- The body behind a head.
use Rattle.std.proofs.Common.{refl, sym, ap, ◌∙◌, ◌≡◌, ◌<◌, ◌≤◌, ◌+◌, ℕ, List, [], ◌∷◌, ◌++◌, length, map, take, drop, Option, Some, Ok, Err, ◌⊎◌, inl, inr, append_assoc, length-append, ⊎_elim, min, arith}
use Rattle.std.proofs.lemmas.List.{append-nil, take-append-drop, length-take-le, length-take, drop_all}
use Rattle.std.proofs.lemmas.Bool.{cases_lt as order}
use Rattle.httparse.specs.Grammar.{RequestHead, IsRequestHead, print_request, print_blank}
use Rattle.httparse.proofs.GrammarLemmas.{ReadsRequest-append, print_request-append}
use Rattle.actor_ports.specs.Traffic.{Traffic}
use Rattle.http_edge.specs.declared.head.Head.{Head}
use Rattle.http_edge.specs.declared.message.HttpRequest.{HttpRequest}
use Rattle.http_edge.specs.declared.error.EdgeError.{EdgeError}
use Rattle.http_edge.specs.declared.error.EdgeError.TheVariants.{BadHead, HeadTooLong, TooManyFields, Chunked, BadLength, BodyTooLong, CutShort, ConnFault, OutOfMemory}
use Rattle.http_edge.specs.Carry.{AtEnd}
use Rattle.http_edge.specs.Requests.{Refuses, ReadsNext, pair_of}
use Rattle.http_edge.specs.Steps.{IsHeadOf, Fills, FillsOver}

-- a head has at least one byte
some_byte : (p a b c : List ℕ) → p ++ [] ≡ a ++ (b ++ c) → 0 < length b → 0 < length p
some_byte p a b c e some = omega (arith, ap length (sym (append-nil p) ∙ e), length-append a (b ++ c), length-append b c, some)

pub head_has_byte : (h : RequestHead) → IsRequestHead h → 0 < length (print_request h)
head_has_byte h valid = some_byte (print_request h) (print_blank h.blank) h.method _ (print_request-append h []) valid.method.0

empty_list : (l : List ℕ) → length l ≡ 0 → l ≡ []
empty_list [] e = refl
empty_list (x ∷ xs) e = absurd (omega arith)

drop_front : (front behind : List ℕ) → drop (length front) (front ++ behind) ≡ behind
drop_front [] behind = refl
drop_front (x ∷ xs) behind = drop_front xs behind

-- what is behind a head
pub behind_head : (stream : List ℕ) (h : Head) (i : IsHeadOf stream h) → drop h.len stream ≡ i.behind
behind_head stream h i = ap (λ n. drop n stream) i.len ∙ ap (drop (length (print_request i.head))) i.starts.reads.1 ∙ drop_front (print_request i.head) i.behind

swap_empty : (p b x y : List ℕ) → (x ≡ []) ⊎ (y ≡ []) → (p ++ (b ++ x)) ++ y ≡ (p ++ (b ++ y)) ++ x
swap_empty p b x y (inl e) = rw (e, append-nil b, append-nil (p ++ (b ++ y))) (append_assoc p b y)
swap_empty p b x y (inr e) = rw (e, append-nil b, append-nil (p ++ (b ++ x))) (sym (append_assoc p b x))

-- none of the kept bytes are left, or nothing came
one_empty : (behind old got body : List ℕ) (size : ℕ) → old ≡ take size behind → body ≡ old ++ got → length body ≡ size → (drop size behind ≡ []) ⊎ (got ≡ [])
one_empty behind old got body size from is long =
    let a = ap length is in
    let b = length-append old got in
    let c = ap length from in
    let d = length-take size behind in
    ⊎_elim
    (λ (lt : length behind < size). inl (drop_all size behind (omega arith)))
    (λ (le : size ≤ length behind). let e = length-take-le size behind le in inr (empty_list got (omega arith)))
    (order (length behind) size)

-- the request is whole
pub whole_next :
    {T : Type 0} (x : T) (stream kept old body : List ℕ) (h : Head) (q : HttpRequest) (a b : Option Traffic) (i : IsHeadOf stream h)
    → old ≡ take h.size (drop h.len stream) → kept ≡ drop h.size (drop h.len stream) → FillsOver {T = T} h.len h.size old body a b (Ok x)
    → q.method ≡ h.method → q.target ≡ h.target → q.fields ≡ h.fields → q.close ≡ h.close → q.body ≡ body
    → ReadsNext stream kept a b (Ok (Some q))
whole_next x stream kept old body h q a b i from rest f method target fields close held =
    let head = print_request i.head in
    let front = take h.size i.behind in
    let back = drop h.size i.behind in
    let same = behind_head stream h i in
    let fro : old ≡ front = from ∙ ap (take h.size) same in
    let there : stream ≡ head ++ (front ++ back) = i.starts.reads.1 ∙ ap (λ l. head ++ l) (sym (take-append-drop h.size i.behind)) in
    let spelled : q.body ≡ front ++ f.0 = held ∙ f.1 ∙ ap (λ l. l ++ f.0) fro in (
      f.0,
      f.2,
      (
        head ++ q.body,
        record {
          head = i.head;
          valid = i.starts.reads.0;
          short = i.starts.short;
          few = i.starts.few;
          size = i.size ∙ ap (λ n. Ok n) (sym f.3 ∙ ap length (sym held));
          is = refl;
          method = method ∙ i.method;
          target = target ∙ i.target;
          fields = ap (λ l. map pair_of l) fields ∙ i.fields;
          close = close ∙ i.close;
        },
        ap (λ l. l ++ f.0) there ∙ swap_empty head front back f.0 (one_empty i.behind old f.0 body h.size fro f.1 f.3)
            ∙ ap (λ l. (head ++ l) ++ back) (sym spelled) ∙ ap (λ l. (head ++ q.body) ++ l) (sym (rest ∙ ap (drop h.size) same)),
      ),
    )

cut_body :
    (stream old got body : List ℕ) (n : ℕ) (h : Head) (a b : Option Traffic) (i : IsHeadOf stream h)
    → old ≡ take h.size i.behind → body ≡ old ++ got → (n ≡ h.len + length body) × (length body < h.size) × AtEnd a b
    → Refuses (stream ++ got) a b (CutShort n)
cut_body stream old got body n h a b i from is f =
    let one = ap length is in
    let two = length-append old got in
    let three = ap length from in
    let four = length-take h.size i.behind in
    let five = head_has_byte i.head i.starts.reads.0 in
    let six = ap length i.starts.reads.1 in
    let seven = length-append (print_request i.head) i.behind in
    let eight = length-append stream got in
    let nine = length-append i.behind got in
    let count = f.0 in
    let less = f.1 in
    let len = i.len in
    let all : length old ≡ length i.behind = min_all h.size (length i.behind) (length old) (three ∙ four) (omega arith) in (
      omega arith,
      omega arith,
      f.2,
      inr (
        i.head,
        i.behind ++ got,
        h.size,
        record { reads = ReadsRequest-append stream i.head i.behind got i.starts.reads; short = i.starts.short; few = i.starts.few },
        i.size,
        omega arith,
      ),
    )
  where
    min_all : (size long n : ℕ) → n ≡ min size long → n < size → n ≡ long
    min_all size long n e lt = omega (arith, e)

fails : (T : Type 0) (stream old got body : List ℕ) (h : Head) (a b : Option Traffic) (e : EdgeError) (i : IsHeadOf stream h)
    → old ≡ take h.size i.behind → body ≡ old ++ got → Fills {T = T} h.len h.size body a b (Err e) → Refuses (stream ++ got) a b e
fails T stream old got body h a b (CutShort n) i from is f = cut_body stream old got body n h a b i from is f
fails T stream old got body h a b ConnFault i from is f = tt
fails T stream old got body h a b OutOfMemory i from is f = tt
fails T stream old got body h a b BadHead i from is f = absurd f
fails T stream old got body h a b HeadTooLong i from is f = absurd f
fails T stream old got body h a b TooManyFields i from is f = absurd f
fails T stream old got body h a b Chunked i from is f = absurd f
fails T stream old got body h a b BadLength i from is f = absurd f
fails T stream old got body h a b (BodyTooLong n) i from is f = absurd f

-- the body isn't whole
pub failed_next :
    (T : Type 0) (stream kept old body : List ℕ) (h : Head) (a b : Option Traffic) (e : EdgeError) (i : IsHeadOf stream h)
    → old ≡ take h.size (drop h.len stream) → FillsOver {T = T} h.len h.size old body a b (Err e) → ReadsNext stream kept a b (Err e)
failed_next T stream kept old body h a b e i from f =
    (f.0, f.2, fails T stream old f.0 body h a b e i (from ∙ ap (take h.size) (behind_head stream h i)) f.1 f.3)
