-- All answers that one input gives agree.
use Rattle.std.proofs.Common.{refl, sym, ap, subst, ◌∙◌, ◌≡◌, ◌<◌, ◌≤◌, ◌⊎◌, inl, inr, ℕ, List, [], ◌∷◌, ◌++◌, length, drop, map, Option, Some, None, Result, Ok, Err, true, IfSome, append_assoc, length-append, arith}
use Rattle.std.proofs.lemmas.List.{append-nil}
use Rattle.std.proofs.lemmas.List.Elements.{All-nil, All-push}
use Rattle.std.proofs.lemmas.Str.{IsUtf8-from_ascii}
use Rattle.std.proofs.lemmas.Str.Ascii.{IsAscii-cons, IsAscii-nil}
use Rattle.actor_ports.specs.Traffic.{Traffic}
use Rattle.httparse.specs.Grammar.{RequestHead, IsRequestHead, ReadsRequest, HasNoRequest, NeverHasRequest, MayBecomeRequest, EndsInTarget, print_request, is_token_byte, is_uri_byte, lf}
use Rattle.httparse.specs.Spans.{RequestOverflows}
use Rattle.httparse.proofs.GrammarLemmas.{request_unique, ReadsRequest-append}
use Rattle.httparse.proofs.OpenLemmas.{letter_is_token}
use Rattle.http_edge.specs.declared.message.HttpRequest.{HttpRequest}
use Rattle.http_edge.specs.declared.error.EdgeError.{EdgeError}
use Rattle.http_edge.specs.declared.error.EdgeError.TheVariants.{BadHead, HeadTooLong, TooManyFields, Chunked, BadLength, BodyTooLong, CutShort, ConnFault, OutOfMemory}
use Rattle.http_edge.specs.Fields.{most_head, most_fields, body_told}
use Rattle.http_edge.specs.Carry.{Over}
use Rattle.http_edge.specs.Requests.{pair_of, pairs_of, closes, IsRequestText, StartsWithHead, RefusesBody, Refuses, Gives, ReadsNext}
use Rattle.http_edge.specs.Inputs.{IsByInput, MayBeBehind, InputGives, LeavesOpen, Agrees, IsAnswerTo, GivesOneAnswer}
use Rattle.http_edge.proofs.Bodies.{head_has_byte}
use Rattle.http_edge.proofs.Excluded.{front_within, fronts_same}
use Rattle.http_edge.proofs.OneReply.{fields_same}
use Rattle.http_edge.proofs.Left.{none_left}

abbrev Answer : Type 0
Answer = Result (Option HttpRequest) EdgeError

-- ---- the kinds of answers

-- the request has the parts of the head
record IsOfHead (head : RequestHead) (q : HttpRequest) : Type 0 where
  pub method : q.method ≡ head.method
  pub target : q.target ≡ head.target
  pub fields : map pair_of q.fields ≡ pairs_of head
  pub close : q.close ≡ closes head

-- the input begins with a whole head
data AtHead (input : List ℕ) (head : RequestHead) (behind : List ℕ) (answer : Answer) : Type 0 where
  asks : (q : HttpRequest) (rest : List ℕ) → answer ≡ Ok (Some q) → body_told (pairs_of head) ≡ Ok (length q.body) → behind ≡ q.body ++ rest → IsOfHead head q → AtHead input head behind answer
  refused : (e : EdgeError) → answer ≡ Err e → body_told (pairs_of head) ≡ Err e → AtHead input head behind answer
  cut : (size : ℕ) → answer ≡ Err (CutShort (length input)) → body_told (pairs_of head) ≡ Ok size → length behind < size → AtHead input head behind answer

record Whole (input : List ℕ) (answer : Answer) : Type 0 where
  pub head : RequestHead
  pub behind : List ℕ
  pub starts : StartsWithHead input head behind
  pub at : AtHead input head behind answer

-- it doesn't
data Headless (input : List ℕ) (answer : Answer) : Type 0 where
  nothing : answer ≡ Ok None → input ≡ [] → Headless input answer
  bad : (stream more : List ℕ) → answer ≡ Err BadHead → input ≡ stream ++ more → length stream ≤ most_head → NeverHasRequest stream → Headless input answer
  many : (stream more : List ℕ) → answer ≡ Err TooManyFields → input ≡ stream ++ more → RequestOverflows most_fields stream → Headless input answer
  long : (stream more : List ℕ) → answer ≡ Err HeadTooLong → input ≡ stream ++ more → length stream ≡ most_head → HasNoRequest stream → MayBecomeRequest stream → Headless input answer
  ends : answer ≡ Err (CutShort (length input)) → 0 < length input → length input < most_head → HasNoRequest input → MayBecomeRequest input → Headless input answer

-- ---- the kind of an answer

starts_more : (stream more : List ℕ) (head : RequestHead) (behind : List ℕ) → StartsWithHead stream head behind → StartsWithHead (stream ++ more) head (behind ++ more)
starts_more stream more head behind s = record { reads = ReadsRequest-append stream head behind more s.reads; short = s.short; few = s.few }

whole_refused : (input stream more : List ℕ) (e : EdgeError) → input ≡ stream ++ more → RefusesBody stream e → Whole input (Err e)
whole_refused input stream more e is f =
    record {
      head = f.0;
      behind = f.1 ++ more;
      starts = subst (λ l. StartsWithHead l f.0 (f.1 ++ more)) (sym is) (starts_more stream more f.0 f.1 f.2);
      at = refused e refl f.3;
    }

whole_asked : (input stream more kept text : List ℕ) (q : HttpRequest) → input ≡ stream ++ more → stream ≡ text ++ kept → IsRequestText text q → Whole input (Ok (Some q))
whole_asked input stream more kept text q is there t =
    let front = print_request t.head in
    let spelled : input ≡ front ++ (q.body ++ (kept ++ more)) =
    is ∙ ap (λ l. l ++ more) there ∙ append_assoc text kept more ∙ ap (λ l. l ++ (kept ++ more)) t.is ∙ append_assoc front q.body (kept ++ more) in
    record {
      head = t.head;
      behind = q.body ++ (kept ++ more);
      starts = record { reads = (t.valid, spelled); short = t.short; few = t.few };
      at = asks q (kept ++ more) refl t.size refl (record { method = t.method; target = t.target; fields = t.fields; close = t.close });
    }

cut_kind : (input stream more : List ℕ) (n : ℕ) → input ≡ stream ++ more → more ≡ [] → Refuses stream None None (CutShort n) → Whole input (Err (CutShort n)) ⊎ Headless input (Err (CutShort n))
cut_kind input stream more n is none f =
    let same : stream ≡ input = sym (append-nil stream) ∙ ap (λ l. stream ++ l) (sym none) ∙ sym is in
    let count : n ≡ length input = f.0 ∙ ap length same in
    let answer : ◌≡◌ {A = Answer} (Err (CutShort n)) (Err (CutShort (length input))) = ap (λ k. Err (CutShort k)) count in
    let some = f.1 in
    elim f.3 [
      | inl h ↦ inr (ends answer (omega arith) (subst (λ l. length l < most_head) same h.0) (subst HasNoRequest same h.1) (subst MayBecomeRequest same h.2))
      | inr b ↦ inl (record { head = b.0; behind = b.1; starts = subst (λ l. StartsWithHead l b.0 b.1) same b.3; at = cut b.2 answer b.4 b.5 })
    ]

kind : (input : List ℕ) (answer : Answer) → IsByInput answer → InputGives input answer → Whole input answer ⊎ Headless input answer
kind input (Ok (Some q)) given g = inl (whole_asked input g.stream g.more g.kept g.gives.0 q g.is g.gives.2 g.gives.1)
kind input (Ok None) given g = inr (nothing refl (g.is ∙ ap (λ l. l ++ g.more) g.gives.0 ∙ g.behind))
kind input (Err BadHead) given g = inr (bad g.stream g.more refl g.is g.gives.0 g.gives.1)
kind input (Err HeadTooLong) given g = inr (long g.stream g.more refl g.is g.gives.0 g.gives.1 g.gives.2)
kind input (Err TooManyFields) given g = inr (many g.stream g.more refl g.is g.gives.2)
kind input (Err Chunked) given g = inl (whole_refused input g.stream g.more Chunked g.is g.gives)
kind input (Err BadLength) given g = inl (whole_refused input g.stream g.more BadLength g.is g.gives)
kind input (Err (BodyTooLong n)) given g = inl (whole_refused input g.stream g.more (BodyTooLong n) g.is g.gives)
kind input (Err (CutShort n)) given g = cut_kind input g.stream g.more n g.is g.behind g.gives
kind input (Err ConnFault) given g = absurd given
kind input (Err OutOfMemory) given g = absurd given

-- ---- two answers of one kind

agrees_with_itself : (input : List ℕ) (answer : Answer) → Agrees input answer answer
agrees_with_itself input (Ok x) = refl
agrees_with_itself input (Err e) = inl refl

agrees_same : (input : List ℕ) (x y : Answer) → x ≡ y → Agrees input x y
agrees_same input x y e = subst (λ (a : Answer). Agrees input x a) e (agrees_with_itself input x)

agrees_as : (input : List ℕ) (x y v w : Answer) → x ≡ v → y ≡ w → Agrees input v w → Agrees input x y
agrees_as input x y v w e f a = subst (λ (m : Answer). Agrees input m y) (sym e) (subst (λ (m : Answer). Agrees input v m) (sym f) a)

request_same : (head : RequestHead) (q p : HttpRequest) → IsOfHead head q → IsOfHead head p → q.body ≡ p.body → q ≡ p
request_same head q p x y body =
    let method : q.method ≡ p.method = x.method ∙ sym y.method in
    let target : q.target ≡ p.target = x.target ∙ sym y.target in
    let fields : q.fields ≡ p.fields = fields_same q.fields p.fields (x.fields ∙ sym y.fields) in
    let close : q.close ≡ p.close = x.close ∙ sym y.close in
    λ i. record { method = method i; target = target i; fields = fields i; body = body i; close = close i }

-- a length told by one head
told_same : (head : RequestHead) (n m : ℕ) → body_told (pairs_of head) ≡ Ok n → body_told (pairs_of head) ≡ Ok m → n ≡ m
told_same head n m e f = let both : ◌≡◌ {A = Result ℕ EdgeError} (Ok n) (Ok m) = sym e ∙ f in cc

told_apart : (head : RequestHead) (n : ℕ) (e : EdgeError) → body_told (pairs_of head) ≡ Ok n → body_told (pairs_of head) ≡ Err e → ⊥
told_apart head n e f g = let both : ◌≡◌ {A = Result ℕ EdgeError} (Ok n) (Err e) = sym f ∙ g in cc

errors_same : (head : RequestHead) (e f : EdgeError) → body_told (pairs_of head) ≡ Err e → body_told (pairs_of head) ≡ Err f → e ≡ f
errors_same head e f g h = let both : ◌≡◌ {A = Result ℕ EdgeError} (Err e) (Err f) = sym g ∙ h in cc

not_cut : (head : RequestHead) (behind rest body : List ℕ) (size : ℕ) → body_told (pairs_of head) ≡ Ok (length body) → behind ≡ body ++ rest → body_told (pairs_of head) ≡ Ok size → length behind < size → ⊥
not_cut head behind rest body size told there other less =
    let a = told_same head (length body) size told other in
    let b = ap length there in
    let c = length-append body rest in
    omega arith

same_at_head : (input : List ℕ) (head : RequestHead) (behind : List ℕ) (x y : Answer) → AtHead input head behind x → AtHead input head behind y → x ≡ y
same_at_head input head behind x y (asks q rest is told there parts) (asks p other js told_too there_too parts_too) =
    let body : q.body ≡ p.body = (fronts_same q.body p.body rest other (sym there ∙ there_too) (told_same head (length q.body) (length p.body) told told_too)).0 in
    is ∙ ap (λ r. Ok (Some r)) (request_same head q p parts parts_too body) ∙ sym js
same_at_head input head behind x y (asks q rest is told there parts) (refused e js told_too) = absurd (told_apart head (length q.body) e told told_too)
same_at_head input head behind x y (asks q rest is told there parts) (cut size js told_too less) = absurd (not_cut head behind rest q.body size told there told_too less)
same_at_head input head behind x y (refused e is told) (asks p other js told_too there_too parts_too) = absurd (told_apart head (length p.body) e told_too told)
same_at_head input head behind x y (refused e is told) (refused f js told_too) = is ∙ ap (λ d. Err d) (errors_same head e f told told_too) ∙ sym js
same_at_head input head behind x y (refused e is told) (cut size js told_too less) = absurd (told_apart head size e told_too told)
same_at_head input head behind x y (cut size is told less) (asks p other js told_too there_too parts_too) = absurd (not_cut head behind other p.body size told_too there_too told less)
same_at_head input head behind x y (cut size is told less) (refused e js told_too) = absurd (told_apart head size e told told_too)
same_at_head input head behind x y (cut size is told less) (cut other js told_too less_too) = is ∙ sym js

whole_whole : (input : List ℕ) (x y : Answer) → Whole input x → Whole input y → Agrees input x y
whole_whole input x y v w =
    let same = request_unique input v.head w.head v.behind w.behind v.starts.reads w.starts.reads in
    let at : AtHead input w.head w.behind x = subst (λ (l : List ℕ). AtHead input w.head l x) same.1 (subst (λ (h : RequestHead). AtHead input h v.behind x) same.0 v.at) in
    agrees_same input x y (same_at_head input w.head w.behind x y at w.at)

-- ---- a whole head, and none

no_request : (stream more : List ℕ) (h : RequestHead) (rest : List ℕ) → HasNoRequest stream → ReadsRequest (stream ++ more) h rest → length (print_request h) ≤ length stream → ⊥
no_request stream more h rest none reads le = none h (drop (length (print_request h)) stream) (reads.0, front_within stream more (print_request h) rest reads.1 le)

reads_there : (input stream more : List ℕ) (h : RequestHead) (rest : List ℕ) → input ≡ stream ++ more → ReadsRequest input h rest → ReadsRequest (stream ++ more) h rest
reads_there input stream more h rest is reads = (reads.0, sym is ∙ reads.1)

whole_headless : (input : List ℕ) (x y : Answer) → Whole input x → Headless input y → ⊥
whole_headless input x y w (nothing is empty) =
    let a = ap length (sym empty ∙ w.starts.reads.1) in
    let b = length-append (print_request w.head) w.behind in
    let c = head_has_byte w.head w.starts.reads.0 in
    omega arith
whole_headless input x y w (bad stream more is there short never) = never more w.head w.behind (reads_there input stream more w.head w.behind there w.starts.reads)
whole_headless input x y w (many stream more is there over) =
    let a = over more w.head w.behind (reads_there input stream more w.head w.behind there w.starts.reads) in
    let b = w.starts.few in
    omega arith
whole_headless input x y w (long stream more is there full none may) =
    let a = w.starts.short in
    no_request stream more w.head w.behind none (reads_there input stream more w.head w.behind there w.starts.reads) (omega arith)
whole_headless input x y w (ends is some short none may) = none w.head w.behind w.starts.reads

-- ---- no whole head

-- a head that may follow an empty input
abbrev shortest : RequestHead
shortest = record { blank = []; method = 65 ∷ []; target = 47 ∷ []; minor = 1; line_end = lf; fields = []; last = lf }

shortest_is : IsRequestHead shortest
shortest_is = record {
  method = (omega arith, All-push (λ v. is_token_byte v ≡ true) [] 65 (All-nil _) letter_is_token);
  target = (omega arith, All-push (λ v. is_uri_byte v ≡ true) [] 47 (All-nil _) refl);
  target_text = IsUtf8-from_ascii _ (IsAscii-cons 47 [] (omega arith) IsAscii-nil);
  minor = omega arith;
  fields = All-nil _;
}

shortest_reads : ReadsRequest ([] ++ print_request shortest) shortest []
shortest_reads = (shortest_is, sym (append-nil (print_request shortest)))

front_empty : (input stream more : List ℕ) → input ≡ [] → input ≡ stream ++ more → stream ≡ []
front_empty input [] more none is = refl
front_empty input (x ∷ xs) more none is = let a = ap length (sym none ∙ is) in absurd (omega arith)

empty_not_bad : (input stream more : List ℕ) → input ≡ [] → input ≡ stream ++ more → NeverHasRequest stream → ⊥
empty_not_bad input stream more none is never =
    let nothing_never : NeverHasRequest [] = subst NeverHasRequest (front_empty input stream more none is) never in
    nothing_never (print_request shortest) shortest [] shortest_reads

empty_not_many : (input stream more : List ℕ) → input ≡ [] → input ≡ stream ++ more → RequestOverflows most_fields stream → ⊥
empty_not_many input stream more none is over =
    let nothing_over : RequestOverflows most_fields [] = subst (RequestOverflows most_fields) (front_empty input stream more none is) over in
    let a : most_fields < length shortest.fields = nothing_over (print_request shortest) shortest [] shortest_reads in
    omega arith

empty_not_long : (input stream more : List ℕ) → input ≡ [] → input ≡ stream ++ more → length stream ≡ most_head → ⊥
empty_not_long input stream more none is full = let a = ap length (front_empty input stream more none is) in omega (arith, full)

empty_not_ended : (input : List ℕ) → input ≡ [] → 0 < length input → ⊥
empty_not_ended input none some = let a = ap length none in omega arith

-- what is malformed stays so, so no head is whole behind it: its target is cut
cut_in_target : (stream more input : List ℕ) → input ≡ stream ++ more → NeverHasRequest stream → MayBecomeRequest input → EndsInTarget input
cut_in_target stream more input is never (inl m) = absurd (never (more ++ m.0) m.1 [] (m.2.0, sym (append_assoc stream more m.0) ∙ ap (λ l. l ++ m.0) (sym is) ∙ m.2.1))
cut_in_target stream more input is never (inr t) = t

bad_long : (input stream more front rest : List ℕ) → input ≡ stream ++ more → length stream ≤ most_head → NeverHasRequest stream → input ≡ front ++ rest → length front ≡ most_head → MayBecomeRequest front
    → LeavesOpen input BadHead HeadTooLong
bad_long input stream more front rest is short never there full may =
    let within : front ≡ stream ++ drop (length stream) front = front_within front rest stream more (sym there ∙ is) (omega arith) in
    (front, rest, there, full, cut_in_target stream (drop (length stream) front) front within never may)

not_long : (input front rest : List ℕ) → input ≡ front ++ rest → length front ≡ most_head → length input < most_head → ⊥
not_long input front rest is full short =
    let a = ap length is in
    let b = length-append front rest in
    omega arith

-- two answers without a whole head
headless_both : (input : List ℕ) (x y : Answer) → Headless input x → Headless input y → Agrees input x y
headless_both input x y (nothing is none) (nothing js mone) = agrees_same input x y (is ∙ sym js)
headless_both input x y (nothing is none) (bad stream more js there short never) = absurd (empty_not_bad input stream more none there never)
headless_both input x y (nothing is none) (many stream more js there over) = absurd (empty_not_many input stream more none there over)
headless_both input x y (nothing is none) (long stream more js there full lacks may) = absurd (empty_not_long input stream more none there full)
headless_both input x y (nothing is none) (ends js some short lacks may) = absurd (empty_not_ended input none some)
headless_both input x y (bad stream more is there short never) (nothing js none) = absurd (empty_not_bad input stream more none there never)
headless_both input x y (bad stream more is there short never) (bad front rest js here little ever) = agrees_same input x y (is ∙ sym js)
headless_both input x y (bad stream more is there short never) (many front rest js here over) = agrees_as input x y (Err BadHead) (Err TooManyFields) is js (inr (inr tt))
headless_both input x y (bad stream more is there short never) (long front rest js here full lacks may) =
    agrees_as input x y (Err BadHead) (Err HeadTooLong) is js (inr (inl (bad_long input stream more front rest there short never here full may)))
headless_both input x y (bad stream more is there short never) (ends js some little lacks may) =
    agrees_as input x y (Err BadHead) (Err (CutShort (length input))) is js (inr (inl (cut_in_target stream more input there never may)))
headless_both input x y (many stream more is there over) (nothing js none) = absurd (empty_not_many input stream more none there over)
headless_both input x y (many stream more is there over) (bad front rest js here short never) = agrees_as input x y (Err TooManyFields) (Err BadHead) is js (inr (inl tt))
headless_both input x y (many stream more is there over) (many front rest js here other) = agrees_same input x y (is ∙ sym js)
headless_both input x y (many stream more is there over) (long front rest js here full lacks may) = agrees_as input x y (Err TooManyFields) (Err HeadTooLong) is js (inr (inl tt))
headless_both input x y (many stream more is there over) (ends js some short lacks may) = agrees_as input x y (Err TooManyFields) (Err (CutShort (length input))) is js (inr (inl tt))
headless_both input x y (long stream more is there full lacks may) (nothing js none) = absurd (empty_not_long input stream more none there full)
headless_both input x y (long stream more is there full lacks may) (bad front rest js here short never) =
    agrees_as input x y (Err HeadTooLong) (Err BadHead) is js (inr (inr (bad_long input front rest stream more here short never there full may)))
headless_both input x y (long stream more is there full lacks may) (many front rest js here over) = agrees_as input x y (Err HeadTooLong) (Err TooManyFields) is js (inr (inr tt))
headless_both input x y (long stream more is there full lacks may) (long front rest js here whole none must) = agrees_same input x y (is ∙ sym js)
headless_both input x y (long stream more is there full lacks may) (ends js some short none must) = absurd (not_long input stream more there full short)
headless_both input x y (ends is some short lacks may) (nothing js none) = absurd (empty_not_ended input none some)
headless_both input x y (ends is some short lacks may) (bad front rest js here little never) =
    agrees_as input x y (Err (CutShort (length input))) (Err BadHead) is js (inr (inr (cut_in_target front rest input here never may)))
headless_both input x y (ends is some short lacks may) (many front rest js here over) = agrees_as input x y (Err (CutShort (length input))) (Err TooManyFields) is js (inr (inr tt))
headless_both input x y (ends is some short lacks may) (long front rest js here full none must) = absurd (not_long input front rest here full short)
headless_both input x y (ends is some short lacks may) (ends js any little none must) = agrees_same input x y (is ∙ sym js)

-- ---- all of them

agrees_back : (input : List ℕ) (x y : Answer) → Whole input x ⊎ Headless input x → Whole input y ⊎ Headless input y → Agrees input x y
agrees_back input x y (inl v) (inl w) = whole_whole input x y v w
agrees_back input x y (inl v) (inr w) = absurd (whole_headless input x y v w)
agrees_back input x y (inr v) (inl w) = absurd (whole_headless input y x w v)
agrees_back input x y (inr v) (inr w) = headless_both input x y v w

pub one_answer : GivesOneAnswer
one_answer input x y given too g h = agrees_back input x y (kind input x given g) (kind input y too h)

-- ---- what a reader reads

-- the same without a connection that reports its bytes
gives_alone : (stream kept : List ℕ) (a b : Option Traffic) (answer : Answer) → Gives stream kept a b answer → Gives stream kept None None answer
gives_alone stream kept a b (Ok (Some q)) g = g
gives_alone stream kept a b (Ok None) g = (g.0, tt)
gives_alone stream kept a b (Err BadHead) g = g
gives_alone stream kept a b (Err HeadTooLong) g = g
gives_alone stream kept a b (Err TooManyFields) g = g
gives_alone stream kept a b (Err Chunked) g = g
gives_alone stream kept a b (Err BadLength) g = g
gives_alone stream kept a b (Err (BodyTooLong n)) g = g
gives_alone stream kept a b (Err (CutShort n)) g = (g.0, g.1, tt, g.3)
gives_alone stream kept a b (Err ConnFault) g = tt
gives_alone stream kept a b (Err OutOfMemory) g = tt

-- after an answer that the input has ended nothing is left
left_behind : (t : Traffic) (after : Option Traffic) (got stream kept : List ℕ) (answer : Answer) (o : Over (Some t) after (record { read = got; written = [] }))
    → Gives stream kept (Some t) after answer → MayBeBehind answer o.0
left_behind t after got stream kept (Ok (Some q)) o g = tt
left_behind t after got stream kept (Ok None) o g = none_left t after (record { read = got; written = [] }) o g.1
left_behind t after got stream kept (Err BadHead) o g = tt
left_behind t after got stream kept (Err HeadTooLong) o g = tt
left_behind t after got stream kept (Err TooManyFields) o g = tt
left_behind t after got stream kept (Err Chunked) o g = tt
left_behind t after got stream kept (Err BadLength) o g = tt
left_behind t after got stream kept (Err (BodyTooLong n)) o g = tt
left_behind t after got stream kept (Err (CutShort n)) o g = none_left t after (record { read = got; written = [] }) o g.2
left_behind t after got stream kept (Err ConnFault) o g = tt
left_behind t after got stream kept (Err OutOfMemory) o g = tt

read_gives : (old new : List ℕ) (t : Traffic) (after : Option Traffic) (answer : Answer) → ReadsNext old new (Some t) after answer → InputGives (old ++ t.left) answer
read_gives old new t after answer r =
    record {
      stream = old ++ r.0;
      more = r.1.0;
      kept = new;
      is = ap (λ l. old ++ l) r.1.1 ∙ sym (append_assoc old r.0 r.1.0);
      behind = left_behind t after r.0 (old ++ r.0) new answer r.1 r.2;
      gives = gives_alone (old ++ r.0) new (Some t) after answer r.2;
    }

-- what is kept and what a connection that reports its bytes has left decide the answer
pub read_answers : (old new : List ℕ) (before after : Option Traffic) (answer : Answer) → ReadsNext old new before after answer → IfSome before (λ t. IsAnswerTo (old ++ t.left) answer)
read_answers old new None after answer r = tt
read_answers old new (Some t) after answer r =
    let g = read_gives old new t after answer r in
    λ given. (g, λ other too h. one_answer (old ++ t.left) answer other given too g h)
