-- Messages whose bodies are read behind their heads, in one list of bytes.
use Rattle.std.proofs.Common.{refl, sym, ap, ◌∙◌, ◌≡◌, ◌≤◌, ◌+◌, ◌-◌, min, ℕ, List, [], ◌++◌, length, take, drop, Option, Result, Ok, Err, length-append, arith}
use Rattle.std.proofs.lemmas.List.{length-take, length-drop, drop-append-le, drop-take, drop-drop, take_min}
use Rattle.httparse.specs.Grammar.{print_request}
use Rattle.actor_ports.specs.Traffic.{Traffic}
use Rattle.http_edge.specs.declared.head.Head.{Head}
use Rattle.http_edge.specs.declared.form.BodyForm.TheVariants.{BySize}
use Rattle.http_edge.specs.declared.error.EdgeError.{EdgeError}
use Rattle.http_edge.specs.declared.error.EdgeError.TheVariants.{BadHead, HeadTooLong, TooManyFields, Chunked, BadLength, BodyTooLong, CutShort, ConnFault, OutOfMemory}
use Rattle.http_edge.specs.Steps.{IsHeadOf, Fills, FillsOver}
use Rattle.http_edge.specs.Arrivals.{Arrived}
use Rattle.http_edge.specs.Content.{ReadsBody}
use Rattle.http_edge.proofs.Filled.{data_whole, data_cut}
use Rattle.http_edge.proofs.Replied.{sized_body}

fills_rest : (T : Type 0) (at len other size : ℕ) (new : List ℕ) (a b : Option Traffic) (result : Result T EdgeError)
    → at ≤ length new → len + at ≡ other → Fills {T = T} len (at + size) new a b result → Fills {T = T} other size (drop at new) a b result
fills_rest T at len other size new a b (Ok x) le count f = let one = length-drop at new in omega (arith, f)
fills_rest T at len other size new a b (Err (CutShort n)) le count f =
    let one = length-drop at new in
    let is = f.0 in
    let less = f.1 in
    (omega arith, omega arith, f.2)
fills_rest T at len other size new a b (Err ConnFault) le count f = tt
fills_rest T at len other size new a b (Err OutOfMemory) le count f = tt
fills_rest T at len other size new a b (Err BadHead) le count f = absurd f
fills_rest T at len other size new a b (Err HeadTooLong) le count f = absurd f
fills_rest T at len other size new a b (Err TooManyFields) le count f = absurd f
fills_rest T at len other size new a b (Err Chunked) le count f = absurd f
fills_rest T at len other size new a b (Err BadLength) le count f = absurd f
fills_rest T at len other size new a b (Err (BodyTooLong n)) le count f = absurd f

longer : (at : ℕ) (old got new : List ℕ) → at ≤ length old → new ≡ old ++ got → at ≤ length new
longer at old got new le is = let one = ap length is in let two = length-append old got in omega arith

-- what fills a message fills the part of it behind its first bytes
pub fills_behind : (T : Type 0) (at len other size : ℕ) (old new : List ℕ) (a b : Option Traffic) (result : Result T EdgeError)
    → at ≤ length old → len + at ≡ other → FillsOver {T = T} len (at + size) old new a b result → FillsOver {T = T} other size (drop at old) (drop at new) a b result
fills_behind T at len other size old new a b result le count f =
    (f.0, ap (drop at) f.1 ∙ drop-append-le at old f.0 le, f.2, fills_rest T at len other size new a b result (longer at old f.0 new le f.1) count f.3)

-- ---- requests

pub from_start : (n : ℕ) → 0 + n ≡ n
from_start n = omega arith

-- a head is within its stream
pub head_within : (stream : List ℕ) (h : Head) → IsHeadOf stream h → h.len ≤ length stream
head_within stream h i =
    let one = i.len in
    let two = ap length i.starts.reads.1 in
    let three = length-append (print_request i.head) i.behind in
    omega arith

-- the kept bytes of a message have its head
pub within_message : (stream message : List ℕ) (h : Head) → IsHeadOf stream h → message ≡ take (h.len + h.size) stream → h.len ≤ length message
within_message stream message h i is =
    let one = ap length is in
    let two = length-take (h.len + h.size) stream in
    let three = head_within stream h i in
    omega arith

pub behind_message : (stream message : List ℕ) (h : Head) → message ≡ take (h.len + h.size) stream → drop h.len message ≡ take h.size (drop h.len stream)
behind_message stream message h is = ap (drop h.len) is ∙ drop-take h.len h.size stream

pub behind_both : (stream kept : List ℕ) (h : Head) → kept ≡ drop (h.len + h.size) stream → kept ≡ drop h.size (drop h.len stream)
behind_both stream kept h is = is ∙ sym (drop-drop h.size h.len stream)

-- ---- replies

-- the bytes of a body of a size that had come, and those that came behind them
pub sized_whole : {T : Type 0} (x : T) (size at len : ℕ) (old : Arrived) (front more : List ℕ) (a b : Option Traffic)
    → drop at front ≡ take size old.rest → at ≤ length front → len + at ≡ old.taken → FillsOver {T = T} len (at + size) front more a b (Ok x)
    → ReadsBody {T = T} (BySize size) old (drop at more) a b (Ok x)
sized_whole {T} x size at len old front more a b from le count f =
    let mid = drop at front in
    let have = length mid in
    let is : have ≡ min size (length old.rest) = ap length from ∙ length-take size old.rest in
    let sum : size ≡ have + (size - have) = omega (arith, is) in
    let came : mid ≡ take have old.rest = from ∙ sym (take_min size old.rest) ∙ ap (λ n. take n old.rest) (sym is) in
    let new : Arrived = record { rest = drop have old.rest; taken = old.taken + have + (size - have) } in
    sized_body {T = T} size old new [] (drop at more) a b (Ok x) refl
    (data_whole x size have old.taken size old new [] mid (drop at more) a b is sum came (fills_behind T at len old.taken size front more a b (Ok x) le count f) refl)

pub sized_cut : (T : Type 0) (size at len : ℕ) (old : Arrived) (front more : List ℕ) (a b : Option Traffic) (e : EdgeError)
    → drop at front ≡ take size old.rest → at ≤ length front → len + at ≡ old.taken → FillsOver {T = T} len (at + size) front more a b (Err e)
    → ReadsBody {T = T} (BySize size) old (drop at more) a b (Err e)
sized_cut T size at len old front more a b e from le count f =
    let mid = drop at front in
    let have = length mid in
    let is : have ≡ min size (length old.rest) = ap length from ∙ length-take size old.rest in
    let sum : size ≡ have + (size - have) = omega (arith, is) in
    let came : mid ≡ take have old.rest = from ∙ sym (take_min size old.rest) ∙ ap (λ n. take n old.rest) (sym is) in
    sized_body {T = T} size old old [] (drop at more) a b (Err e) refl
    (data_cut T size have old.taken size old old [] mid (drop at more) a b e is sum came refl (fills_behind T at len old.taken size front more a b (Err e) le count f))
