-- The bytes of a body that had come before, and those that are read straight into it.
use Rattle.std.proofs.Common.{refl, sym, ap, ◌∙◌, ◌≡◌, ◌<◌, ◌≤◌, ◌+◌, ◌-◌, ⊎_elim, min, ℕ, List, [], ◌++◌, length, take, drop, Option, Ok, Err, append_assoc, length-append, arith}
use Rattle.std.proofs.lemmas.List.{append-nil, take-append-drop, length-take, drop_all}
use Rattle.std.proofs.lemmas.Bool.{cases_lt as order}
use Rattle.actor_ports.specs.Traffic.{Traffic}
use Rattle.http_edge.specs.declared.error.EdgeError.{EdgeError}
use Rattle.http_edge.specs.declared.error.EdgeError.TheVariants.{BadHead, HeadTooLong, TooManyFields, Chunked, BadLength, BodyTooLong, CutShort, ConnFault, OutOfMemory}
use Rattle.http_edge.specs.Replies.{Fails}
use Rattle.http_edge.specs.Steps.{Fills, FillsOver}
use Rattle.http_edge.specs.Arrivals.{Arrived}
use Rattle.http_edge.specs.Content.{IsShort, TakesData}
use Rattle.http_edge.proofs.Received.{empty_list}

-- what had come of a stream and what came behind it give the bytes that were wanted, and what is left
record IsFilled (size have : ℕ) (rest got body new : List ℕ) : Type 0 where
  pub enough : size ≤ length (rest ++ got)
  pub bytes : new ≡ body ++ take size (rest ++ got)
  pub left : drop have rest ≡ drop size (rest ++ got)

pub take_whole : (n : ℕ) (l : List ℕ) → length l ≡ n → take n l ≡ l
take_whole n l e = sym (append-nil (take n l)) ∙ ap (λ x. take n l ++ x) (sym (drop_all n l (omega (arith, e)))) ∙ take-append-drop n l

-- all that had come before is wanted
filled_all : (size have : ℕ) (rest got body mid new : List ℕ) → length rest ≤ size → have ≡ length rest → mid ≡ body ++ take have rest → new ≡ mid ++ got → length new ≡ length mid + (size - have)
    → IsFilled size have rest got body new
filled_all size have rest got body mid new le is from more long =
    let one = ap length more in
    let two = length-append mid got in
    let three = length-append rest got in
    let all : length (rest ++ got) ≡ size = omega arith in
    record {
      enough = omega arith;
      bytes = more ∙ ap (λ l. l ++ got) (from ∙ ap (λ l. body ++ l) (take_whole have rest (sym is))) ∙ append_assoc body rest got ∙ ap (λ l. body ++ l) (sym (take_whole size (rest ++ got) all));
      left = drop_all have rest (omega arith) ∙ sym (drop_all size (rest ++ got) (omega arith));
    }

-- nothing more has to come
filled_front : (size have : ℕ) (rest got body mid new : List ℕ) → size < length rest → have ≡ size → mid ≡ body ++ take have rest → new ≡ mid ++ got → length new ≡ length mid + (size - have)
    → IsFilled size have rest got body new
filled_front size have rest got body mid new lt is from more long =
    let one = ap length more in
    let two = length-append mid got in
    let none : got ≡ [] = empty_list got (omega arith) in
    let whole : rest ++ got ≡ rest = ap (λ l. rest ++ l) none ∙ append-nil rest in
    let four = ap length whole in
    record {
      enough = omega arith;
      bytes = more ∙ ap (λ l. mid ++ l) none ∙ append-nil mid ∙ from ∙ ap (λ l. body ++ l) (ap (λ n. take n rest) is ∙ ap (take size) (sym whole));
      left = ap (λ n. drop n rest) is ∙ ap (drop size) (sym whole);
    }

filled : (size have : ℕ) (rest got body mid new : List ℕ) → have ≡ min size (length rest) → mid ≡ body ++ take have rest → new ≡ mid ++ got → length new ≡ length mid + (size - have)
    → IsFilled size have rest got body new
filled size have rest got body mid new is from more long =
    ⊎_elim
    (λ (lt : size < length rest). filled_front size have rest got body mid new lt (omega (arith, is)) from more long)
    (λ (le : length rest ≤ size). filled_all size have rest got body mid new le (omega (arith, is)) from more long)
    (order size (length rest))

-- the bytes are all there
pub data_whole :
    {T : Type 0} (x : T) (size have others whole : ℕ) (old new : Arrived) (body mid more : List ℕ) (a b : Option Traffic)
    → have ≡ min size (length old.rest) → whole ≡ length mid + (size - have) → mid ≡ body ++ take have old.rest → FillsOver {T = T} others whole mid more a b (Ok x)
    → new ≡ record { rest = drop have old.rest; taken = old.taken + have + (size - have) }
    → TakesData {T = T} size old new body more a b (Ok x)
data_whole x size have others whole old new body mid more a b is sum from f then =
    let p = filled size have old.rest f.0 body mid more is from f.1 (f.3 ∙ sum) in
    let count : old.taken + have + (size - have) ≡ old.taken + size = omega (arith, is) in
    (old.rest ++ f.0, (f.0, refl, f.2), (p.enough, p.bytes, then ∙ ap (λ l. record { rest = l; taken = old.taken + have + (size - have) }) p.left ∙ ap (λ n. record { rest = drop size (old.rest ++ f.0); taken = n }) count))

-- they aren't
cut_data :
    (T : Type 0) (size have others whole n : ℕ) (old : Arrived) (body mid more got : List ℕ) (a b : Option Traffic)
    → have ≡ min size (length old.rest) → whole ≡ length mid + (size - have) → mid ≡ body ++ take have old.rest → more ≡ mid ++ got → others + length mid ≡ old.taken + have
    → Fills {T = T} others whole more a b (Err (CutShort n))
    → Fails (IsShort size (old.rest ++ got)) (old.taken + length (old.rest ++ got)) a b (CutShort n)
cut_data T size have others whole n old body mid more got a b is sum from came count f =
    let one = ap length came in
    let two = length-append mid got in
    let three = length-append old.rest got in
    let four = f.0 in
    let five = f.1 in
    let all : have ≡ length old.rest = whole_rest size have (length old.rest) is (omega arith) in
    (omega arith, f.2, omega arith)
  where
    whole_rest : (size have long : ℕ) → have ≡ min size long → have < size → have ≡ long
    whole_rest size have long e lt = omega (arith, e)

data_fails :
    (T : Type 0) (size have others whole : ℕ) (old : Arrived) (body mid more got : List ℕ) (a b : Option Traffic) (e : EdgeError)
    → have ≡ min size (length old.rest) → whole ≡ length mid + (size - have) → mid ≡ body ++ take have old.rest → more ≡ mid ++ got → others + length mid ≡ old.taken + have
    → Fills {T = T} others whole more a b (Err e)
    → Fails (IsShort size (old.rest ++ got)) (old.taken + length (old.rest ++ got)) a b e
data_fails T size have others whole old body mid more got a b BadHead is sum from came count f = absurd f
data_fails T size have others whole old body mid more got a b HeadTooLong is sum from came count f = absurd f
data_fails T size have others whole old body mid more got a b TooManyFields is sum from came count f = absurd f
data_fails T size have others whole old body mid more got a b Chunked is sum from came count f = absurd f
data_fails T size have others whole old body mid more got a b BadLength is sum from came count f = absurd f
data_fails T size have others whole old body mid more got a b (BodyTooLong n) is sum from came count f = absurd f
data_fails T size have others whole old body mid more got a b (CutShort n) is sum from came count f = cut_data T size have others whole n old body mid more got a b is sum from came count f
data_fails T size have others whole old body mid more got a b ConnFault is sum from came count f = tt
data_fails T size have others whole old body mid more got a b OutOfMemory is sum from came count f = tt

pub data_cut :
    (T : Type 0) (size have others whole : ℕ) (old new : Arrived) (body mid more : List ℕ) (a b : Option Traffic) (e : EdgeError)
    → have ≡ min size (length old.rest) → whole ≡ length mid + (size - have) → mid ≡ body ++ take have old.rest → others + length mid ≡ old.taken + have
    → FillsOver {T = T} others whole mid more a b (Err e)
    → TakesData {T = T} size old new body more a b (Err e)
data_cut T size have others whole old new body mid more a b e is sum from count f =
    (old.rest ++ f.0, (f.0, refl, f.2), data_fails T size have others whole old body mid more f.0 a b e is sum from f.1 count f.3)

-- the number of bytes of the reply that aren't in its body
pub front_counted : (size have now others taken : ℕ) (rest body mid : List ℕ) → have ≡ min size (length rest) → mid ≡ body ++ take have rest → now ≡ taken + have → others ≡ length mid → length body ≤ taken
    → (now - others) + length mid ≡ taken + have
front_counted size have now others taken rest body mid is from count long less =
    let one = ap length from in
    let two = length-append body (take have rest) in
    let three = length-take have rest in
    omega (arith, is)
