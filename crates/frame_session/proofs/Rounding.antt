-- The rounds of a session add up.
use Rattle.std.proofs.Common.{◌≡◌, ◌≤◌, ◌+◌, ℕ, Bool, false, List, [], ◌∷◌, ◌++◌, length, map, Option, refl, sym, ap, subst, ◌∙◌, append_assoc, append-nil, length-append, arith}
use Rattle.actor_ports.specs.Traffic.{Traffic}
use Rattle.http_edge.specs.Carry.{Carried, Over}
use Rattle.http_edge.proofs.Carried.{over_nothing, over_then}
use Rattle.frame_wire.specs.declared.frame.Frame.{Frame}
use Rattle.frame_wire.specs.Frames.{frame_bytes}
use Rattle.frame_session.specs.Exchanges.{Exchange}
use Rattle.frame_session.specs.Rounds.{Round, exchange_in, asked, answered, Moments, IsRound, AreRounds, GoOn, Went}
use Rattle.frame_session.specs.Turns.{Steps, Got}

module _ {E R : Type 0} where
  -- ---- one round more at the end

  asked_more : (rounds : List (Round E R)) (r : Round E R) → asked (rounds ++ r ∷ []) ≡ asked rounds ++ frame_bytes r.frame
  asked_more [] r = append-nil (frame_bytes r.frame)
  asked_more (q ∷ rounds) r = ap (λ (l : List ℕ). frame_bytes q.frame ++ l) (asked_more rounds r) ∙ sym (append_assoc (frame_bytes q.frame) (asked rounds) (frame_bytes r.frame))

  pub answered_more : (rounds : List (Round E R)) (r : Round E R) → answered (rounds ++ r ∷ []) ≡ answered rounds ++ frame_bytes r.answer
  answered_more [] r = append-nil (frame_bytes r.answer)
  answered_more (q ∷ rounds) r = ap (λ (l : List ℕ). frame_bytes q.answer ++ l) (answered_more rounds r) ∙ sym (append_assoc (frame_bytes q.answer) (answered rounds) (frame_bytes r.answer))

  exchanges_more : (rounds : List (Round E R)) (r : Round E R) → map exchange_in (rounds ++ r ∷ []) ≡ map exchange_in rounds ++ r.exchange ∷ []
  exchanges_more [] r = refl
  exchanges_more (q ∷ rounds) r = ap (λ (l : List (Exchange E R)). q.exchange ∷ l) (exchanges_more rounds r)

  pub one_more : (rounds : List (Round E R)) (r : Round E R) → length (rounds ++ r ∷ []) ≡ length rounds + 1
  one_more rounds r = length-append rounds (r ∷ [])

  moments_later : (rounds : List (Round E R)) (a b d : ℕ) → Moments a rounds b → b ≤ d → Moments a rounds d
  moments_later [] a b d m le = omega arith
  moments_later (q ∷ rounds) a b d m le = (m.0, moments_later rounds q.now b d m.1 le)

  moments_more : (rounds : List (Round E R)) (r : Round E R) (a b d : ℕ) → Moments a rounds b → b ≤ d → r.now ≡ d → Moments a (rounds ++ r ∷ []) d
  moments_more [] r a b d m le e = (omega arith, omega arith)
  moments_more (q ∷ rounds) r a b d m le e = (m.0, moments_more rounds r q.now b d m.1 le e)

  read_carried : (rounds : List (Round E R)) (rest got written : List ℕ) →
      (let c : Carried = record { read = (asked rounds ++ rest) ++ got; written = written ++ [] } in c) ≡ record { read = asked rounds ++ (rest ++ got); written = written }
  read_carried rounds rest got written = rw (append_assoc (asked rounds) rest got, append-nil written) refl

  on_carried : (rounds : List (Round E R)) (r : Round E R) (rest written more : List ℕ) →
      (let c : Carried = record { read = (asked rounds ++ (frame_bytes r.frame ++ rest)) ++ []; written = written ++ more } in c) ≡ record { read = asked (rounds ++ r ∷ []) ++ rest; written = written ++ more }
  on_carried rounds r rest written more = rw (append-nil (asked rounds ++ (frame_bytes r.frame ++ rest)), sym (append_assoc (asked rounds) (frame_bytes r.frame) rest), asked_more rounds r) refl

module _ {E R : Type 0} (event_of : Frame → ℕ → Option E) (answer_of : R → Option Frame) (breaks : R → Bool) where
  rounds_more : (rounds : List (Round E R)) (r : Round E R) → AreRounds event_of answer_of breaks rounds → IsRound event_of answer_of breaks r → AreRounds event_of answer_of breaks (rounds ++ r ∷ [])
  rounds_more [] r all one = (one, tt)
  rounds_more (q ∷ rounds) r all one = (all.0, rounds_more rounds r all.1 one)

  pub on_more : (rounds : List (Round E R)) (r : Round E R) → GoOn event_of answer_of breaks rounds → breaks r.exchange.reply ≡ false → GoOn event_of answer_of breaks (rounds ++ r ∷ [])
  on_more [] r all one = (one, tt)
  on_more (q ∷ rounds) r all one = (all.0, on_more rounds r all.1 one)

-- What was asked in two calls adds up.
module _ {E R Seat : Type 0} (made : List (Exchange E R) → Seat → Seat → Type 0) where
  abbrev pub AddsUp : Type 0
  AddsUp = (xs ys : List (Exchange E R)) (s0 s1 s2 : Seat) → made xs s0 s1 → made ys s1 s2 → made (xs ++ ys) s0 s2

module _
    {E R Seat : Type 0} (made : List (Exchange E R) → Seat → Seat → Type 0) (known : Seat → ℕ)
    (event_of : Frame → ℕ → Option E) (answer_of : R → Option Frame) (breaks : R → Bool) where
  -- nothing has come yet
  pub went_none : (s : Seat) (m : ℕ) (t : Option Traffic) → made [] s s → Went made event_of answer_of breaks s s m m t t [] [] []
  went_none s m t none = record { each = tt; asked_there = none; moments = omega arith; over = over_nothing t }

  -- more bytes were read
  pub went_read : (s0 s1 : Seat) (m0 m1 : ℕ) (t0 t1 t2 : Option Traffic) (rounds : List (Round E R)) (rest got written : List ℕ)
      → Went made event_of answer_of breaks s0 s1 m0 m1 t0 t1 rounds rest written → Got t1 t2 got → Went made event_of answer_of breaks s0 s1 m0 m1 t0 t2 rounds (rest ++ got) written
  went_read s0 s1 m0 m1 t0 t1 t2 rounds rest got written w o =
      let both = over_then t0 t1 t2 (record { read = asked rounds ++ rest; written = written }) (record { read = got; written = [] }) w.over o in
      record { each = w.each; asked_there = w.asked_there; moments = w.moments; over = subst (λ (c : Carried). Over t0 t2 c) (read_carried rounds rest got written) both }

  -- time has passed, and nothing was asked
  pub went_later : (s0 s1 s2 : Seat) (m0 m1 m2 : ℕ) (t0 t1 : Option Traffic) (rounds : List (Round E R)) (rest written : List ℕ) → AddsUp made
      → Went made event_of answer_of breaks s0 s1 m0 m1 t0 t1 rounds rest written → made [] s1 s2 → m1 ≤ m2 → Went made event_of answer_of breaks s0 s2 m0 m2 t0 t1 rounds rest written
  went_later s0 s1 s2 m0 m1 m2 t0 t1 rounds rest written adds w none le = record {
    each = w.each;
    asked_there = subst (λ (xs : List (Exchange E R)). made xs s0 s2) (append-nil (map exchange_in rounds)) (adds (map exchange_in rounds) [] s0 s1 s2 w.asked_there none);
    moments = moments_later rounds m0 m1 m2 w.moments le;
    over = w.over;
  }

  -- one more frame was asked, and these bytes of its answer were written
  pub went_on : (frame : Frame) (s0 s1 s2 : Seat) (m0 m1 m2 : ℕ) (t0 t1 t2 : Option Traffic) (rounds : List (Round E R)) (r : Round E R) (rest written more : List ℕ) → AddsUp made
      → Went made event_of answer_of breaks s0 s1 m0 m1 t0 t1 rounds (frame_bytes frame ++ rest) written → Steps made known event_of answer_of breaks frame s1 s2 m1 m2 t1 t2 r more
      → Went made event_of answer_of breaks s0 s2 m0 m2 t0 t2 (rounds ++ r ∷ []) rest (written ++ more)
  went_on frame s0 s1 s2 m0 m1 m2 t0 t1 t2 rounds r rest written more adds w step =
      let same : Went made event_of answer_of breaks s0 s1 m0 m1 t0 t1 rounds (frame_bytes r.frame ++ rest) written = subst (λ (f : Frame). Went made event_of answer_of breaks s0 s1 m0 m1 t0 t1 rounds (frame_bytes f ++ rest) written) (sym step.is) w in
      let both = over_then t0 t1 t2 (record { read = asked rounds ++ (frame_bytes r.frame ++ rest); written = written }) (record { read = []; written = more }) same.over step.over in
      record {
        each = rounds_more event_of answer_of breaks rounds r w.each step.round;
        asked_there = subst (λ (xs : List (Exchange E R)). made xs s0 s2) (sym (exchanges_more rounds r)) (adds (map exchange_in rounds) (r.exchange ∷ []) s0 s1 s2 w.asked_there step.asked_there);
        moments = moments_more rounds r m0 m1 m2 w.moments step.later step.now;
        over = subst (λ (c : Carried). Over t0 t2 c) (on_carried rounds r rest written more) both;
      }
