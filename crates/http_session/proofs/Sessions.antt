-- The requests of a session add up.
use Rattle.std.proofs.Common.{◌≡◌, ◌⊎◌, ◌<◌, ◌≤◌, ◌+◌, ◌^◌, refl, sym, ap, subst, ◌∙◌, inl, inr, ℕ, true, false, List, [], ◌∷◌, ◌++◌, length, append_assoc, length-append, arith, Option, Some, None, Result, Ok, Err}
use Rattle.std.proofs.lemmas.List.{append-nil}
use Rattle.lists_and_limits.specs.declared.memory.OutOfMemory.{OutOfMemory}
use Rattle.actor_ports.specs.declared.session.SessionEnd.{SessionEnd}
use Rattle.actor_ports.specs.declared.session.SessionEnd.TheVariants as ends
use Rattle.actor_ports.specs.Traffic.{Traffic}
use Rattle.http_edge.specs.declared.message.HttpRequest.{HttpRequest}
use Rattle.http_edge.specs.declared.message.HttpResponse.{HttpResponse}
use Rattle.http_edge.specs.declared.error.EdgeError.{EdgeError}
use Rattle.http_edge.specs.declared.error.EdgeError.TheVariants as edge
use Rattle.http_edge.specs.Carry.{Carried, Over, AtEnd, nothing}
use Rattle.http_edge.specs.Requests.{ReadsNext, ReaderState, EdgeCause}
use Rattle.http_edge.specs.Texts.{WritesText}
use Rattle.http_edge.proofs.Carried.{over_nothing, over_then, told_along}
use Rattle.http_session.specs.Rounds.{Round, texts_of, answers_of, answer_text, refusal_text, GoOn, IsRound, AreRounds, Turns}
use Rattle.http_session.specs.Sessions.{HasNoReading, IsRefusal, Went, IsCut, IsSession, SessionCause, cut_end, refused_end, EndsUnread}

-- ---- the end of the input stays where bytes are written

wrote_at_end : (u : Traffic) (d : Option Traffic) (front : List ℕ) → u.left ≡ [] → Over (Some u) d (record { read = []; written = front }) → AtEnd (Some u) d
wrote_at_end u d front e o = (record { at = u.at; read = u.read ++ []; left = o.0; written = u.written ++ front }, o.2, sym o.1 ∙ e)

at_end_kept : (a b d : Option Traffic) (front : List ℕ) → AtEnd a b → Over b d (record { read = []; written = front }) → AtEnd a d
at_end_kept None b d front s o = tt
at_end_kept (Some t) b d front s o = wrote_at_end s.0 d front s.2 (subst (λ (m : Option Traffic). Over m d (record { read = []; written = front })) s.1 o)

refused_along : (a b c d : Option Traffic) (went : Carried) (front stream : List ℕ) (error : EdgeError) → Over a b went → Over c d (record { read = []; written = front })
    → HasNoReading stream b c error → HasNoReading stream a d error
refused_along a b c d went front stream edge.ConnFault o w h = absurd h
refused_along a b c d went front stream edge.OutOfMemory o w h = absurd h
refused_along a b c d went front stream (edge.CutShort n) o w h = (h.0, h.1, at_end_kept a c d front (told_along a b c went o h.2) w, h.3)
refused_along a b c d went front stream error o w h = h

-- ---- one request more at the end

module _ {S : Type 0} where
  texts_more : (rounds : List (Round S)) (r : Round S) → texts_of (rounds ++ r ∷ []) ≡ texts_of rounds ++ r.text
  texts_more [] r = append-nil r.text
  texts_more (q ∷ qs) r = ap (λ (t : List ℕ). q.text ++ t) (texts_more qs r) ∙ sym (append_assoc q.text (texts_of qs) r.text)

  answers_more : (rounds : List (Round S)) (r : Round S) → answers_of (rounds ++ r ∷ []) ≡ answers_of rounds ++ answer_text r.request.close r.response
  answers_more [] r = append-nil (answer_text r.request.close r.response)
  answers_more (q ∷ qs) r =
      ap (λ (t : List ℕ). answer_text q.request.close q.response ++ t) (answers_more qs r)
      ∙ sym (append_assoc (answer_text q.request.close q.response) (answers_of qs) (answer_text r.request.close r.response))

  goes_more : (rounds : List (Round S)) (r : Round S) → GoOn rounds → r.request.close ≡ false → GoOn (rounds ++ r ∷ [])
  goes_more [] r all one = (one, tt)
  goes_more (q ∷ qs) r all one = (all.0, goes_more qs r all.1 one)

  one_more : (rounds : List (Round S)) (r : Round S) → length (rounds ++ r ∷ []) ≡ length rounds + 1
  one_more rounds r = length-append rounds (r ∷ [])

  read_carried : (rounds : List (Round S)) (kept got : List ℕ) →
      (let c : Carried = record { read = (texts_of rounds ++ kept) ++ got; written = answers_of rounds ++ [] } in c) ≡ record { read = texts_of rounds ++ (kept ++ got); written = answers_of rounds }
  read_carried rounds kept got = rw (append_assoc (texts_of rounds) kept got, append-nil (answers_of rounds)) refl

  wrote_carried : (rounds : List (Round S)) (stream front : List ℕ) →
      (let c : Carried = record { read = (texts_of rounds ++ stream) ++ []; written = answers_of rounds ++ front } in c) ≡ record { read = texts_of rounds ++ stream; written = answers_of rounds ++ front }
  wrote_carried rounds stream front = rw (append-nil (texts_of rounds ++ stream)) refl

module _ {S : Type 0} (answers : S → HttpRequest → Result HttpResponse OutOfMemory → S → Type 0) where
  rounds_more : (s t : S) (rounds : List (Round S)) (r : Round S) → AreRounds answers s rounds t → IsRound answers t r → AreRounds answers s (rounds ++ r ∷ []) r.server
  rounds_more s t [] r all one = (subst (λ (m : S). IsRound answers m r) all one, refl)
  rounds_more s t (q ∷ qs) r all one = (all.0, rounds_more q.server t qs r all.1 one)

  -- ---- the start, a read, a write

  no_rounds : (s : S) (t : Option Traffic) → Went answers s s t t [] [] []
  no_rounds s t = record { each = refl; over = over_nothing t }

  read_on : (s0 s1 : S) (t0 t1 t2 : Option Traffic) (rounds : List (Round S)) (kept got : List ℕ)
      → Went answers s0 s1 t0 t1 rounds kept (answers_of rounds) → Over t1 t2 (record { read = got; written = [] }) → Went answers s0 s1 t0 t2 rounds (kept ++ got) (answers_of rounds)
  read_on s0 s1 t0 t1 t2 rounds kept got w o =
      let both = over_then t0 t1 t2 (record { read = texts_of rounds ++ kept; written = answers_of rounds }) (record { read = got; written = [] }) w.over o in
      record { each = w.each; over = subst (λ (c : Carried). Over t0 t2 c) (read_carried rounds kept got) both }

  wrote_over : (s0 s1 : S) (t0 t1 t2 : Option Traffic) (rounds : List (Round S)) (stream front : List ℕ)
      → Went answers s0 s1 t0 t1 rounds stream (answers_of rounds) → Over t1 t2 (record { read = []; written = front })
      → Over t0 t2 (record { read = texts_of rounds ++ stream; written = answers_of rounds ++ front })
  wrote_over s0 s1 t0 t1 t2 rounds stream front w o =
      let both = over_then t0 t1 t2 (record { read = texts_of rounds ++ stream; written = answers_of rounds }) (record { read = []; written = front }) w.over o in
      subst (λ (c : Carried). Over t0 t2 c) (wrote_carried rounds stream front) both

  -- ---- what a session has done so far; the bytes behind the last request are those that the reader keeps

  pub record Progress (s0 s1 : S) (t0 t1 : Option Traffic) (reader : ReaderState) (n : ℕ) : Type 0 where
    pub rounds : List (Round S)
    pub went : Went answers s0 s1 t0 t1 rounds reader.kept (answers_of rounds)
    pub go_on : GoOn rounds
    pub count : n ≡ length rounds
    pub sound : reader.failed ≡ None

  pub start : (s : S) (t : Option Traffic) → Progress s s t t (record { kept = []; failed = None }) 0
  start s t = record { rounds = []; went = no_rounds s t; go_on = tt; count = refl; sound = refl }

  module _ (refusal_of : EdgeError → Option HttpResponse) (s0 s1 : S) (t0 t1 : Option Traffic) (reader : ReaderState) (n : ℕ) (p : Progress s0 s1 t0 t1 reader n) (t2 : Option Traffic) (new : ReaderState) where
    pub ends_done : (f0 f1 : ℕ) → ReadsNext reader.kept new.kept t1 t2 (Ok None) → IsSession answers refusal_of s0 s1 t0 t2 f0 f1 (ends.Done n)
    ends_done f0 f1 r =
        inl (
          p.rounds,
          reader.kept ++ r.0,
          read_on s0 s1 t0 t1 t2 p.rounds reader.kept r.0 p.went r.1,
          (p.count, inl (p.go_on, r.2.0, told_along t0 t1 t2 (record { read = texts_of p.rounds ++ reader.kept; written = answers_of p.rounds }) p.went.over r.2.1)),
        )

    -- the reader answered an error
    widened : (f0 f1 f2 : ℕ) (said : Option HttpResponse) (front : List ℕ) → f0 ≤ f1 → IsRefusal f1 f2 said front → IsRefusal f0 f2 said front
    widened f0 f1 f2 said front up (inl h) = inl h
    widened f0 f1 f2 said front up (inr h) = inr (h.0, (let k = h.1 in omega arith))

    refused : (f0 f1 f2 : ℕ) (t3 : Option Traffic) (error : EdgeError) (end : SessionEnd) → f0 ≤ f1 → (r : ReadsNext reader.kept new.kept t1 t2 (Err error)) → HasNoReading (reader.kept ++ r.0) t1 t2 error
        → (front : List ℕ) × Over t2 t3 (record { read = []; written = front }) × IsRefusal f1 f2 (refusal_of error) front × (end ≡ ends.Malformed n)
        → IsSession answers refusal_of s0 s1 t0 t3 f0 f2 end
    refused f0 f1 f2 t3 error end up r none w =
        let went = read_on s0 s1 t0 t1 t2 p.rounds reader.kept r.0 p.went r.1 in
        let stream = reader.kept ++ r.0 in
        inr (inl (
          p.rounds,
          stream,
          w.0,
          error,
          record { each = went.each; over = wrote_over s0 s1 t0 t2 t3 p.rounds stream w.0 went w.1 },
          p.go_on,
          refused_along t0 t1 t2 t3 (record { read = texts_of p.rounds ++ reader.kept; written = answers_of p.rounds }) w.0 stream error p.went.over w.1 none,
          widened f0 f1 f2 (refusal_of error) w.0 up w.2,
          w.3 ∙ ap (λ (k : ℕ). ends.Malformed k) p.count,
        ))

    -- memory ran out for the response
    silent : (f0 f1 f2 : ℕ) (t3 : Option Traffic) (end : SessionEnd) (got : List ℕ) → Over t1 t2 (record { read = got; written = [] }) → Over t2 t3 nothing → end ≡ ends.OutOfMemory n
        → IsSession answers refusal_of s0 s1 t0 t3 f0 f2 end
    silent f0 f1 f2 t3 end got r o is =
        let went = read_on s0 s1 t0 t1 t2 p.rounds reader.kept got p.went r in
        let over = wrote_over s0 s1 t0 t2 t3 p.rounds (reader.kept ++ got) [] went o in
        subst (λ (e : SessionEnd). IsSession answers refusal_of s0 s1 t0 t3 f0 f2 e) (sym is)
        (inl (
          p.rounds,
          reader.kept ++ got,
          record { each = went.each; over = subst (λ (w : List ℕ). Over t0 t3 (record { read = texts_of p.rounds ++ (reader.kept ++ got); written = w })) (append-nil (answers_of p.rounds)) over },
          (p.count, p.go_on),
        ))

    unread : (f0 f1 f2 : ℕ) (t3 : Option Traffic) (error : EdgeError) (end : SessionEnd) → f0 ≤ f1 → (r : ReadsNext reader.kept new.kept t1 t2 (Err error)) → HasNoReading (reader.kept ++ r.0) t1 t2 error
        → ((front : List ℕ) × Over t2 t3 (record { read = []; written = front }) × IsRefusal f1 f2 (refusal_of error) front × (end ≡ ends.Malformed n)) ⊎ (Over t2 t3 nothing × (end ≡ ends.OutOfMemory n))
        → IsSession answers refusal_of s0 s1 t0 t3 f0 f2 end
    unread f0 f1 f2 t3 error end up r none (inl w) = refused f0 f1 f2 t3 error end up r none w
    unread f0 f1 f2 t3 error end up r none (inr w) = silent f0 f1 f2 t3 end r.0 r.1 w.0 w.1

    pub ends_unread : (f0 f1 f2 : ℕ) (t3 : Option Traffic) (error : EdgeError) (end : SessionEnd) → f0 ≤ f1 → ReadsNext reader.kept new.kept t1 t2 (Err error)
        → EndsUnread (refusal_of error) error n f1 f2 t2 t3 end → IsSession answers refusal_of s0 s1 t0 t3 f0 f2 end
    ends_unread f0 f1 f2 t3 edge.ConnFault end up r u =
        subst (λ (t : Option Traffic). IsSession answers refusal_of s0 s1 t0 t f0 f2 end) (sym u.0)
        (subst (λ (e : SessionEnd). IsSession answers refusal_of s0 s1 t0 t2 f0 f2 e) (sym u.1)
        (inl (p.rounds, reader.kept ++ r.0, read_on s0 s1 t0 t1 t2 p.rounds reader.kept r.0 p.went r.1, (p.count, p.go_on))))
    ends_unread f0 f1 f2 t3 edge.OutOfMemory end up r u =
        subst (λ (t : Option Traffic). IsSession answers refusal_of s0 s1 t0 t f0 f2 end) (sym u.0)
        (subst (λ (e : SessionEnd). IsSession answers refusal_of s0 s1 t0 t2 f0 f2 e) (sym u.1)
        (inl (p.rounds, reader.kept ++ r.0, read_on s0 s1 t0 t1 t2 p.rounds reader.kept r.0 p.went r.1, (p.count, p.go_on))))
    ends_unread f0 f1 f2 t3 error end up r u = unread f0 f1 f2 t3 error end up r r.2 u

    -- a request was read, and given to the server
    module _ (q : HttpRequest) (r : ReadsNext reader.kept new.kept t1 t2 (Ok (Some q))) (s2 : S) (t3 : Option Traffic) where
      over_round : (front : List ℕ) → Over t2 t3 (record { read = []; written = front }) → Over t0 t3 (record { read = texts_of p.rounds ++ (r.2.0 ++ new.kept); written = answers_of p.rounds ++ front })
      over_round front o =
          let went = read_on s0 s1 t0 t1 t2 p.rounds reader.kept r.0 p.went r.1 in
          let over = wrote_over s0 s1 t0 t2 t3 p.rounds (reader.kept ++ r.0) front went o in
          subst (λ (stream : List ℕ). Over t0 t3 (record { read = texts_of p.rounds ++ stream; written = answers_of p.rounds ++ front })) r.2.2 over

      is_cut : (got : Result HttpResponse OutOfMemory) (front : List ℕ) → answers s1 q got s2 → Over t2 t3 (record { read = []; written = front }) → IsCut answers s0 s2 t0 t3 p.rounds q got new.kept front
      is_cut got front a o = record { server = s1; text = r.2.0; each = p.went.each; go_on = p.go_on; read = r.2.1; answered = a; over = over_round front o }

      pub ends_cut : (f0 f1 : ℕ) (error : EdgeError) → Turns answers s1 s2 q t2 t3 (Err error) → IsSession answers refusal_of s0 s2 t0 t3 f0 f1 (cut_end error n)
      ends_cut f0 f1 edge.ConnFault a = inr (inr (p.rounds, q, Ok a.0, new.kept, a.1, is_cut (Ok a.0) a.1 a.2 a.4, (p.count, (a.0, refl, a.3))))
      ends_cut f0 f1 edge.OutOfMemory a = inr (inr (p.rounds, q, a.0, new.kept, [], is_cut a.0 [] a.1 a.2, (p.count, refl)))
      ends_cut f0 f1 error a = absurd a

      -- the round that was answered whole
      abbrev round : HttpResponse → Round S
      round response = record { text = r.2.0; request = q; response = response; server = s2 }

      answered_went : (response : HttpResponse) → answers s1 q (Ok response) s2 → Over t2 t3 (record { read = []; written = answer_text q.close response })
          → Went answers s0 s2 t0 t3 (p.rounds ++ round response ∷ []) new.kept (answers_of (p.rounds ++ round response ∷ []))
      answered_went response a o =
          let more : List (Round S) = p.rounds ++ round response ∷ [] in
          let texts : texts_of p.rounds ++ (r.2.0 ++ new.kept) ≡ texts_of more ++ new.kept = sym (append_assoc (texts_of p.rounds) r.2.0 new.kept) ∙ ap (λ (t : List ℕ). t ++ new.kept) (sym (texts_more p.rounds (round response))) in
          record {
            each = rounds_more s0 s1 p.rounds (round response) p.went.each (r.2.1, a);
            over = subst (λ (w : List ℕ). Over t0 t3 (record { read = texts_of more ++ new.kept; written = w })) (sym (answers_more p.rounds (round response)))
                (subst (λ (t : List ℕ). Over t0 t3 (record { read = t; written = answers_of p.rounds ++ answer_text q.close response })) texts (over_round (answer_text q.close response) o));
          }

      pub ends_closed : (f0 f1 : ℕ) → Turns answers s1 s2 q t2 t3 (Ok tt) → q.close ≡ true → IsSession answers refusal_of s0 s2 t0 t3 f0 f1 (ends.Done (n + 1))
      ends_closed f0 f1 a close =
          let l = one_more p.rounds (round a.0) in
          let c = p.count in
          inl (p.rounds ++ round a.0 ∷ [], new.kept, answered_went a.0 a.1 a.2, ((let h : n + 1 ≡ length (p.rounds ++ round a.0 ∷ []) = omega arith in h), inr (p.rounds, round a.0, refl, p.go_on, close)))

      pub goes_on : Turns answers s1 s2 q t2 t3 (Ok tt) → q.close ≡ false → new.failed ≡ None → Progress s0 s2 t0 t3 new (n + 1)
      goes_on a close sound =
          let l = one_more p.rounds (round a.0) in
          let c = p.count in
          record {
            rounds = p.rounds ++ round a.0 ∷ [];
            went = answered_went a.0 a.1 a.2;
            go_on = goes_more p.rounds (round a.0) p.go_on close;
            count = (let h : n + 1 ≡ length (p.rounds ++ round a.0 ∷ []) = omega arith in h);
            sound = sound;
          }

  pub ends_spent : (refusal_of : EdgeError → Option HttpResponse) (s0 s1 : S) (t0 t1 : Option Traffic) (f0 f1 : ℕ) (reader : ReaderState) (n count : ℕ) → Progress s0 s1 t0 t1 reader n → n ≡ 2 ^ 62 → count ≡ 2 ^ 62
      → IsSession answers refusal_of s0 s1 t0 t1 f0 f1 (ends.Spent n count)
  ends_spent refusal_of s0 s1 t0 t1 f0 f1 reader n count p e c = inl (p.rounds, reader.kept, p.went, (p.count, p.go_on, e, c))

-- ---- what a write did

pub refusal_written : (f0 f1 n : ℕ) (t0 t1 : Option Traffic) (said : Option HttpResponse) (written : Result (Unit {0}) EdgeError)
    → WritesText t0 t1 (refusal_text said) written → (written ≡ Err edge.ConnFault → f0 < f1)
    → ((front : List ℕ) × Over t0 t1 (record { read = []; written = front }) × IsRefusal f0 f1 said front × (refused_end written n ≡ ends.Malformed n)) ⊎ (Over t0 t1 nothing × (refused_end written n ≡ ends.OutOfMemory n))
refusal_written f0 f1 n t0 t1 said (Ok x) w cause = inl (refusal_text said, w, inl refl, refl)
refusal_written f0 f1 n t0 t1 said (Err edge.ConnFault) w cause = inl (w.0, w.2, inr (w.1, cause refl), refl)
refusal_written f0 f1 n t0 t1 said (Err edge.OutOfMemory) w cause = inr (w, refl)
refusal_written f0 f1 n t0 t1 said (Err error) w cause = absurd w

-- nothing was to be written
pub refusal_none : (said : Option HttpResponse) (t : Option Traffic) → None ≡ said → Over t t (record { read = []; written = refusal_text said })
refusal_none said t e = subst (λ (r : Option HttpResponse). Over t t (record { read = []; written = refusal_text r })) e (over_nothing t)

pub turn_written : {S : Type 0} (answers : S → HttpRequest → Result HttpResponse OutOfMemory → S → Type 0) (s t : S) (q : HttpRequest) (t0 t1 : Option Traffic) (response : HttpResponse) (written : Result (Unit {0}) EdgeError)
    → answers s q (Ok response) t → WritesText t0 t1 (answer_text q.close response) written → Turns answers s t q t0 t1 written
turn_written answers s t q t0 t1 response (Ok x) a w = (response, a, w)
turn_written answers s t q t0 t1 response (Err edge.ConnFault) a w = (response, w.0, a, w.1, w.2)
turn_written answers s t q t0 t1 response (Err edge.OutOfMemory) a w = (Ok response, a, w)
turn_written answers s t q t0 t1 response (Err error) a w = absurd w

-- ---- counts of faults

abbrev pub ReadCause : ℕ → ℕ → Result (Option HttpRequest) EdgeError → Type 0
ReadCause f0 f1 answer = EdgeCause f0 f1 answer

abbrev pub WriteCause : ℕ → ℕ → Result (Unit {0}) EdgeError → Type 0
WriteCause f0 f1 written = EdgeCause f0 f1 written

fault_up : (f0 f1 : ℕ) → f0 < f1 → f0 ≤ f1
fault_up f0 f1 h = omega arith

later : (f0 f1 f2 : ℕ) → f0 ≤ f1 → f1 < f2 → f0 < f2
later f0 f1 f2 a b = omega arith

no_less : (f0 f1 f2 : ℕ) → f0 ≤ f1 → f1 ≤ f2 → f0 ≤ f2
no_less f0 f1 f2 a b = omega arith

pub read_up : (f0 f1 : ℕ) (error : EdgeError) → ReadCause f0 f1 (Err error) → f0 ≤ f1
read_up f0 f1 edge.ConnFault c = fault_up f0 f1 c
read_up f0 f1 error c = c

pub write_up : (f0 f1 : ℕ) (written : Result (Unit {0}) EdgeError) → WriteCause f0 f1 written → f0 ≤ f1
write_up f0 f1 (Ok x) c = c
write_up f0 f1 (Err edge.ConnFault) c = fault_up f0 f1 c
write_up f0 f1 (Err error) c = c

pub write_fault : (f0 f1 : ℕ) (written : Result (Unit {0}) EdgeError) → WriteCause f0 f1 written → written ≡ Err edge.ConnFault → f0 < f1
write_fault f0 f1 written c e = subst (λ (w : Result (Unit {0}) EdgeError). WriteCause f0 f1 w) e c

pub unread_other : (said : Option HttpResponse) (error : EdgeError) (n f0 f1 : ℕ) (t0 t1 : Option Traffic) (written : Result (Unit {0}) EdgeError) (end : SessionEnd)
    → (error ≡ edge.ConnFault → ⊥) → (error ≡ edge.OutOfMemory → ⊥) → WritesText t0 t1 (refusal_text said) written → (written ≡ Err edge.ConnFault → f0 < f1) → end ≡ refused_end written n
    → EndsUnread said error n f0 f1 t0 t1 end
unread_other said edge.ConnFault n f0 f1 t0 t1 written end a b w cause is = absurd (a refl)
unread_other said edge.OutOfMemory n f0 f1 t0 t1 written end a b w cause is = absurd (b refl)
unread_other said error n f0 f1 t0 t1 written end a b w cause is =
    elim (refusal_written f0 f1 n t0 t1 said written w cause) [
      | inl h ↦ inl (h.0, h.1, h.2, is ∙ h.3)
      | inr h ↦ inr (h.0, is ∙ h.1)
    ]

-- the cause of the end of a session whose reader answered an error
pub unread_cause : (said : Option HttpResponse) (error : EdgeError) (n f0 f1 f2 f3 : ℕ) (t0 t1 : Option Traffic) (end : SessionEnd)
    → f0 ≤ f1 → ReadCause f1 f2 (Err error) → f2 ≤ f3 → EndsUnread said error n f2 f3 t0 t1 end → SessionCause f0 f3 end
unread_cause said edge.ConnFault n f0 f1 f2 f3 t0 t1 end up c on u =
    let rose : f1 < f2 = c in
    let h : f0 < f3 = omega arith in
    subst (λ (e : SessionEnd). SessionCause f0 f3 e) (sym u.1) h
unread_cause said edge.OutOfMemory n f0 f1 f2 f3 t0 t1 end up c on u =
    subst (λ (e : SessionEnd). SessionCause f0 f3 e) (sym u.1) (no_less f0 f2 f3 (no_less f0 f1 f2 up c) on)
unread_cause said error n f0 f1 f2 f3 t0 t1 end up c on (inl u) =
    subst (λ (e : SessionEnd). SessionCause f0 f3 e) (sym u.3) (no_less f0 f2 f3 (no_less f0 f1 f2 up c) on)
unread_cause said error n f0 f1 f2 f3 t0 t1 end up c on (inr u) =
    subst (λ (e : SessionEnd). SessionCause f0 f3 e) (sym u.1) (no_less f0 f2 f3 (no_less f0 f1 f2 up c) on)

-- and of one in which an answer wasn't written whole
pub cut_cause : (error : EdgeError) (n f0 f1 f2 : ℕ) → f0 ≤ f1 → WriteCause f1 f2 (Err error) → SessionCause f0 f2 (cut_end error n)
cut_cause edge.ConnFault n f0 f1 f2 up c = later f0 f1 f2 up c
cut_cause error n f0 f1 f2 up c = no_less f0 f1 f2 up c
