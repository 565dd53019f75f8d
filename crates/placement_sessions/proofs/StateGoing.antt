-- How a session over HTTP goes on, and how it ends.
use Rattle.std.proofs.Common.{◌≡◌, ◌+◌, ℕ, true, false, List, [], ◌∷◌, ◌++◌, length, Option, Some, None, Ok, Err, refl, sym, ap, subst, ◌∙◌, append_assoc, append-nil, length-append, inl, inr, arith}
use Rattle.actor_ports.specs.declared.port.PortError.{PortError}
use Rattle.actor_ports.specs.declared.port.PortError.TheVariants as ports
use Rattle.actor_ports.specs.declared.session.SessionEnd.TheVariants.{Done, Malformed, Broken, Spent}
use Rattle.actor_ports.specs.Traffic.{Traffic}
use Rattle.step_gate.proofs.Waits.{grows_on}
use Rattle.http_edge.specs.declared.error.EdgeError.{EdgeError}
use Rattle.http_edge.specs.declared.error.EdgeError.TheVariants as edge
use Rattle.http_edge.specs.declared.message.HttpRequest.{HttpRequest}
use Rattle.http_edge.specs.declared.message.HttpResponse.{HttpResponse}
use Rattle.http_edge.specs.Carry.{Carried, Over, AtEnd}
use Rattle.http_edge.specs.Requests.{Refuses, ReadsNext}
use Rattle.http_edge.specs.Texts.{response_text}
use Rattle.http_edge.proofs.Carried.{over_nothing, over_then, told_along}
use Rattle.frame_session.specs.Sessions.{cut_end}
use Rattle.placement_sessions.proofs.StateTurning.{grows_none}
use Rattle.placement_sessions.specs.StateTurns.{NodeEntry, NodeSeat, Moments, Passes, AnswersTo, RefusedBy}
use Rattle.placement_sessions.specs.StateSessions.{Served, IsServed, AreServed, texts, looks_of, responses, StaysOpen, Went, BeginsWith, IsStateSession, most_requests}
use Rattle.placement_sessions.specs.declared.state_turn.StateTurn.TheVariants as turns

-- ---- one round more at the end

texts_more : (rounds : List Served) (r : Served) → texts (rounds ++ r ∷ []) ≡ texts rounds ++ r.text
texts_more [] r = append-nil r.text
texts_more (q ∷ rounds) r = ap (λ (l : List ℕ). q.text ++ l) (texts_more rounds r) ∙ sym (append_assoc q.text (texts rounds) r.text)

looks_more : (rounds : List Served) (r : Served) → looks_of (rounds ++ r ∷ []) ≡ looks_of rounds ++ r.looks
looks_more [] r = append-nil r.looks
looks_more (q ∷ rounds) r = ap (λ (l : List NodeEntry). q.looks ++ l) (looks_more rounds r) ∙ sym (append_assoc q.looks (looks_of rounds) r.looks)

responses_more : (rounds : List Served) (r : Served) → responses (rounds ++ r ∷ []) ≡ responses rounds ++ response_text r.response
responses_more [] r = append-nil (response_text r.response)
responses_more (q ∷ rounds) r = ap (λ (l : List ℕ). response_text q.response ++ l) (responses_more rounds r) ∙ sym (append_assoc (response_text q.response) (responses rounds) (response_text r.response))

served_more : (rounds : List Served) (r : Served) → AreServed rounds → IsServed r → AreServed (rounds ++ r ∷ [])
served_more [] r all one = (one, tt)
served_more (q ∷ rounds) r all one = (all.0, served_more rounds r all.1 one)

open_more : (rounds : List Served) (r : Served) → StaysOpen rounds → r.request.close ≡ false → StaysOpen (rounds ++ r ∷ [])
open_more [] r all one = (one, tt)
open_more (q ∷ rounds) r all one = (all.0, open_more rounds r all.1 one)

-- ---- steps, moments and bytes add up

moments_on : (xs ys : List NodeEntry) (a b d : ℕ) → Moments a xs b → Moments b ys d → Moments a (xs ++ ys) d
moments_on [] [] a b d m n = omega arith
moments_on [] (y ∷ ys) a b d m n = (omega (arith, n.0), n.1)
moments_on (x ∷ xs) ys a b d m n = (m.0, moments_on xs ys x.entry.event.now b d m.1 n)

carried_on : (before kept got written front : List ℕ) →
    (let c : Carried = record { read = ((before ++ kept) ++ got) ++ []; written = (written ++ []) ++ front } in c) ≡ record { read = before ++ (kept ++ got); written = written ++ front }
carried_on before kept got written front = rw (append-nil ((before ++ kept) ++ got), append_assoc before kept got, append-nil written) refl

-- bytes were read, and then these entries were made and these bytes written
passes_on : (xs ys : List NodeEntry) (s0 s1 s2 : NodeSeat) (m0 m1 m2 : ℕ) (t0 t1 mid t2 : Option Traffic) (before kept got written front : List ℕ)
    → Passes xs s0 s1 m0 m1 t0 t1 (before ++ kept) written → Over t1 mid (record { read = got; written = [] }) → Passes ys s1 s2 m1 m2 mid t2 [] front
    → Passes (xs ++ ys) s0 s2 m0 m2 t0 t2 (before ++ (kept ++ got)) (written ++ front)
passes_on xs ys s0 s1 s2 m0 m1 m2 t0 t1 mid t2 before kept got written front p o q =
    let read = over_then t0 t1 mid (record { read = before ++ kept; written = written }) (record { read = got; written = [] }) p.over o in
    let both = over_then t0 mid t2 (record { read = (before ++ kept) ++ got; written = written ++ [] }) (record { read = []; written = front }) read q.over in
    record {
      made = grows_on xs ys s0 s1 s2 p.made q.made;
      moments = moments_on xs ys m0 m1 m2 p.moments q.moments;
      over = subst (λ (c : Carried). Over t0 t2 c) (carried_on before kept got written front) both;
    }

-- nothing happened
passes_none : (s : NodeSeat) (m : ℕ) (t : Option Traffic) → Passes [] s s m m t t [] []
passes_none s m t = record { made = grows_none s; moments = omega arith; over = over_nothing t }

-- where a session stands between two requests
pub record Progress (s0 s1 : NodeSeat) (m0 m1 : ℕ) (t0 t1 : Option Traffic) (kept : List ℕ) (requests : ℕ) : Type 0 where
  pub rounds : List Served
  pub each : AreServed rounds
  pub passes : Passes (looks_of rounds) s0 s1 m0 m1 t0 t1 (texts rounds ++ kept) (responses rounds)
  pub on : StaysOpen rounds
  pub count : requests ≡ length rounds

pub start : (s : NodeSeat) (m : ℕ) (t : Option Traffic) → Progress s s m m t t [] 0
start s m t = record { rounds = []; each = tt; passes = passes_none s m t; on = tt; count = refl }

-- whatever came of it, bytes that are refused at the end of a stream are so when they are seen from its beginning
refuses_along : (a b d : Option Traffic) (c : Carried) (stream : List ℕ) (e : EdgeError) → Over a b c → Refuses stream b d e → Refuses stream a d e
refuses_along a b d c stream edge.BadHead o r = r
refuses_along a b d c stream edge.HeadTooLong o r = r
refuses_along a b d c stream edge.TooManyFields o r = r
refuses_along a b d c stream edge.Chunked o r = r
refuses_along a b d c stream edge.BadLength o r = r
refuses_along a b d c stream (edge.BodyTooLong n) o r = r
refuses_along a b d c stream (edge.CutShort n) o r = (r.0, r.1, told_along a b d c o r.2, r.3)
refuses_along a b d c stream edge.ConnFault o r = r
refuses_along a b d c stream edge.OutOfMemory o r = r

-- bytes that end inside a request get no response, so nothing was written behind them
ended_same : (stream : List ℕ) (a b d : Option Traffic) (front : List ℕ) (e : EdgeError) → RefusedBy e front → Over b d (record { read = []; written = front }) → Refuses stream a b e → Refuses stream a d e
ended_same stream a b d front edge.BadHead w o r = r
ended_same stream a b d front edge.HeadTooLong w o r = r
ended_same stream a b d front edge.TooManyFields w o r = r
ended_same stream a b d front edge.Chunked w o r = r
ended_same stream a b d front edge.BadLength w o r = r
ended_same stream a b d front (edge.BodyTooLong n) w o r = r
ended_same stream a b d front (edge.CutShort n) w o r = (r.0, r.1, still_at_end a b d front o r.2, r.3)
  where
    still_at_end : (a b d : Option Traffic) (front : List ℕ) → Over b d (record { read = []; written = front }) → AtEnd a b → AtEnd a d
    still_at_end None b d front o e = tt
    still_at_end (Some t) b d front o e = go b e.1 o
      where
        go : (x : Option Traffic) → x ≡ Some e.0 → Over x d (record { read = []; written = front }) → AtEnd (Some t) d
        go None is over = absurd cc
        go (Some u) is over =
            let same : u ≡ e.0 = cc in
            let none : over.0 ≡ [] = sym over.1 ∙ ap (λ (x : Traffic). x.left) same ∙ e.2 in
            (record { at = u.at; read = u.read ++ []; left = over.0; written = u.written ++ front }, over.2, none)
ended_same stream a b d front edge.ConnFault w o r = r
ended_same stream a b d front edge.OutOfMemory w o r = r

module _ (s0 s1 : NodeSeat) (m0 m1 : ℕ) (t0 t1 : Option Traffic) (kept : List ℕ) (n : ℕ) (p : Progress s0 s1 m0 m1 t0 t1 kept n) where
  module _ (more : List ℕ) (mid : Option Traffic) where
    -- bytes were read, and nothing else happened
    went_got : (got : List ℕ) (front : List ℕ) (t2 : Option Traffic) → Over t1 mid (record { read = got; written = [] }) → Over mid t2 (record { read = []; written = front }) → Went p.rounds [] s0 s1 m0 m1 t0 t2 (kept ++ got) front
    went_got got front t2 o w = record {
      each = p.each;
      passes = passes_on (looks_of p.rounds) [] s0 s1 s1 m0 m1 m1 t0 t1 mid t2 (texts p.rounds) kept got (responses p.rounds) front p.passes o (record { made = grows_none s1; moments = omega arith; over = w });
    }

    pub read_nothing : ReadsNext kept more t1 mid (Ok None) → IsStateSession s0 s1 m0 m1 t0 mid (Done n)
    read_nothing r = (
      p.rounds,
      [],
      kept ++ r.0,
      [],
      went_got r.0 [] mid r.1 (over_nothing mid),
      (p.count, refl, refl, inl (p.on, r.2.0, told_along t0 t1 mid (record { read = texts p.rounds ++ kept; written = responses p.rounds }) p.passes.over r.2.1)),
    )

    cuts_here : (e : PortError) (rest : List ℕ) → Went p.rounds [] s0 s1 m0 m1 t0 mid rest [] → IsStateSession s0 s1 m0 m1 t0 mid (cut_end e n)
    cuts_here ports.Failed rest w = (p.rounds, [], rest, [], w, (p.count, p.on, inl (refl, refl)))
    cuts_here ports.OutOfMemory rest w = (p.rounds, [], rest, [], w, (p.count, p.on, inl (refl, refl)))

    pub read_cut : (e : PortError) (x : EdgeError) → ReadsNext kept more t1 mid (Err x) → IsStateSession s0 s1 m0 m1 t0 mid (cut_end e n)
    read_cut e x r = cuts_here e (kept ++ r.0) (went_got r.0 [] mid r.1 (over_nothing mid))

    pub read_refused : (e : EdgeError) (t2 : Option Traffic) → ReadsNext kept more t1 mid (Err e) → (front : List ℕ) × RefusedBy e front × Over mid t2 (record { read = []; written = front }) → IsStateSession s0 s1 m0 m1 t0 t2 (Malformed n)
    read_refused e t2 r f =
        let seen = refuses_along t0 t1 mid (record { read = texts p.rounds ++ kept; written = responses p.rounds }) (kept ++ r.0) e p.passes.over r.2 in
        (p.rounds, [], kept ++ r.0, f.0, went_got r.0 f.0 t2 r.1 f.2, (p.count, p.on, refl, (e, ended_same (kept ++ r.0) t0 mid t2 f.0 e f.1 f.2 seen, f.1)))

    -- ---- a request was read
    module _ (q : HttpRequest) (r : ReadsNext kept more t1 mid (Ok (Some q))) (s2 : NodeSeat) (m2 : ℕ) (t2 : Option Traffic) where
      begins : BeginsWith (kept ++ r.0) q
      begins = (r.2.0, more, r.2.1, r.2.2)

      went_answer : (looks : List NodeEntry) (front : List ℕ) → Passes looks s1 s2 m1 m2 mid t2 [] front → Went p.rounds looks s0 s2 m0 m2 t0 t2 (kept ++ r.0) front
      went_answer looks front a = record {
        each = p.each;
        passes = passes_on (looks_of p.rounds) looks s0 s1 s2 m0 m1 m2 t0 t1 mid t2 (texts p.rounds) kept r.0 (responses p.rounds) front p.passes r.1 a;
      }

      -- the round of a request that was answered
      round_of : List NodeEntry → HttpResponse → Served
      round_of looks response = record { request = q; text = r.2.0; looks = looks; response = response }

      whole_passes : (looks : List NodeEntry) (x : HttpResponse) → Passes looks s1 s2 m1 m2 mid t2 [] (response_text x)
          → Passes (looks_of (p.rounds ++ round_of looks x ∷ [])) s0 s2 m0 m2 t0 t2 (texts (p.rounds ++ round_of looks x ∷ []) ++ more) (responses (p.rounds ++ round_of looks x ∷ []))
      unfolding round_of
      whole_passes looks x a =
          let one = round_of looks x in
          let w = went_answer looks (response_text x) a in
          let read : texts p.rounds ++ (kept ++ r.0) ≡ texts (p.rounds ++ one ∷ []) ++ more =
          ap (λ (l : List ℕ). texts p.rounds ++ l) r.2.2 ∙ sym (append_assoc (texts p.rounds) r.2.0 more) ∙ ap (λ (l : List ℕ). l ++ more) (sym (texts_more p.rounds one)) in
          subst (λ (es : List NodeEntry). Passes es s0 s2 m0 m2 t0 t2 (texts (p.rounds ++ one ∷ []) ++ more) (responses (p.rounds ++ one ∷ []))) (sym (looks_more p.rounds one))
          (subst (λ (l : List ℕ). Passes (looks_of p.rounds ++ looks) s0 s2 m0 m2 t0 t2 (texts (p.rounds ++ one ∷ []) ++ more) l) (sym (responses_more p.rounds one))
          (subst (λ (l : List ℕ). Passes (looks_of p.rounds ++ looks) s0 s2 m0 m2 t0 t2 l (responses p.rounds ++ response_text x)) read w.passes))

      counted : (one : Served) → n + 1 ≡ length (p.rounds ++ one ∷ [])
      counted one = let more_by = length-append p.rounds (one ∷ []) in let count = p.count in omega arith

      pub answered_on : AnswersTo q s1 s2 m1 m2 mid t2 (turns.Answered false) → Progress s0 s2 m0 m2 t0 t2 more (n + 1)
      unfolding round_of
      answered_on a = record {
        rounds = p.rounds ++ round_of a.0 a.1 ∷ [];
        each = served_more p.rounds (round_of a.0 a.1) p.each (r.2.1, a.2);
        passes = whole_passes a.0 a.1 a.4;
        on = open_more p.rounds (round_of a.0 a.1) p.on (sym a.3);
        count = counted (round_of a.0 a.1);
      }

      pub answered_last : AnswersTo q s1 s2 m1 m2 mid t2 (turns.Answered true) → IsStateSession s0 s2 m0 m2 t0 t2 (Done (n + 1))
      unfolding round_of
      answered_last a =
          let one = round_of a.0 a.1 in
          let whole = whole_passes a.0 a.1 a.4 in
          let went : Went (p.rounds ++ one ∷ []) [] s0 s2 m0 m2 t0 t2 more [] = record {
            each = served_more p.rounds one p.each (r.2.1, a.2);
            passes =
                subst (λ (es : List NodeEntry). Passes es s0 s2 m0 m2 t0 t2 (texts (p.rounds ++ one ∷ []) ++ more) (responses (p.rounds ++ one ∷ []) ++ [])) (sym (append-nil (looks_of (p.rounds ++ one ∷ []))))
                (subst (λ (l : List ℕ). Passes (looks_of (p.rounds ++ one ∷ [])) s0 s2 m0 m2 t0 t2 (texts (p.rounds ++ one ∷ []) ++ more) l) (sym (append-nil (responses (p.rounds ++ one ∷ [])))) whole);
          } in
          (p.rounds ++ one ∷ [], [], more, [], went, (counted one, refl, refl, inr (p.rounds, one, refl, p.on, sym a.3)))

      pub answer_cut : (e : PortError) → AnswersTo q s1 s2 m1 m2 mid t2 (turns.Cut e) → IsStateSession s0 s2 m0 m2 t0 t2 (cut_end e n)
      answer_cut ports.Failed a = (p.rounds, a.0, kept ++ r.0, a.2, went_answer a.0 a.2 a.5, (p.count, p.on, inr (q, a.1, begins, a.3, a.4)))
      answer_cut ports.OutOfMemory a = (p.rounds, a.0, kept ++ r.0, a.2, went_answer a.0 a.2 a.5, (p.count, p.on, inr (q, a.1, begins, a.3, a.4)))

      pub answer_broken : AnswersTo q s1 s2 m1 m2 mid t2 turns.Broken → IsStateSession s0 s2 m0 m2 t0 t2 (Broken n)
      answer_broken a = (p.rounds, a.1 ∷ [], kept ++ r.0, [], went_answer (a.1 ∷ []) [] a.4, (p.count, p.on, refl, (q, a.0, a.1, begins, refl, a.2, a.3)))

      pub answer_spent : (count : ℕ) → AnswersTo q s1 s2 m1 m2 mid t2 (turns.Spent count) → IsStateSession s0 s2 m0 m2 t0 t2 (Spent n count)
      answer_spent count a = (p.rounds, [], kept ++ r.0, [], went_answer [] [] a.4, (p.count, p.on, refl, refl, inr (q, a.0, begins, a.1, a.2, a.3)))

  -- the count of requests has reached its end
  pub requests_spent : n ≡ most_requests → IsStateSession s0 s1 m0 m1 t0 t1 (Spent n n)
  requests_spent most =
      let went : Went p.rounds [] s0 s1 m0 m1 t0 t1 kept [] = record {
        each = p.each;
        passes =
            subst (λ (es : List NodeEntry). Passes es s0 s1 m0 m1 t0 t1 (texts p.rounds ++ kept) (responses p.rounds ++ [])) (sym (append-nil (looks_of p.rounds)))
            (subst (λ (l : List ℕ). Passes (looks_of p.rounds) s0 s1 m0 m1 t0 t1 (texts p.rounds ++ kept) l) (sym (append-nil (responses p.rounds))) p.passes);
      } in
      (p.rounds, [], kept, [], went, (p.count, p.on, refl, refl, inl (most, most)))
