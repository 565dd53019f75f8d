-- A session: the requests of a connection, answered in order, and why it ended. Own.
use Rattle.std.specs.Prelude.{◌≡◌, ◌⊎◌, ◌<◌, ◌≤◌, ◌^◌, ℕ, List, [], ◌++◌, length, Option, Result, Ok, Err}
use Rattle.lists_and_limits.specs.declared.memory.OutOfMemory.{OutOfMemory}
use Rattle.actor_ports.specs.declared.session.SessionEnd.{SessionEnd}
use Rattle.actor_ports.specs.declared.session.SessionEnd.TheVariants as ends
use Rattle.actor_ports.specs.Traffic.{Traffic}
use Rattle.http_edge.specs.declared.message.HttpRequest.{HttpRequest}
use Rattle.http_edge.specs.declared.message.HttpResponse.{HttpResponse}
use Rattle.http_edge.specs.declared.error.EdgeError.{EdgeError}
use Rattle.http_edge.specs.declared.error.EdgeError.TheVariants as edge
use Rattle.http_edge.specs.Carry.{Over, AtEnd, IsFront, nothing}
use Rattle.http_edge.specs.Requests.{IsRequestText, Refuses}
use Rattle.http_session.specs.Rounds.{Round, texts_of, answers_of, answer_text, refusal_text, GoOn, Closes, AreRounds}

-- the error says that the bytes have no reading
abbrev pub HasNoReading : List ℕ → Option Traffic → Option Traffic → EdgeError → Type 0
HasNoReading rest t0 t1 edge.ConnFault = ⊥
HasNoReading rest t0 t1 edge.OutOfMemory = ⊥
HasNoReading rest t0 t1 error = Refuses rest t0 t1 error

-- What was written about bytes that have no reading: the text of the response to them, if there is one. It may be cut short
-- only if the connection failed.
abbrev pub IsRefusal : ℕ → ℕ → Option HttpResponse → List ℕ → Type 0
IsRefusal f0 f1 said front = (front ≡ refusal_text said) ⊎ (IsFront front (refusal_text said) × (f0 < f1))

-- Why there was no further request. `rest` are the bytes that were read behind the last one.
abbrev pub EndsWith : {S : Type 0} → SessionEnd → List (Round S) → List ℕ → Option Traffic → Option Traffic → Type 0
EndsWith (ends.Done n) rounds rest t0 t1 = (n ≡ length rounds) × ((GoOn rounds × (rest ≡ []) × AtEnd t0 t1) ⊎ Closes rounds)
EndsWith (ends.ConnFault n) rounds rest t0 t1 = (n ≡ length rounds) × GoOn rounds
EndsWith (ends.OutOfMemory n) rounds rest t0 t1 = (n ≡ length rounds) × GoOn rounds
EndsWith (ends.Spent n count) rounds rest t0 t1 = (n ≡ length rounds) × GoOn rounds × (n ≡ 2 ^ 62) × (count ≡ 2 ^ 62)
EndsWith (ends.Malformed n) rounds rest t0 t1 = ⊥
EndsWith (ends.Broken n) rounds rest t0 t1 = ⊥

-- why the answer to one more request wasn't written whole, of which these bytes were
abbrev pub EndsCut : {S : Type 0} → SessionEnd → List (Round S) → HttpRequest → Result HttpResponse OutOfMemory → List ℕ → Type 0
EndsCut (ends.ConnFault n) rounds request got front =
    (n ≡ length rounds) × ((response : HttpResponse) × (got ≡ Ok response) × IsFront front (answer_text request.close response))
EndsCut (ends.OutOfMemory n) rounds request got front = (n ≡ length rounds) × (front ≡ [])
EndsCut end rounds request got front = ⊥

-- the count of faults rises if the connection failed
abbrev pub SessionCause : ℕ → ℕ → SessionEnd → Type 0
SessionCause before after (ends.ConnFault n) = before < after
SessionCause before after end = before ≤ after

-- how a server answers is a parameter, and so is what is said about bytes that have no reading
module _ {S : Type 0} (answers : S → HttpRequest → Result HttpResponse OutOfMemory → S → Type 0) where
  -- These requests were answered, in order, and each was one answer of the server. These bytes were read behind them, and
  -- these were written.
  pub record Went (s0 s1 : S) (t0 t1 : Option Traffic) (rounds : List (Round S)) (rest written : List ℕ) : Type 0 where
    pub each : AreRounds answers s0 rounds s1
    pub over : Over t0 t1 (record { read = texts_of rounds ++ rest; written = written })

  -- one request more was read and given to the server, and these bytes of its answer were written
  pub record IsCut (s0 s1 : S) (t0 t1 : Option Traffic) (rounds : List (Round S)) (request : HttpRequest) (got : Result HttpResponse OutOfMemory) (rest front : List ℕ) : Type 0 where
    pub server : S
    pub text : List ℕ
    pub each : AreRounds answers s0 rounds server
    pub go_on : GoOn rounds
    pub read : IsRequestText text request
    pub answered : answers server request got s1
    pub over : Over t0 t1 (record { read = texts_of rounds ++ (text ++ rest); written = answers_of rounds ++ front })

  -- a session that ended between two requests
  abbrev pub EndsBetween : S → S → Option Traffic → Option Traffic → SessionEnd → Type 0
  EndsBetween s0 s1 t0 t1 end = (rounds : List (Round S)) × (rest : List ℕ) × Went s0 s1 t0 t1 rounds rest (answers_of rounds) × EndsWith end rounds rest t0 t1

  -- a session that ended in the answer to one more request
  abbrev pub EndsInAnswer : S → S → Option Traffic → Option Traffic → SessionEnd → Type 0
  EndsInAnswer s0 s1 t0 t1 end =
      (rounds : List (Round S)) × (request : HttpRequest) × (got : Result HttpResponse OutOfMemory) × (rest : List ℕ) × (front : List ℕ)
      × IsCut s0 s1 t0 t1 rounds request got rest front × EndsCut end rounds request got front

  module _ (refusal_of : EdgeError → Option HttpResponse) where
    -- A session that ended at bytes that have no reading, to which the response was written. If memory ran out for it, the
    -- session ended with that, between two requests.
    abbrev pub EndsRefused : S → S → Option Traffic → Option Traffic → ℕ → ℕ → SessionEnd → Type 0
    EndsRefused s0 s1 t0 t1 f0 f1 end =
        (rounds : List (Round S)) × (rest : List ℕ) × (front : List ℕ) × (error : EdgeError)
        × Went s0 s1 t0 t1 rounds rest (answers_of rounds ++ front) × GoOn rounds
        × HasNoReading rest t0 t1 error × IsRefusal f0 f1 (refusal_of error) front × (end ≡ ends.Malformed (length rounds))

    abbrev pub IsSession : S → S → Option Traffic → Option Traffic → ℕ → ℕ → SessionEnd → Type 0
    IsSession s0 s1 t0 t1 f0 f1 end = EndsBetween s0 s1 t0 t1 end ⊎ (EndsRefused s0 s1 t0 t1 f0 f1 end ⊎ EndsInAnswer s0 s1 t0 t1 end)

-- ---- the end of reading

-- how a session ends if an answer isn't written whole
abbrev pub cut_end : EdgeError → ℕ → SessionEnd
cut_end edge.ConnFault n = ends.ConnFault n
cut_end error n = ends.OutOfMemory n

-- how a session ends at bytes that have no reading, after this came of the response to them
abbrev pub refused_end : Result (Unit {0}) EdgeError → ℕ → SessionEnd
refused_end (Err edge.OutOfMemory) n = ends.OutOfMemory n
refused_end written n = ends.Malformed n

-- what is done about an error of reading, to which this is the response, and how the session ends then
abbrev pub EndsUnread : Option HttpResponse → EdgeError → ℕ → ℕ → ℕ → Option Traffic → Option Traffic → SessionEnd → Type 0
EndsUnread said edge.ConnFault n f0 f1 t0 t1 end = (t1 ≡ t0) × (end ≡ ends.ConnFault n)
EndsUnread said edge.OutOfMemory n f0 f1 t0 t1 end = (t1 ≡ t0) × (end ≡ ends.OutOfMemory n)
EndsUnread said error n f0 f1 t0 t1 end =
    ((front : List ℕ) × Over t0 t1 (record { read = []; written = front }) × IsRefusal f0 f1 said front × (end ≡ ends.Malformed n))
    ⊎ (Over t0 t1 nothing × (end ≡ ends.OutOfMemory n))
