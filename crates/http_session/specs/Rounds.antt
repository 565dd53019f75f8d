-- Requests that a server was asked, one after the other, and what was written for each. Own; where a response says that
-- it is the last one is RFC 9112, section 9.6.
use Rattle.std.specs.Prelude.{◌≡◌, ℕ, Bool, true, false, List, [], ◌∷◌, ◌++◌, codes, Option, Some, None, Result, Ok, Err}
use Rattle.lists_and_limits.specs.declared.memory.OutOfMemory.{OutOfMemory}
use Rattle.actor_ports.specs.Traffic.{Traffic}
use Rattle.http_edge.specs.declared.message.HttpField.{HttpField}
use Rattle.http_edge.specs.declared.message.HttpRequest.{HttpRequest}
use Rattle.http_edge.specs.declared.message.HttpResponse.{HttpResponse}
use Rattle.http_edge.specs.declared.error.EdgeError.{EdgeError}
use Rattle.http_edge.specs.declared.error.EdgeError.TheVariants as edge
use Rattle.http_edge.specs.Carry.{Over, IsFront, nothing}
use Rattle.http_edge.specs.Requests.{IsRequestText}
use Rattle.http_edge.specs.Texts.{response_text}

abbrev pub close_field : HttpField
close_field = record { name = codes "Connection"; value = codes "close" }

-- a response as it is sent: the last one of its connection says so behind its other fields
abbrev pub sent : Bool → HttpResponse → HttpResponse
sent true r = record { status = r.status; fields = r.fields ++ close_field ∷ []; body = r.body }
sent false r = r

abbrev pub answer_text : Bool → HttpResponse → List ℕ
answer_text last r = response_text (sent last r)

-- what is to be written about bytes that have no reading: the response to them, if there is one, as the last one
abbrev pub refusal_text : Option HttpResponse → List ℕ
refusal_text None = []
refusal_text (Some response) = answer_text true response

-- one request: its bytes, what it asked, its response, and the server afterwards
pub record Round (S : Type 0) : Type 0 where
  pub text : List ℕ
  pub request : HttpRequest
  pub response : HttpResponse
  pub server : S

module _ {S : Type 0} where
  -- the bytes of the requests, and those of the responses
  abbrev pub texts_of : List (Round S) → List ℕ
  texts_of [] = []
  texts_of (r ∷ rounds) = r.text ++ texts_of rounds

  abbrev pub answers_of : List (Round S) → List ℕ
  answers_of [] = []
  answers_of (r ∷ rounds) = answer_text r.request.close r.response ++ answers_of rounds

  -- no request was the last of its connection
  abbrev pub GoOn : List (Round S) → Type 0
  GoOn [] = Unit {0}
  GoOn (r ∷ rounds) = (r.request.close ≡ false) × GoOn rounds

  -- the last request was, and no other
  abbrev pub Closes : List (Round S) → Type 0
  Closes rounds = (front : List (Round S)) × (last : Round S) × (rounds ≡ front ++ last ∷ []) × GoOn front × (last.request.close ≡ true)

-- what answering a request may do is a parameter: the server before, the request, its response unless memory ran out for
-- it, and the server afterwards
module _ {S : Type 0} (answers : S → HttpRequest → Result HttpResponse OutOfMemory → S → Type 0) where
  abbrev pub IsRound : S → Round S → Type 0
  IsRound s r = IsRequestText r.text r.request × answers s r.request (Ok r.response) r.server

  -- each request was answered by the server that the one before it had left
  abbrev pub AreRounds : S → List (Round S) → S → Type 0
  AreRounds s [] t = t ≡ s
  AreRounds s (r ∷ rounds) t = IsRound s r × AreRounds r.server rounds t

  -- what came of one request; the bytes went over the connection
  abbrev pub Turns : S → S → HttpRequest → Option Traffic → Option Traffic → Result (Unit {0}) EdgeError → Type 0
  Turns s t request before after (Ok x) =
      (response : HttpResponse) × answers s request (Ok response) t × Over before after (record { read = []; written = answer_text request.close response })
  Turns s t request before after (Err edge.ConnFault) =
      (response : HttpResponse) × (front : List ℕ) × answers s request (Ok response) t × IsFront front (answer_text request.close response)
      × Over before after (record { read = []; written = front })
  Turns s t request before after (Err edge.OutOfMemory) =
      (got : Result HttpResponse OutOfMemory) × answers s request got t × Over before after nothing
  Turns s t request before after (Err error) = ⊥
