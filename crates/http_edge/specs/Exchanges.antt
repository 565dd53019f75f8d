-- One exchange: a request is written, and its reply is read to its end.
use Rattle.std.specs.Prelude.{◌≡◌, ◌⊎◌, ℕ, List, [], Option, Result, Ok, Err}
use Rattle.actor_ports.specs.Traffic.{Traffic}
use Rattle.http_edge.specs.declared.message.HttpResponse.{HttpResponse}
use Rattle.http_edge.specs.declared.error.EdgeError.{EdgeError}
use Rattle.http_edge.specs.declared.error.EdgeError.TheVariants.{ConnFault, OutOfMemory}
use Rattle.http_edge.specs.Carry.{Carried, IsFront, Over}
use Rattle.http_edge.specs.Replies.{HasReply, HasNoReading}
use Rattle.http_edge.specs.Settled.{Settles}

-- a prefix of the text was written, and nothing was read before all of it was written
abbrev pub IsCutExchange : List ℕ → Carried → Type 0
IsCutExchange text c = IsFront c.written text × ((c.written ≡ text) ⊎ (c.read ≡ []))

-- the text was written, and what was read has this reply or none; a fault or OutOfMemory may have cut both short
abbrev pub ExchangeGives : List ℕ → Carried → Option Traffic → Option Traffic → Result HttpResponse EdgeError → Type 0
ExchangeGives text c before after (Ok r) = (c.written ≡ text) × HasReply c.read before after r
ExchangeGives text c before after (Err ConnFault) = IsCutExchange text c
ExchangeGives text c before after (Err OutOfMemory) = IsCutExchange text c
ExchangeGives text c before after (Err e) = (c.written ≡ text) × HasNoReading c.read before after e

-- what went over the connection gives the answer, and leaves no other one
abbrev pub Exchanges : List ℕ → Option Traffic → Option Traffic → Result HttpResponse EdgeError → Type 0
Exchanges text before after result = (c : Carried) × Over before after c × ExchangeGives text c before after result × Settles c.read result
