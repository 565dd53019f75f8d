-- An exchange of HTTP: a request's text, and the reply that the bytes read are. Own.
use Rattle.std.specs.Prelude.{ℕ, List, Option, None, Result, Err}
use Rattle.actor_names.specs.declared.address.Address.{Address}
use Rattle.actor_ports.specs.Traffic.{Place, Traffic}
use Rattle.http_edge.specs.Carry.{Carried}
use Rattle.http_edge.specs.declared.message.HttpResponse.{HttpResponse}
use Rattle.http_edge.specs.declared.error.EdgeError.{EdgeError}
use Rattle.http_edge.specs.declared.error.EdgeError.TheVariants.{ConnFault, OutOfMemory}
use Rattle.http_edge.specs.Exchanges.{ExchangeGives}
use Rattle.http_edge.specs.Settled.{Settles}
use Rattle.exchanges.specs.Exchanges.{Exchange, IsExchange}

-- where the address leads
abbrev pub place_at : Address → Place
place_at a = record { ip = a.ip; port = a.port }

-- what an exchange comes to: a reply, or why there is none
abbrev pub Got : Type 0
Got = Result HttpResponse EdgeError

-- The text was written, and the bytes read, taken as a whole input, have this reply, or none by this cause; they leave no
-- other answer. After a fault or OutOfMemory both may be cut short. Since there is no traffic before, `after` says nothing.
pub record HttpCarries (text : List ℕ) (c : Carried) (got : Got) : Type 0 where
  pub after : Option Traffic
  pub gives : ExchangeGives text c None after got
  pub settles : Settles c.read got

-- one exchange of this text with that place
abbrev pub IsHttpExchange : List ℕ → Place → List Exchange → Got → Type 0
IsHttpExchange text at xs got = IsExchange (Err ConnFault) (Err OutOfMemory) (HttpCarries text) at xs got
