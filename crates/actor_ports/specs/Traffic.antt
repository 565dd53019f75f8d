-- What goes over a connection, and what a dialler reports of its links: own definitions.
use Rattle.std.specs.Prelude.{◌≡◌, ◌<◌, ◌≤◌, ℕ, ◌↔◌, List, [], ◌∷◌, ◌++◌, length, take, drop, Option, Some, None, Result, Ok, Err}
use Rattle.actor_ports.specs.declared.port.PortError.{PortError}
use Rattle.actor_ports.specs.declared.port.PortError.TheVariants.{Failed, OutOfMemory}

-- where a link leads: a port, and an IPv4 address as a number whose highest byte is the address's first
pub record Place : Type 0 where
  pub ip : ℕ
  pub port : ℕ

-- a connection that reports its bytes: where it leads, what was read of it, what is left to read, what was written
-- to it
pub record Traffic : Type 0 where
  pub at : Place
  pub read : List ℕ
  pub left : List ℕ
  pub written : List ℕ

-- after the next n bytes were read
abbrev pub took : ℕ → Traffic → Traffic
took n t = record t { read = t.read ++ take n t.left; left = drop n t.left }

-- after these bytes were written
abbrev pub sent : List ℕ → Traffic → Traffic
sent bytes t = record t { written = t.written ++ bytes }

-- how a read changes the traffic; after an error nothing was taken
abbrev pub Receives : Option Traffic → Option Traffic → Result ℕ PortError → Type 0
Receives None rest result = Unit {0}
Receives (Some t) rest (Ok n) = rest ≡ Some (took n t)
Receives (Some t) rest (Err e) = rest ≡ Some t

-- some prefix of the bytes was sent, and no more
abbrev pub SendsFront : Traffic → Option Traffic → List ℕ → Type 0
SendsFront t after bytes = (n : ℕ) × (n ≤ length bytes) × (after ≡ Some (sent (take n bytes) t))

-- a write to a connection sends all of the bytes, a failed one a prefix of them, and OutOfMemory none
abbrev pub Sends : {T : Type 0} → Option Traffic → Option Traffic → List ℕ → Result T PortError → Type 0
Sends None after bytes result = Unit {0}
Sends (Some t) after bytes (Ok x) = after ≡ Some (sent bytes t)
Sends (Some t) after bytes (Err Failed) = SendsFront t after bytes
Sends (Some t) after bytes (Err OutOfMemory) = after ≡ Some t

-- a link given back: where it leads, what was read of it and what was written to it
pub record Returned : Type 0 where
  pub at : Place
  pub read : List ℕ
  pub written : List ℕ

abbrev pub returned : Traffic → Returned
returned t = record { at = t.at; read = t.read; written = t.written }

-- what a dialler reports: the places dialled, even if the dial failed, and the links given back
pub record Dialled : Type 0 where
  pub places : List Place
  pub links : List Returned

-- its value before the first dial
abbrev pub nothing_dialled : Dialled
nothing_dialled = record { places = []; links = [] }

-- a link that was just dialled there: it reports its bytes, and none was read or written yet
abbrev pub IsNewLink : Place → Option Traffic → Type 0
IsNewLink at None = ⊥
IsNewLink at (Some t) = (t.at ≡ at) × (t.read ≡ []) × (t.written ≡ [])

-- one more place was dialled, and the link is new; OutOfMemory dials nothing
abbrev pub Dials : {L : Type 0} → (L → Option Traffic) → Option Dialled → Option Dialled → Place → Result L PortError → Type 0
Dials look None after at result = Unit {0}
Dials look (Some d) after at (Ok link) = (after ≡ Some (record d { places = d.places ++ at ∷ [] })) × IsNewLink at (look link)
Dials look (Some d) after at (Err Failed) = after ≡ Some (record d { places = d.places ++ at ∷ [] })
Dials look (Some d) after at (Err OutOfMemory) = after ≡ Some d

-- after a dial one more link can be given back; a dial that fails doesn't lower the number
abbrev pub TakesRoom : {L : Type 0} → ℕ → ℕ → Result L PortError → Type 0
TakesRoom before after (Ok link) = before < after
TakesRoom before after (Err e) = before ≤ after

-- one more link was given back
abbrev pub TakesBack : Option Dialled → Option Dialled → Option Traffic → Type 0
TakesBack None after link = Unit {0}
TakesBack (Some d) after None = Unit {0}
TakesBack (Some d) after (Some t) = after ≡ Some (record d { links = d.links ++ returned t ∷ [] })

-- the dialler's count rises exactly if the link's is above 0
pub record Counts (before after link : ℕ) : Type 0 where
  pub never_falls : before ≤ after
  pub rises : (before < after) ↔ (0 < link)

-- another dialler of the same kind, with nothing dialled yet; it reports this if the first one reports
abbrev pub StartsAnew : Option Dialled → Option Dialled → Type 0
StartsAnew None other = Unit {0}
StartsAnew (Some d) other = other ≡ Some nothing_dialled
