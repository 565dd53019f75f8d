-- What went over a connection: own definitions. The bytes exist whether or not the connection reports them.
use Rattle.std.specs.Prelude.{◌≡◌, ℕ, List, [], ◌++◌, length, take, Option, Some, None, Result, Ok, Err}
use Rattle.actor_ports.specs.declared.port.PortError.{PortError}
use Rattle.actor_ports.specs.declared.port.PortError.TheVariants.{Failed, OutOfMemory}
use Rattle.actor_ports.specs.Traffic.{Traffic}

-- bytes read and bytes written
pub record Carried : Type 0 where
  pub read : List ℕ
  pub written : List ℕ

abbrev pub nothing : Carried
nothing = record { read = []; written = [] }

-- first the one, then the other
abbrev pub then_carried : Carried → Carried → Carried
then_carried c d = record { read = c.read ++ d.read; written = c.written ++ d.written }

-- if the connection reports its bytes, these went over it, and no others
abbrev pub Over : Option Traffic → Option Traffic → Carried → Type 0
Over None after c = Unit {0}
Over (Some t) after c =
    (rest : List ℕ) × (t.left ≡ c.read ++ rest) × (after ≡ Some (record { at = t.at; read = t.read ++ c.read; left = rest; written = t.written ++ c.written }))

-- if the connection reports its bytes, none are left
abbrev pub AtEnd : Option Traffic → Option Traffic → Type 0
AtEnd None after = Unit {0}
AtEnd (Some t) after = (u : Traffic) × (after ≡ Some u) × (u.left ≡ [])

-- a prefix of the bytes
pub record IsFront (front bytes : List ℕ) : Type 0 where
  pub count : ℕ
  pub is : front ≡ take count bytes

-- all of the bytes were written; after Failed a prefix of them, and after OutOfMemory none
abbrev pub Writes : {T : Type 0} → Option Traffic → Option Traffic → List ℕ → Result T PortError → Type 0
Writes before after bytes (Ok x) = Over before after (record { read = []; written = bytes })
Writes before after bytes (Err Failed) = (front : List ℕ) × IsFront front bytes × Over before after (record { read = []; written = front })
Writes before after bytes (Err OutOfMemory) = Over before after nothing

-- what was appended was read: it is empty only at the end, and after an error nothing was appended or read
abbrev pub Reads : Option Traffic → Option Traffic → List ℕ → List ℕ → Result ℕ PortError → Type 0
Reads before after old new (Ok n) =
    (got : List ℕ) × (length got ≡ n) × (new ≡ old ++ got) × Over before after (record { read = got; written = [] }) × (n ≡ 0 → AtEnd before after)
Reads before after old new (Err e) = (new ≡ old) × Over before after nothing
