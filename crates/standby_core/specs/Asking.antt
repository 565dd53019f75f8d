-- What comes of a call's text that is sent. Own.
use Rattle.std.specs.Prelude.{◌≡◌, ◌≢◌, ℕ, suc, Bool, true, false, List, [], Option, Result, Ok, Err}
use Rattle.actor_ports.specs.declared.port.PortError.{PortError}
use Rattle.actor_ports.specs.declared.port.PortError.TheVariants.{Failed, OutOfMemory}
use Rattle.actor_ports.specs.Traffic.{Traffic}
use Rattle.http_edge.specs.Carry.{Over, IsFront}
use Rattle.standby_core.specs.Telling.{done_bytes}

-- the bytes that were read are no answer that the call was done
abbrev pub HearsOther : Option Traffic → Option Traffic → Type 0
HearsOther t0 t1 = (got : List ℕ) × (got ≢ done_bytes) × Over t0 t1 (record { read = got; written = [] })

-- what was read is that answer, or it is another, or was cut short
abbrev pub Hears : Option Traffic → Option Traffic → Result Bool PortError → Type 0
Hears t0 t1 (Ok true) = Over t0 t1 (record { read = done_bytes; written = [] })
Hears t0 t1 (Ok false) = HearsOther t0 t1
Hears t0 t1 (Err e) = HearsOther t0 t1

-- the text was sent, in whole or in part, and what was read for it is no such answer
abbrev pub IsUnanswered : List ℕ → Option Traffic → Option Traffic → Type 0
IsUnanswered text t0 t1 =
    (front : List ℕ) × (got : List ℕ) × IsFront front text × (got ≢ done_bytes) × Over t0 t1 (record { read = got; written = front })

abbrev pub IsAsked : List ℕ → Option Traffic → Option Traffic → Result Bool PortError → Type 0
IsAsked text t0 t1 (Ok true) = Over t0 t1 (record { read = done_bytes; written = text })
IsAsked text t0 t1 (Ok false) = IsUnanswered text t0 t1
IsAsked text t0 t1 (Err e) = IsUnanswered text t0 t1

-- a lost call is counted here, unless the link has counted it
abbrev pub Counts : Result Bool PortError → ℕ → ℕ → Result (Unit {0}) PortError → Type 0
Counts (Ok true) u0 u1 result = (u1 ≡ u0) × (result ≡ Ok tt)
Counts (Ok false) u0 u1 result = (u1 ≡ suc u0) × (result ≡ Err Failed)
Counts (Err Failed) u0 u1 result = (u1 ≡ u0) × (result ≡ Err Failed)
Counts (Err OutOfMemory) u0 u1 result = (u1 ≡ suc u0) × (result ≡ Err Failed)
