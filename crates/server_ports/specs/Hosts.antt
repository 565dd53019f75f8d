-- What a host is asked for, gives out and takes back. Own.
use Rattle.std.specs.Prelude.{◌≡◌, ℕ, ◌+◌, ◌-◌, Bool, nat_lt, if◌then◌else◌, List, [], ◌∷◌, ◌++◌, map, drop, Option, Some, None, option_map, Result, Ok, Err}
use Rattle.actor_ports.specs.declared.port.PortError.{PortError}
use Rattle.actor_ports.specs.declared.port.PortError.TheVariants.{Failed, OutOfMemory}
use Rattle.actor_ports.specs.Real.{Counted}
use Rattle.actor_ports.specs.Traffic.{Place}
use Rattle.actor_names.specs.declared.address.Address.{Address}
use Rattle.disk_model.specs.Disk.{DiskState}

-- what a host was asked for so far, in order: the paths of disks, and the places of ports, even if the call failed
pub record Asked : Type 0 where
  pub paths : List (List ℕ)
  pub places : List Place

abbrev pub nothing_asked : Asked
nothing_asked = record { paths = []; places = [] }

abbrev pub with_path : Asked → List ℕ → Asked
with_path a path = record a { paths = a.paths ++ path ∷ [] }

abbrev pub with_place : Asked → Place → Asked
with_place a at = record a { places = a.places ++ at ∷ [] }

-- the place that an address names
abbrev pub place_of : Address → Place
place_of a = record { ip = a.ip; port = a.port }

-- what was asked for after a call that asks for one thing more; OutOfMemory asks for nothing
abbrev pub asked_after : {T : Type 0} → Asked → Asked → Result T PortError → Asked
asked_after before more (Ok x) = more
asked_after before more (Err Failed) = more
asked_after before more (Err OutOfMemory) = before

-- one more path was asked for
abbrev pub AsksPath : {T : Type 0} → Option Asked → Option Asked → List ℕ → Result T PortError → Type 0
AsksPath None after path result = Unit {0}
AsksPath (Some a) after path result = after ≡ Some (asked_after a (with_path a path) result)

-- one more place was asked for
abbrev pub AsksPlace : {T : Type 0} → Option Asked → Option Asked → Place → Result T PortError → Type 0
AsksPlace None after at result = Unit {0}
AsksPlace (Some a) after at result = after ≡ Some (asked_after a (with_place a at) result)

-- a disk that was given out: for which path, whether it was to be made if there was none, and what it told then
pub record Opened : Type 0 where
  pub path : List ℕ
  pub create : Bool
  pub state : Option DiskState

-- the disks that were given out, and what those told that were given back, each in order
pub record Handed : Type 0 where
  pub opened : List Opened
  pub returned : List (Option DiskState)

abbrev pub nothing_handed : Handed
nothing_handed = record { opened = []; returned = [] }

-- the one, and then the other
abbrev pub handed_on : Handed → Handed → Handed
handed_on h more = record { opened = h.opened ++ more.opened; returned = h.returned ++ more.returned }

-- what an opening gives out
abbrev pub given_by : {T : Type 0} → (T → Option DiskState) → List ℕ → Bool → Result T PortError → Handed
given_by told path create (Ok disk) = record { opened = record { path = path; create = create; state = told disk } ∷ []; returned = [] }
given_by told path create (Err e) = nothing_handed

-- one disk is given back, which tells this
abbrev pub back_with : Option DiskState → Handed
back_with state = record { opened = []; returned = state ∷ [] }

-- a host that tells of its disks tells that this was given out and given back, and no more
abbrev pub Hands : Option Handed → Handed → Option Handed → Type 0
Hands before more after = after ≡ option_map (λ h. handed_on h more) before

-- how many are out after a call that gives one out, or fails
abbrev pub out_after : {T : Type 0} → ℕ → Result T PortError → ℕ
out_after out (Ok x) = out + 1
out_after out (Err e) = out

-- how many are out, and the faults so far
pub record Out : Type 0 where
  pub out : ℕ
  pub faults : ℕ

abbrev pub none_out : Out
none_out = record { out = 0; faults = 0 }

-- after a call that gives one out, or fails
abbrev pub given_out : {T : Type 0} → Out → Result T PortError → Out
given_out o (Ok x) = record o { out = o.out + 1 }
given_out o (Err Failed) = record o { faults = o.faults + 1 }
given_out o (Err OutOfMemory) = o

-- a real host: its disks and its ports
pub record HostCounts : Type 0 where
  pub disks : Out
  pub ports : Out

-- a host in memory: what it was asked for, the disks that it gave out, the disks and ports that it has left to give,
-- those that it was given back, how many are out, its calls and faults so far, and the numbers of the calls that are to fail
pub record HostMemory (D L : Type 0) : Type 0 where
  pub asked : Asked
  pub opened : List Opened
  pub disks : List D
  pub ports : List L
  pub back_disks : List (Counted D)
  pub back_ports : List (Counted L)
  pub counts : HostCounts
  pub calls : ℕ
  pub failing : List ℕ

abbrev pub new_host : {D L : Type 0} → List D → List L → List ℕ → HostMemory D L
new_host disks ports failing = record {
  asked = nothing_asked;
  opened = [];
  disks = disks;
  ports = ports;
  back_disks = [];
  back_ports = [];
  counts = record { disks = none_out; ports = none_out };
  calls = 0;
  failing = failing;
}

-- after a disk was asked for: the first one left is given out; the call and a failure are counted
abbrev pub opened_after : {D L T : Type 0} → (T → Option DiskState) → HostMemory D L → List ℕ → Bool → Result T PortError → HostMemory D L
opened_after told h path create (Ok x) = record h {
  asked = with_path h.asked path;
  opened = h.opened ++ record { path = path; create = create; state = told x } ∷ [];
  disks = drop 1 h.disks;
  counts = record h.counts { disks = record h.counts.disks { out = h.counts.disks.out + 1 } };
  calls = h.calls + 1;
}
opened_after told h path create (Err Failed) = record h {
  asked = with_path h.asked path;
  counts = record h.counts { disks = record h.counts.disks { faults = h.counts.disks.faults + 1 } };
  calls = h.calls + 1;
}
opened_after told h path create (Err OutOfMemory) = h

-- the same of a port
abbrev pub bound_after : {D L T : Type 0} → HostMemory D L → Place → Result T PortError → HostMemory D L
bound_after h at (Ok x) = record h {
  asked = with_place h.asked at;
  ports = drop 1 h.ports;
  counts = record h.counts { ports = record h.counts.ports { out = h.counts.ports.out + 1 } };
  calls = h.calls + 1;
}
bound_after h at (Err Failed) = record h {
  asked = with_place h.asked at;
  counts = record h.counts { ports = record h.counts.ports { faults = h.counts.ports.faults + 1 } };
  calls = h.calls + 1;
}
bound_after h at (Err OutOfMemory) = h

-- the first one left is given out, with no fault yet
abbrev pub HandsOut : {T : Type 0} → List T → Result (Counted T) PortError → Type 0
HandsOut {T} left (Ok given) = (x : T) × (rest : List T) × (left ≡ x ∷ rest) × (given ≡ record { inner = x; faults = 0 })
HandsOut {T} left (Err e) = Unit {0}

-- one that was out is back, and counts as a fault if it has failed
abbrev pub taken_back : {T : Type 0} → Out → Counted T → Out
taken_back o given = record { out = o.out - 1; faults = o.faults + (if nat_lt 0 given.faults then 1 else 0) }

-- after a disk was given back: it is kept
abbrev pub disk_back : {D L : Type 0} → HostMemory D L → Counted D → HostMemory D L
disk_back h disk = record h { back_disks = h.back_disks ++ disk ∷ []; counts = record h.counts { disks = taken_back h.counts.disks disk } }

-- the same of a port
abbrev pub port_back : {D L : Type 0} → HostMemory D L → Counted L → HostMemory D L
port_back h port = record h { back_ports = h.back_ports ++ port ∷ []; counts = record h.counts { ports = taken_back h.counts.ports port } }

-- what a host in memory tells of its disks
abbrev pub handed_by : {D L : Type 0} → (D → Option DiskState) → HostMemory D L → Handed
handed_by {D} told h = record { opened = h.opened; returned = map (λ (disk : Counted D). told disk.inner) h.back_disks }
