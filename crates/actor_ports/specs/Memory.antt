-- What the implementations in memory hold, and how a call changes it: own definitions.
use Rattle.std.specs.Prelude.{◌≡◌, ◌<◌, ◌≤◌, ℕ, ◌+◌, ◌-◌, nat_lt, if◌then◌else◌, List, [], ◌∷◌, ◌++◌, drop, map, Result, Ok, Err}
use Rattle.actor_ports.specs.declared.port.PortError.{PortError}
use Rattle.actor_ports.specs.declared.port.PortError.TheVariants.{Failed, OutOfMemory}
use Rattle.actor_ports.specs.Traffic.{Place, Traffic, Dialled, Returned, took, sent, returned}

-- a source: the bytes left, the reads and the faults so far, and the numbers of the reads that are to fail
pub record SourceMemory : Type 0 where
  pub left : List ℕ
  pub calls : ℕ
  pub faults : ℕ
  pub failing : List ℕ

-- a sink: the bytes written, the writes and the faults so far, and the numbers of the writes that are to fail
pub record SinkMemory : Type 0 where
  pub written : List ℕ
  pub calls : ℕ
  pub faults : ℕ
  pub failing : List ℕ

-- a new source: nothing is read yet
abbrev pub new_source : List ℕ → List ℕ → SourceMemory
new_source bytes failing = record { left = bytes; calls = 0; faults = 0; failing = failing }

-- a new sink: nothing is written yet
abbrev pub new_sink : List ℕ → SinkMemory
new_sink failing = record { written = []; calls = 0; faults = 0; failing = failing }

-- a source after a read: what was taken is gone; a fault takes nothing; OutOfMemory changes nothing
abbrev pub source_after : SourceMemory → Result ℕ PortError → SourceMemory
source_after before (Ok n) = record before { left = drop n before.left; calls = before.calls + 1 }
source_after before (Err Failed) = record before { calls = before.calls + 1; faults = before.faults + 1 }
source_after before (Err OutOfMemory) = before

-- a sink after a write: all is appended; a fault writes nothing; OutOfMemory changes nothing
abbrev pub sink_after : {T : Type 0} → SinkMemory → List ℕ → Result T PortError → SinkMemory
sink_after before bytes (Ok x) = record before { written = before.written ++ bytes; calls = before.calls + 1 }
sink_after before bytes (Err Failed) = record before { calls = before.calls + 1; faults = before.faults + 1 }
sink_after before bytes (Err OutOfMemory) = before

-- a connection: what went over it, its reads, writes and faults so far, and the numbers of the calls that are to fail
pub record ConnMemory : Type 0 where
  pub traffic : Traffic
  pub calls : ℕ
  pub faults : ℕ
  pub failing : List ℕ

-- a new connection, which leads nowhere until it is dialled
abbrev pub new_conn : List ℕ → List ℕ → ConnMemory
new_conn incoming failing =
    record { traffic = record { at = record { ip = 0; port = 0 }; read = []; left = incoming; written = [] }; calls = 0; faults = 0; failing = failing }

-- a connection after a read: what was taken is read; a fault takes nothing; OutOfMemory changes nothing
abbrev pub conn_read : ConnMemory → Result ℕ PortError → ConnMemory
conn_read before (Ok n) = record before { traffic = took n before.traffic; calls = before.calls + 1 }
conn_read before (Err Failed) = record before { calls = before.calls + 1; faults = before.faults + 1 }
conn_read before (Err OutOfMemory) = before

-- a connection after a write: all is written; a fault writes nothing; OutOfMemory changes nothing
abbrev pub conn_written : {T : Type 0} → ConnMemory → List ℕ → Result T PortError → ConnMemory
conn_written before bytes (Ok x) = record before { traffic = sent bytes before.traffic; calls = before.calls + 1 }
conn_written before bytes (Err Failed) = record before { calls = before.calls + 1; faults = before.faults + 1 }
conn_written before bytes (Err OutOfMemory) = before

-- a connection just dialled: it leads to the place, and nothing was read of it or written to it since
abbrev pub leading_to : Place → ConnMemory → ConnMemory
leading_to at c = record c { traffic = record { at = at; read = []; left = c.traffic.left; written = [] } }

-- connections that never failed
abbrev pub AreFaultless : List ConnMemory → Type 0
AreFaultless [] = Unit {0}
AreFaultless (c ∷ cs) = (c.faults ≡ 0) × AreFaultless cs

-- a dialler: the places dialled, the links given back, the connections left, how many links are out, its dials and
-- faults so far, and the numbers of the dials that are to fail
pub record DialMemory : Type 0 where
  pub places : List Place
  pub links : List ConnMemory
  pub waiting : List ConnMemory
  pub room : ℕ
  pub calls : ℕ
  pub faults : ℕ
  pub failing : List ℕ

-- a place as a dialler keeps it
abbrev pub place_of : ℕ × ℕ → Place
place_of p = record { ip = p.0; port = p.1 }

abbrev pub returned_of : ConnMemory → Returned
returned_of c = returned c.traffic

-- what it reports as a dialler
abbrev pub dialled_of : DialMemory → Dialled
dialled_of d = record { places = d.places; links = map returned_of d.links }

-- a new dialler
abbrev pub new_dial : List ConnMemory → List ℕ → DialMemory
new_dial links failing = record { places = []; links = []; waiting = links; room = 0; calls = 0; faults = 0; failing = failing }

-- the first connection left is handed out, and leads to the place
abbrev pub HandsOut : List ConnMemory → Place → Result ConnMemory PortError → Type 0
HandsOut waiting at (Ok link) = (c : ConnMemory) × (rest : List ConnMemory) × (waiting ≡ c ∷ rest) × (link ≡ leading_to at c)
HandsOut waiting at (Err e) = Unit {0}

-- a dialler after a dial: the place is kept, even if the dial failed; OutOfMemory changes nothing
abbrev pub dial_after : DialMemory → Place → Result ConnMemory PortError → DialMemory
dial_after before at (Ok link) =
    record before { places = before.places ++ at ∷ []; waiting = drop 1 before.waiting; room = before.room + 1; calls = before.calls + 1 }
dial_after before at (Err Failed) = record before { places = before.places ++ at ∷ []; calls = before.calls + 1; faults = before.faults + 1 }
dial_after before at (Err OutOfMemory) = before

-- a dialler after a link was given back: the link is kept, and counts as a fault if it has failed
abbrev pub done_after : DialMemory → ConnMemory → DialMemory
done_after before link =
    record before { links = before.links ++ link ∷ []; room = before.room - 1; faults = before.faults + (if nat_lt 0 link.faults then 1 else 0) }

-- another dialler, with the same connections left
abbrev pub another_dial : DialMemory → DialMemory
another_dial before = new_dial before.waiting before.failing

-- a listener: the connections left, its accepts and faults so far, and the numbers of the accepts that are to fail
pub record ListenMemory : Type 0 where
  pub waiting : List ConnMemory
  pub calls : ℕ
  pub faults : ℕ
  pub failing : List ℕ

-- a new listener
abbrev pub new_listen : List ConnMemory → List ℕ → ListenMemory
new_listen links failing = record { waiting = links; calls = 0; faults = 0; failing = failing }

-- the first connection left is accepted, as it is
abbrev pub Accepts : List ConnMemory → Result ConnMemory PortError → Type 0
Accepts waiting (Ok link) = (rest : List ConnMemory) × (waiting ≡ link ∷ rest)
Accepts waiting (Err e) = Unit {0}

-- a listener after an accept; OutOfMemory changes nothing
abbrev pub listen_after : {T : Type 0} → ListenMemory → Result T PortError → ListenMemory
listen_after before (Ok x) = record before { waiting = drop 1 before.waiting; calls = before.calls + 1 }
listen_after before (Err Failed) = record before { calls = before.calls + 1; faults = before.faults + 1 }
listen_after before (Err OutOfMemory) = before

-- a clock: the moment shown last (0 before the first), the next one, and those after it
pub record ClockMemory : Type 0 where
  pub shown : ℕ
  pub next : ℕ
  pub later : List ℕ

-- the moments never fall, and are before 9999-01-01T00:00:00Z
abbrev pub Rises : ℕ → List ℕ → Type 0
Rises m [] = m < 253370764800000
Rises m (n ∷ ns) = (m ≤ n) × Rises n ns

abbrev pub new_clock : ℕ → List ℕ → ClockMemory
new_clock first later = record { shown = 0; next = first; later = later }

-- after a moment was shown; the last one stays
abbrev pub shown_then : ℕ → List ℕ → ClockMemory
shown_then m [] = record { shown = m; next = m; later = [] }
shown_then m (n ∷ ns) = record { shown = m; next = n; later = ns }

abbrev pub clock_after : ClockMemory → ClockMemory
clock_after before = shown_then before.next before.later
