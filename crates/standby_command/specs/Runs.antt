-- What a run of a standby does to the disk of its host. Own.
use Rattle.std.specs.Prelude.{◌≡◌, ◌⊎◌, ℕ, Bool, true, false, List, [], ◌∷◌, ◌++◌, length, Option, Some, None}
use Rattle.actor_ports.specs.declared.session.SessionEnd.{SessionEnd}
use Rattle.actor_ports.specs.declared.session.SessionEnd.TheVariants.{Broken}
use Rattle.actor_ports.specs.Traffic.{Traffic}
use Rattle.disk_model.specs.Disk.{DiskState}
use Rattle.server_ports.specs.Hosts.{Opened, Handed, nothing_handed}
use Rattle.standby_session.specs.Sessions.{IsStandby}
use Rattle.standby_command.specs.declared.command.StandbyEnd.{StandbyEnd}
use Rattle.standby_command.specs.declared.command.StandbyEnd.TheVariants as ends

-- ---- sessions, one after the other

-- what had gone over the connection of a session before and behind it, and how it ended
pub record Served : Type 0 where
  pub before : Option Traffic
  pub after : Option Traffic
  pub end : SessionEnd

-- how the command ends behind a session that ended so: only by a disk that failed
abbrev pub next_end : SessionEnd → Option StandbyEnd
next_end (Broken n) = Some ends.DiskFault
next_end end = None

-- each session went on where the one before it had left the disk, made the calls that were read in it, and didn't end the
-- command
abbrev pub ServesOn : List Served → Option DiskState → Option DiskState → Type 0
ServesOn [] d0 d1 = d1 ≡ d0
ServesOn (s ∷ more) d0 d1 = (mid : Option DiskState) × IsStandby d0 mid s.before s.after s.end × (next_end s.end ≡ None) × ServesOn more mid d1

-- What ended the command behind these sessions: as many were served as were asked for; or no further connection was
-- accepted, or there was no memory for one; or in one session more a call failed.
abbrev pub EndsSessions : Option ℕ → ℕ → StandbyEnd → Option DiskState → Option DiskState → Type 0
EndsSessions most n ends.Done d0 d1 = (most ≡ Some n) × (d1 ≡ d0)
EndsSessions most n ends.PortFault d0 d1 = d1 ≡ d0
EndsSessions most n ends.OutOfMemory d0 d1 = d1 ≡ d0
EndsSessions most n ends.DiskFault d0 d1 = (s : Served) × IsStandby d0 d1 s.before s.after s.end × (next_end s.end ≡ Some ends.DiskFault)

-- sessions, and what ended the command behind them
abbrev pub Serves : Option ℕ → Option DiskState → Option DiskState → StandbyEnd → Type 0
Serves most d0 d1 end = (sessions : List Served) × (mid : Option DiskState) × ServesOn sessions d0 mid × EndsSessions most (length sessions) end mid d1

-- the next session, if it didn't end the command; or what did
abbrev pub ServesNext : Option DiskState → Option DiskState → Option StandbyEnd → Type 0
ServesNext d0 d1 None = (s : Served) × IsStandby d0 d1 s.before s.after s.end × (next_end s.end ≡ None)
ServesNext d0 d1 (Some ends.Done) = ⊥
ServesNext d0 d1 (Some ends.PortFault) = d1 ≡ d0
ServesNext d0 d1 (Some ends.OutOfMemory) = d1 ≡ d0
ServesNext d0 d1 (Some ends.DiskFault) = (s : Served) × IsStandby d0 d1 s.before s.after s.end × (next_end s.end ≡ Some ends.DiskFault)

-- ---- the disk of a run

-- how the command ends by its sessions, and by what has failed meanwhile: the disk counts first, and then the port
abbrev pub ended_by : StandbyEnd → Bool → Bool → StandbyEnd
ended_by end true port_failed = ends.DiskFault
ended_by end false true = ends.PortFault
ended_by end false false = end

-- the disk was given back as the last session left it
abbrev pub ServesDisk : Option ℕ → Option DiskState → StandbyEnd → List (Option DiskState) → Type 0
ServesDisk most disk end back =
    (served : StandbyEnd) × (disk_failed : Bool) × (port_failed : Bool) × (last : Option DiskState)
    × Serves most disk last served × (end ≡ ended_by served disk_failed port_failed) × (back ≡ last ∷ [])

-- only given back
abbrev pub given_back : List (Option DiskState) → Handed
given_back back = record { opened = []; returned = back }

-- the disk of the path of the words: made if there is none
abbrev pub disk_opened : List ℕ → Option DiskState → Opened
disk_opened path state = record { path = path; create = true; state = state }

-- the disk can't be opened: it failed, or there was no memory
abbrev pub IsUnopened : StandbyEnd → Type 0
IsUnopened end = (end ≡ ends.DiskFault) ⊎ (end ≡ ends.OutOfMemory)

-- the port can't be bound: it failed, or there was no memory
abbrev pub IsUnserved : StandbyEnd → Type 0
IsUnserved end = (end ≡ ends.PortFault) ⊎ (end ≡ ends.OutOfMemory)

-- what came of the disk: the port wasn't bound, and it was given back as it was; or sessions were served on it
abbrev pub RunsDisk : Option ℕ → Option DiskState → StandbyEnd → List (Option DiskState) → Type 0
RunsDisk most disk end back = (IsUnserved end × (back ≡ disk ∷ [])) ⊎ ServesDisk most disk end back

-- What a run does to its disk: it opens none; or this one, and what comes of it.
abbrev pub RunsStandby : List ℕ → Option ℕ → StandbyEnd → Handed → Type 0
RunsStandby path most end given =
    ((given ≡ nothing_handed) × IsUnopened end)
    ⊎ ((disk : Option DiskState) × (back : List (Option DiskState)) × (given ≡ record { opened = disk_opened path disk ∷ []; returned = back }) × RunsDisk most disk end back)
