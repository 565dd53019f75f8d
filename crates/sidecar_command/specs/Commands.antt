-- What a run of a sidecar asks its host for, what it dials at its start, and how it ends. Own.
use Rattle.std.specs.Prelude.{◌≡◌, ◌⊎◌, ℕ, min, max, List, [], ◌∷◌, ◌++◌, Option, Some, None, Result, Ok, Err}
use Rattle.actor_ports.specs.Traffic.{Place, Traffic, Returned, Dialled}
use Rattle.server_ports.specs.Hosts.{Asked, with_place}
use Rattle.command_words.specs.Reading.{Seating}
use Rattle.exchanges.specs.Exchanges.{Exchange, Dialling}
use Rattle.sidecar_server.specs.declared.watch.Parties.{Parties}
use Rattle.sidecar_server.specs.Causes.{IsCause}
use Rattle.sidecar_server.specs.Stopped.{NodeStopped}
use Rattle.sidecar_start.specs.declared.end.StartEnd.{StartEnd}
use Rattle.sidecar_start.specs.declared.end.StartEnd.TheVariants as start_ends
use Rattle.sidecar_start.specs.declared.hosting.Started.{Started}
use Rattle.sidecar_start.specs.declared.words.StartWords.{StartWords}
use Rattle.sidecar_start.specs.Ends.{end_status}
use Rattle.sidecar_start.specs.Starting.{IsStart}
use Rattle.sidecar_command.specs.declared.ends.SidecarEnd.{SidecarEnd}
use Rattle.sidecar_command.specs.declared.ends.SidecarEnd.TheVariants as ends

-- nothing was asked for; or the place for callers; or then that for other sidecars too
abbrev pub AsksPorts : Place → Place → Option Asked → Option Asked → Type 0
AsksPorts callers peers None after = Unit {0}
AsksPorts callers peers (Some a) after = (after ≡ Some a) ⊎ ((after ≡ Some (with_place a callers)) ⊎ (after ≡ Some (with_place (with_place a callers) peers)))

-- each of these is one of the two places
abbrev pub AreOf : Place → Place → List Place → Type 0
AreOf store app [] = Unit {0}
AreOf store app (at ∷ ats) = ((at ≡ store) ⊎ (at ≡ app)) × AreOf store app ats

-- where the dialler tells what it did: it dialled nothing but these two places
abbrev pub DialsOnly : Place → Place → Option Dialled → Option Dialled → Type 0
DialsOnly store app None after = Unit {0}
DialsOnly store app (Some d) after =
    (more : List Place) × (links : List Returned) × AreOf store app more × (after ≡ Some (record { places = d.places ++ more; links = d.links ++ links }))

abbrev pub sidecar_status : SidecarEnd → ℕ
sidecar_status ends.Done = 0
sidecar_status ends.PortFault = 7
sidecar_status (ends.Unstarted end) = end_status end
sidecar_status (ends.Stopped cause) = 11
sidecar_status ends.OutOfMemory = 8

-- what a start is told by the words of the command
abbrev pub start_words : Seating → StartWords
start_words s = record { space = s.space; node = s.node; app = s.app; app_at = s.app_at; peer_at = s.peer; store_at = s.store }

-- as many parts as the words say, from 1 to 16
abbrev pub parts_in : ℕ → ℕ
parts_in n = max 1 (min n 16)

-- How the command ends if its start ended so: the application or the store is named only if it is the cause.
abbrev pub unstarted_end : StartEnd → SidecarEnd
unstarted_end start_ends.DialFault = ends.PortFault
unstarted_end start_ends.OutOfMemory = ends.OutOfMemory
unstarted_end end = ends.Unstarted end

-- whose turns with whom a stop goes back to
abbrev pub parties_in : Seating → Started → Parties
parties_in words started = record { member = started.host.member; placement = record { first = words.placement; second = words.placement2 } }

-- `dialled` says what a dialler did, `traffic` is what went over a link, `shown` the moment that a clock showed last
module _ {N L K : Type 0} (dialled : N → Option Dialled) (traffic : L → Option Traffic) (shown : K → ℕ) where
  -- How the command ends once it has started: after a stop, which has a sound cause, and if all sessions were served, all
  -- parts of the node that had started were stopped. No end then speaks of the start.
  abbrev pub IsServed : Seating → Started → SidecarEnd → Type 0
  IsServed words started ends.Done = NodeStopped started.host started.kinds (parts_in words.parts)
  IsServed words started ends.PortFault = Unit {0}
  IsServed words started (ends.Unstarted end) = ⊥
  IsServed words started (ends.Stopped cause) = IsCause dialled traffic shown (parties_in words started) cause × NodeStopped started.host started.kinds (parts_in words.parts)
  IsServed words started ends.OutOfMemory = Unit {0}

  -- how the command ends by what its start came to
  abbrev pub IsEnd : Seating → Result Started StartEnd → SidecarEnd → Type 0
  IsEnd words (Err e) end = end ≡ unstarted_end e
  IsEnd words (Ok started) end = IsServed words started end

  -- A run of the command. Its start came to `got` by exchanges with the store and the application of its words, which are
  -- all that its dialler was made to do; and it ended by that.
  pub record IsSidecarRun (words : Seating) (before after : Option Dialled) (faults more : ℕ) (end : SidecarEnd) : Type 0 where
    pub exchanges : List Exchange
    pub got : Result Started StartEnd
    pub starts : IsStart (start_words words) exchanges got
    pub dialling : Dialling exchanges before after faults more
    pub ends : IsEnd words got end
