-- The members as they are kept: hosts in byte order of node, with a mark and maybe a spare copy beside each. Own.
use Rattle.std.specs.Prelude.{◌≡◌, ℕ, zero, suc, ◌+◌, ◌≤◌, Bool, true, false, if◌then◌else◌, ◌⊎◌, List, [], ◌∷◌, length, Option, None, Some}
use Rattle.place_table.specs.declared.host.HostInfo.{HostInfo}
use Rattle.member_roster.specs.declared.marks.Mark.{Mark}
use Rattle.member_roster.specs.Members.{Joined}
use Rattle.member_roster.specs.Places.{Ascends, host_node}

abbrev pub joined_of : HostInfo → Mark → Joined
joined_of h k = record { host = h; heard = k.heard; target = k.target; pending = k.pending }

abbrev pub joined_all : List HostInfo → List Mark → List Joined
joined_all [] ms = []
joined_all (h ∷ hs) [] = []
joined_all (h ∷ hs) (k ∷ ks) = joined_of h k ∷ joined_all hs ks

abbrev pub is_mark_pending : Mark → Bool
is_mark_pending k = k.pending

abbrev pub entered_mark : Mark → Mark
entered_mark k = record k { pending = k.target }

abbrev pub targeted_mark : Mark → Mark
targeted_mark k = record k { target = true; pending = true }

abbrev pub restarted_mark : ℕ → Mark → Mark
restarted_mark now k = record k { heard = now; target = false; pending = false }

-- how many are pending
abbrev pub mark_weight : Mark → ℕ
mark_weight k = if k.pending then 1 else 0

abbrev pub pending_count : List Mark → ℕ
pending_count [] = 0
pending_count (k ∷ ks) = mark_weight k + pending_count ks

-- one of the hosts
abbrev pub IsIn : HostInfo → List HostInfo → Type 0
IsIn h [] = ⊥
IsIn h (x ∷ xs) = (h ≡ x) ⊎ IsIn h xs

-- a copy of the host is spare, or in the table
abbrev pub IsBacked : HostInfo → Option HostInfo → List HostInfo → Type 0
IsBacked h None table = IsIn h table
IsBacked h (Some x) table = x ≡ h

abbrev pub AreBacked : List HostInfo → List (Option HostInfo) → List HostInfo → Type 0
AreBacked [] [] table = Unit {0}
AreBacked [] (s ∷ ss) table = ⊥
AreBacked (h ∷ hs) [] table = ⊥
AreBacked (h ∷ hs) (s ∷ ss) table = IsBacked h s table × AreBacked hs ss table

-- a copy of each host is spare
abbrev pub AreSpare : List HostInfo → List (Option HostInfo) → Type 0
AreSpare [] [] = Unit {0}
AreSpare [] (s ∷ ss) = ⊥
AreSpare (h ∷ hs) [] = ⊥
AreSpare (h ∷ hs) (s ∷ ss) = (s ≡ Some h) × AreSpare hs ss

-- for the first hosts a copy is spare or in the table, for the others a copy is spare
abbrev pub AreBackedTo : ℕ → List HostInfo → List (Option HostInfo) → List HostInfo → Type 0
AreBackedTo zero hs ss table = AreSpare hs ss
AreBackedTo (suc i) [] ss table = AreSpare [] ss
AreBackedTo (suc i) (h ∷ hs) [] table = ⊥
AreBackedTo (suc i) (h ∷ hs) (s ∷ ss) table = IsBacked h s table × AreBackedTo i hs ss table

-- what contracts see of a roster: the members, the table that was fixed last, and how many members there is room
-- for
pub record RosterState : Type 0 where
  pub members : List Joined
  pub table : List HostInfo
  pub capacity : ℕ

pub record IsRosterKept (hosts : List HostInfo) (marks : List Mark) (spares : List (Option HostInfo)) (table : List HostInfo) (capacity pending : ℕ) : Type 0 where
  pub ascends : Ascends host_node hosts
  pub marked : length marks ≡ length hosts
  pub spared : length spares ≡ length hosts
  pub backed : AreBacked hosts spares table
  pub few : length hosts ≤ 256
  pub within : length hosts ≤ capacity
  pub ordered : Ascends host_node table
  pub counted : pending ≡ pending_count marks

-- each vector has that much room
pub record HasCapacity (capacity hosts marks spares table : ℕ) : Type 0 where
  pub hosts_capacity : capacity ≤ hosts
  pub marks_capacity : capacity ≤ marks
  pub spares_capacity : capacity ≤ spares
  pub table_capacity : capacity ≤ table

-- the members and the table are the same, and there is at least as much room
pub record SameButCapacity (old new : RosterState) : Type 0 where
  pub members : new.members ≡ old.members
  pub table : new.table ≡ old.table
  pub capacity : old.capacity ≤ new.capacity
