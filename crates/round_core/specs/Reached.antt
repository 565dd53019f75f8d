-- What holds in each state that a placement reaches. Own.
use Rattle.std.specs.Prelude.{◌≡◌, ◌≤◌, ◌^◌, ℕ, Bool, false, ◌||◌, List, [], ◌∷◌, bytes_eq}
use Rattle.place_table.specs.declared.host.HostInfo.{HostInfo}
use Rattle.member_roster.specs.Members.{hosts_of}
use Rattle.round_core.specs.Openings.{IsNewOrUsed}
use Rattle.round_core.specs.Room.{RoomState}

abbrev pub has_host : List HostInfo → List ℕ → Bool
has_host [] node = false
has_host (h ∷ hs) node = bytes_eq node h.member.node || has_host hs node

-- no two hosts have the same node
abbrev pub Distinct : List HostInfo → Type 0
Distinct [] = Unit {0}
Distinct (h ∷ hs) = (has_host hs h.member.node ≡ false) × Distinct hs

-- The members' nodes differ, the state is the opening one until it is used, and its versions are in range.
pub record IsReached (s : RoomState) : Type 0 where
  pub distinct : Distinct (hosts_of s.members)
  pub kept : IsNewOrUsed s
  pub within : s.next_version ≤ 2 ^ 62
