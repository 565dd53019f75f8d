-- Members in byte order of node, and the greatest boot of each node. Own.
use Rattle.std.specs.Prelude.{ℕ, ◌-◌, Bool, true, false, ◌||◌, nat_le, if◌then◌else◌, List, [], ◌∷◌, map, bytes_eq, Option, None, Some}
use Rattle.std.specs.List.{list_any}
use Rattle.std.specs.Ordering.{nat_cmp, is_lt}
use Rattle.std.specs.Cmp.Lexicographic.{slice_cmp}
use Rattle.actor_names.specs.declared.member.Member.{Member}
use Rattle.actor_names.specs.Same.{same_member}
use Rattle.place_table.specs.declared.host.HostInfo.{HostInfo}
use Rattle.place_table.specs.Hosts.{node_of}
use Rattle.member_roster.specs.declared.book.Known.{Known}

-- A member: its host, when it was last heard, whether it is a target of the running round, and whether it is
-- among those pending, which haven't acknowledged the stage of the round.
pub record Joined : Type 0 where
  pub host : HostInfo
  pub heard : ℕ
  pub target : Bool
  pub pending : Bool

abbrev pub is_before : List ℕ → List ℕ → Bool
is_before a b = is_lt (slice_cmp nat_cmp a b)

abbrev pub joined_node : Joined → List ℕ
joined_node j = node_of j.host

-- ---- greatest boots, in byte order of node

-- 0 for an unknown node
abbrev pub greatest_boot : List Known → List ℕ → ℕ
greatest_boot [] node = 0
greatest_boot (k ∷ ks) node = if bytes_eq node k.node then k.greatest else greatest_boot ks node

abbrev pub is_known : List Known → List ℕ → Bool
is_known [] node = false
is_known (k ∷ ks) node = bytes_eq node k.node || is_known ks node

abbrev pub put_boot : List Known → Member → List Known
put_boot [] m = record { node = m.node; greatest = m.boot } ∷ []
put_boot (k ∷ ks) m =
    if bytes_eq m.node k.node then record { node = m.node; greatest = m.boot } ∷ ks else (
    if is_before m.node k.node then record { node = m.node; greatest = m.boot } ∷ k ∷ ks else k ∷ put_boot ks m
    )

-- ---- members; a node has one at most

abbrev pub hosts_of : List Joined → List HostInfo
hosts_of js = map (λ j. j.host) js

abbrev pub members_of : List Joined → List Member
members_of js = map (λ j. j.host.member) js

-- the member of a node
abbrev pub of_node : List Joined → List ℕ → Option Joined
of_node [] node = None
of_node (j ∷ js) node = if bytes_eq node (joined_node j) then Some j else of_node js node

abbrev pub boot_of : Joined → ℕ
boot_of j = j.host.member.boot

abbrev pub is_the : Member → Option Joined → Bool
is_the m None = false
is_the m (Some j) = same_member m j.host.member

-- whether it is a member: its node has one, and that is the same
abbrev pub is_here : List Joined → Member → Bool
is_here js m = is_the m (of_node js m.node)

abbrev pub is_pending_in : Option Joined → Bool
is_pending_in None = false
is_pending_in (Some j) = j.pending

-- whether the member of this member's node is pending, in whichever boot
abbrev pub is_pending : List Joined → Member → Bool
is_pending js m = is_pending_in (of_node js m.node)

-- the members with the one of this node changed
abbrev pub with_node : List Joined → List ℕ → (Joined → Joined) → List Joined
with_node [] node f = []
with_node (j ∷ js) node f = if bytes_eq node (joined_node j) then f j ∷ js else j ∷ with_node js node f

-- the members without the one of this node
abbrev pub without_node : List Joined → List ℕ → List Joined
without_node [] node = []
without_node (j ∷ js) node = if bytes_eq node (joined_node j) then js else j ∷ without_node js node

-- the members without these, each of which has to be one when its turn comes
abbrev pub removes_all : List Joined → List Member → Option (List Joined)
removes_all js [] = Some js
removes_all js (m ∷ ms) = if is_here js m then removes_all (without_node js m.node) ms else None

-- the members without these, up to the first that isn't one when its turn comes
abbrev pub removed_until : List Joined → List Member → List Joined
removed_until js [] = js
removed_until js (m ∷ ms) = if is_here js m then removed_until (without_node js m.node) ms else js

-- a new member at its place
abbrev pub put_joined : List Joined → Joined → List Joined
put_joined [] x = x ∷ []
put_joined (j ∷ js) x = if is_before (joined_node x) (joined_node j) then x ∷ j ∷ js else j ∷ put_joined js x

-- whether it was not heard for 10,000 milliseconds or more
abbrev pub is_late : ℕ → Joined → Bool
is_late now j = nat_le 10000 (now - j.heard)

abbrev pub late_of : List Joined → ℕ → List Member
late_of [] now = []
late_of (j ∷ js) now = if is_late now j then j.host.member ∷ late_of js now else late_of js now

abbrev pub heard_of : List Joined → ℕ → List Joined
heard_of [] now = []
heard_of (j ∷ js) now = if is_late now j then heard_of js now else j ∷ heard_of js now

-- ---- those pending, and the targets

abbrev pub any_pending : List Joined → Bool
any_pending js = list_any (λ j. j.pending) js

-- on entering a stage the targets are pending
abbrev pub entered : Joined → Joined
entered j = record j { pending = j.target }

-- on starting a round each member is a target
abbrev pub targeted : Joined → Joined
targeted j = record j { target = true; pending = true }

-- the hosts of the targets
abbrev pub target_hosts : List Joined → List HostInfo
target_hosts [] = []
target_hosts (j ∷ js) = if j.target then j.host ∷ target_hosts js else target_hosts js

abbrev pub heard_at : ℕ → Joined → Joined
heard_at now j = record j { heard = now }

-- heard, and no longer pending
abbrev pub acked_at : ℕ → Joined → Joined
acked_at now j = record j { heard = now; pending = false }

-- heard at the restart, in no round
abbrev pub restarted_at : ℕ → Joined → Joined
restarted_at now j = record j { heard = now; target = false; pending = false }

-- a new member, in no round
abbrev pub new_joined : HostInfo → ℕ → Joined
new_joined host now = record { host = host; heard = now; target = false; pending = false }
