use Rattle.std.proofs.Common.{◌≡◌, ◌+◌, ◌-◌, ◌≤◌, ◌++◌, List, length, take, drop, vec_len}
use Rattle.std.specs.Vec.{vec_capacity}
use Rattle.place_table.specs.declared.host.HostInfo.{HostInfo}
use Rattle.member_roster.specs.Members.{heard_of, late_of}
use Rattle.member_roster.specs.Places.{Ascends, host_node}
use Rattle.member_roster.specs.Roster.{joined_all, AreBacked}
use Rattle.member_roster.proofs.late.drop_late.Given as goal

abbrev pub invariant-loop-at : goal.invariant-loop-at
invariant-loop-at l =
    record {
      heard : heard_of (joined_all l.initial.hosts.items l.initial.marks.items) l.now ≡ joined_all (take l.at l.hosts.items) (take l.at l.marks.items) ++ heard_of (joined_all (drop l.at l.hosts.items) (drop l.at l.marks.items)) l.now;
      late : l.initial.removed.members ++ late_of (joined_all l.initial.hosts.items l.initial.marks.items) l.now ≡ l.removed.members ++ late_of (joined_all (drop l.at l.hosts.items) (drop l.at l.marks.items)) l.now;
      ascends : Ascends host_node l.hosts.items;
      marked : length l.marks.items ≡ length l.hosts.items;
      spared : length l.spares.items ≡ length l.hosts.items;
      backed : (table : List HostInfo) → AreBacked l.initial.hosts.items l.initial.spares.items table → AreBacked l.hosts.items l.spares.items table;
      fewer : length l.hosts.items ≤ length l.initial.hosts.items;
      capacity : length l.removed.members + length l.hosts.items ≤ l.removed.capacity;
      list_capacity : l.initial.removed.capacity ≤ l.removed.capacity;
      hosts_capacity : vec_capacity l.hosts ≡ vec_capacity l.initial.hosts;
      marks_capacity : vec_capacity l.marks ≡ vec_capacity l.initial.marks;
      spares_capacity : vec_capacity l.spares ≡ vec_capacity l.initial.spares;
      within : l.at ≤ length l.hosts.items;
    }

abbrev pub decreases-loop-at : goal.decreases-loop-at
decreases-loop-at l = vec_len l.hosts - l.at
