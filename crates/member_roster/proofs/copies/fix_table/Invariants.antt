use Rattle.std.proofs.Common.{◌≡◌, ◌≤◌, length, take, vec_len}
use Rattle.std.specs.Vec.{vec_capacity}
use Rattle.member_roster.specs.Members.{target_hosts}
use Rattle.member_roster.specs.Roster.{joined_all, AreBackedTo}
use Rattle.member_roster.proofs.copies.fix_table.Given as goal

abbrev pub invariant-loop-i : goal.invariant-loop-i
invariant-loop-i l =
    record {
      table : l.table.items ≡ target_hosts (joined_all (take l.i l.hosts) (take l.i l.marks));
      backed : AreBackedTo l.i l.hosts l.spares.items l.table.items;
      long : length l.spares.items ≡ length l.hosts;
      few : vec_len l.table ≤ l.i;
      capacity : vec_capacity l.fn.table ≤ vec_capacity l.table;
      spares_capacity : vec_capacity l.spares ≡ vec_capacity l.fn.spares;
    }
