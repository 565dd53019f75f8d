use Rattle.std.proofs.Common.{◌≡◌, drop}
use Rattle.member_roster.specs.Members.{removed_until, removes_all}
use Rattle.member_roster.proofs.roster.Roster.remove_all.Given as goal

abbrev pub invariant-loop-i : goal.invariant-loop-i
invariant-loop-i l =
    record {
      rest : removes_all l.fn.self.members l.members ≡ removes_all l.self.members (drop l.i l.members);
      members : removed_until l.fn.self.members l.members ≡ removed_until l.self.members (drop l.i l.members);
      table : l.self.table ≡ l.fn.self.table;
      capacity : l.self.capacity ≡ l.fn.self.capacity;
    }
