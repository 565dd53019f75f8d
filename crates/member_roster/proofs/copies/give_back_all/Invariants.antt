use Rattle.std.proofs.Common.{◌≡◌, length, vec_len}
use Rattle.std.specs.Vec.{vec_capacity}
use Rattle.member_roster.specs.Roster.{AreBacked}
use Rattle.member_roster.proofs.copies.give_back_all.Given as goal

abbrev pub invariant-loop-copy : goal.invariant-loop-copy
invariant-loop-copy l =
    record {
      long : length l.spares.items ≡ length l.hosts;
      backed : AreBacked l.hosts l.spares.items l.table.items;
      capacity : vec_capacity l.table ≡ vec_capacity l.fn.table;
      spares_capacity : vec_capacity l.spares ≡ vec_capacity l.fn.spares;
    }

abbrev pub decreases-loop-copy : goal.decreases-loop-copy
decreases-loop-copy l = vec_len l.table
