use Rattle.std.proofs.Common.{List, subst, sym}
use Rattle.place_table.specs.declared.host.HostInfo.{HostInfo}
use Rattle.member_roster.specs.Roster.{AreBacked}
use Rattle.member_roster.proofs.Backed.{spare_of_none, empty_of}
use Rattle.member_roster.proofs.copies.give_back_all.Goals as goal

pub returns-clause-spares : goal.returns-clause-spares
returns-clause-spares c =
    let e = empty_of c.loop-copy.table.items _ (sym c.loop-copy.table.ok.0) c.in_default.ensures.cases.0 in
    spare_of_none c.args.hosts.now c.loop-copy.spares.items (subst (λ (t : List HostInfo). AreBacked c.args.hosts.now c.loop-copy.spares.items t) e c.loop-copy.invariant.backed)
