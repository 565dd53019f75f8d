use Rattle.std.proofs.Common.{◌≡◌, arith, sym, ◌∙◌, ap, Ok, Err}
use Rattle.member_roster.specs.declared.marks.Mark.{Mark}
use Rattle.member_roster.specs.Members.{is_pending_in}
use Rattle.member_roster.specs.Places.{host_node, place_by}
use Rattle.member_roster.proofs.Counts.{none_pending}
use Rattle.member_roster.proofs.Rosters.{no_host, of_node-found, of_node-missing}
use Rattle.member_roster.proofs.roster.Roster.is_pending.Goals as goal

pub returns-in-Ok : goal.returns-in-Ok
returns-in-Ok c =
    let p : place_by host_node c.args.member.now.node c.self.inside.hosts.items ≡ Ok c.in-Ok.at = rw c.deref.ensures.value at (sym c.host_place_near.ensures.place ∙ c.in-Ok.is) in
    rw (← c.self.view_is) (ap (λ (k : Mark). k.pending) c.index.ensures ∙ sym (ap is_pending_in (of_node-found c.args.member.now.node c.self.inside.hosts.items c.self.inside.marks.items c.in-Ok.at no_host c.index.result.now c.self.invariant.0.marked p)))

pub returns-in-Err : goal.returns-in-Err
returns-in-Err c =
    let p : place_by host_node c.args.member.now.node c.self.inside.hosts.items ≡ Err c.in-Err.field-0 = rw c.deref.ensures.value at (sym c.host_place_near.ensures.place ∙ c.in-Err.is) in
    rw (← c.self.view_is) (sym (ap is_pending_in (of_node-missing c.args.member.now.node c.self.inside.hosts.items c.self.inside.marks.items c.in-Err.field-0 c.self.invariant.0.ascends p)))

pub returns-then-self-eq0 : goal.returns-then-self-eq0
returns-then-self-eq0 c =
    let k = c.self.invariant.0.counted in
    rw (← c.self.view_is) (sym (none_pending c.self.inside.hosts.items c.self.inside.marks.items c.args.member.now.node (omega arith)))
