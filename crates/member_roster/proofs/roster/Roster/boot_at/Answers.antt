use Rattle.std.proofs.Common.{◌≡◌, sym, ◌∙◌, ap, Ok, Err, Some}
use Rattle.std.specs.Option.{option_map}
use Rattle.place_table.specs.declared.host.HostInfo.{HostInfo}
use Rattle.member_roster.specs.Members.{boot_of}
use Rattle.member_roster.specs.Places.{host_node, place_by}
use Rattle.member_roster.proofs.Rosters.{no_mark, of_node-found, of_node-missing}
use Rattle.member_roster.proofs.roster.Roster.boot_at.Goals as goal

pub returns-in-Ok : goal.returns-in-Ok
returns-in-Ok c =
    let p : place_by host_node c.args.node.now c.self.inside.hosts.items ≡ Ok c.in-Ok.at = rw c.deref.ensures.value at (sym c.host_place.ensures.place ∙ c.in-Ok.is) in
    rw (← c.self.view_is) (ap (λ (h : HostInfo). Some h.member.boot) c.index.ensures ∙ sym (ap (option_map boot_of) (of_node-found c.args.node.now c.self.inside.hosts.items c.self.inside.marks.items c.in-Ok.at c.index.result.now no_mark c.self.invariant.0.marked p)))

pub returns-in-Err : goal.returns-in-Err
returns-in-Err c =
    let p : place_by host_node c.args.node.now c.self.inside.hosts.items ≡ Err c.in-Err.field-0 = rw c.deref.ensures.value at (sym c.host_place.ensures.place ∙ c.in-Err.is) in
    rw (← c.self.view_is) (sym (ap (option_map boot_of) (of_node-missing c.args.node.now c.self.inside.hosts.items c.self.inside.marks.items c.in-Err.field-0 c.self.invariant.0.ascends p)))
