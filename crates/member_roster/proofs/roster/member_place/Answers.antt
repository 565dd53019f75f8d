use Rattle.std.proofs.Common.{◌≡◌, rules, sym, ◌∙◌, true, false}
use Rattle.member_roster.proofs.Rosters.{is_here-found, is_here-missing}
use Rattle.member_roster.proofs.roster.member_place.Goals as goal

pub returns-in-Err-clause-here : goal.returns-in-Err-clause-here
returns-in-Err-clause-here c = λ ms l.
    is_here-missing c.args.member.now c.args.hosts.now ms c.in-Err.field-0 c.requires (sym c.host_place.ensures.place ∙ c.in-Err.is)

pub returns-else-not-is_member-clause-here : goal.returns-else-not-is_member-clause-here
returns-else-not-is_member-clause-here c = λ ms l.
    let h : c.is_member.result ≡ true = search rules in
    is_here-found c.args.member.now true c.args.hosts.now ms c.in-Ok.at c.index-hosts-at.result l (sym c.host_place.ensures.place ∙ c.in-Ok.is) c.index-hosts-at.is (sym h ∙ c.is_member.ensures)

pub returns-then-not-is_member-clause-here : goal.returns-then-not-is_member-clause-here
returns-then-not-is_member-clause-here c = λ ms l.
    let h : c.is_member.result ≡ false = search rules in
    is_here-found c.args.member.now false c.args.hosts.now ms c.in-Ok.at c.index-hosts-at.result l (sym c.host_place.ensures.place ∙ c.in-Ok.is) c.index-hosts-at.is (sym h ∙ c.is_member.ensures)
