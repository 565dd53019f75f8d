use Rattle.std.proofs.Common.{◌≡◌, ℕ, ◌<◌, length, get_or, Ok, Err, true, sym, subst, ◌∙◌, rules}
use Rattle.std.proofs.lemmas.List.{get_or_default}
use Rattle.place_table.proofs.HostEquality.{same_host-Decides}
use Rattle.member_roster.specs.Places.{host_node, place_by}
use Rattle.member_roster.proofs.Places.{ok_within}
use Rattle.member_roster.proofs.Backed.{backed_given, backed_without, in_place}
use Rattle.member_roster.proofs.copies.give_back.Goals as goal

pub returns-then-eq-clause-backed : goal.returns-then-eq-clause-backed
returns-then-eq-clause-backed c = λ rest b.
    let hs = c.args.hosts.now in
    let i = c.in-Ok.at in
    let p : place_by host_node c.args.copy.member.node hs ≡ Ok i = sym c.host_place.ensures.place ∙ c.in-Ok.is in
    let within : i < length hs = ok_within host_node c.args.copy.member.node hs i p in
    let same : c.args.copy ≡ c.index-hosts-at.result = (same_host-Decides c.args.copy c.index-hosts-at.result).0 (sym c.eq.ensures ∙ c.if-eq.true) in
    let at : get_or hs i c.args.copy ≡ c.args.copy = get_or_default hs i c.args.copy c.index-hosts-at.result within ∙ sym c.index-hosts-at.is ∙ sym same in
    backed_given hs c.args.spares.now.items rest c.args.copy i c.requires.ascends within at b

pub returns-else-eq-clause-backed : goal.returns-else-eq-clause-backed
returns-else-eq-clause-backed c = λ rest b.
    let hs = c.args.hosts.now in
    let i = c.in-Ok.at in
    let p : place_by host_node c.args.copy.member.node hs ≡ Ok i = sym c.host_place.ensures.place ∙ c.in-Ok.is in
    let within : i < length hs = ok_within host_node c.args.copy.member.node hs i p in
    backed_without hs c.args.spares.now.items rest c.args.copy
    (λ x.
    let r = in_place c.args.copy hs c.requires.ascends x in
    let q : place_by host_node c.args.copy.member.node hs ≡ Ok r.0 = r.1 in
    let j : r.0 ≡ i = cc in
    let at : get_or hs i c.args.copy ≡ c.args.copy = subst (λ (n : ℕ). get_or hs n c.args.copy ≡ c.args.copy) j r.2 in
    let same : c.args.copy ≡ c.index-hosts-at.result = sym at ∙ get_or_default hs i c.args.copy c.index-hosts-at.result within ∙ sym c.index-hosts-at.is in
    let t : c.eq.result ≡ true = c.eq.ensures ∙ (same_host-Decides c.args.copy c.index-hosts-at.result).1 same in
    absurd (search (rules, t)))
    b

pub returns-in-Err-clause-backed : goal.returns-in-Err-clause-backed
returns-in-Err-clause-backed c = λ rest b.
    let hs = c.args.hosts.now in
    let p : place_by host_node c.args.copy.member.node hs ≡ Err c.in-Err.field-0 = sym c.host_place.ensures.place ∙ c.in-Err.is in
    backed_without hs c.args.spares.now.items rest c.args.copy (λ x. let r = in_place c.args.copy hs c.requires.ascends x in let q = r.1 in absurd (cc)) b
