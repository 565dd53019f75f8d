use Rattle.std.proofs.Common.{◌≡◌, sym, ap, arith}
use Rattle.cluster_parts.specs.Views.{PartsView}
use Rattle.cluster_parts.proofs.Scans.{place-none, place-first, place-past, first-within}
use Rattle.cluster_parts.proofs.parts.Parts.place_of.Goals as goal

pub returns-in-None-clause-place : goal.returns-in-None-clause-place
returns-in-None-clause-place c = sym (place-none c.args.member.now c.args.part c.args.self.now.parts c.in-None.ensures.found)

pub returns-then-part-self-clause-place : goal.returns-then-part-self-clause-place
returns-then-part-self-clause-place c =
    let v = c.args.self.now in
    let per : c.self.inside.per ≡ v.per = ap (λ (z : PartsView). z.per) c.self.view_is in
    sym (place-first v.parts c.args.member.now v.per c.in-Some.first c.args.part c.in-Some.ensures.found (omega arith))

pub returns-then-part-self-clause-within : goal.returns-then-part-self-clause-within
returns-then-part-self-clause-within c =
    let v = c.args.self.now in
    let per : c.self.inside.per ≡ v.per = ap (λ (z : PartsView). z.per) c.self.view_is in
    omega (arith, first-within v.parts c.args.member.now v.per c.in-Some.first c.in-Some.ensures.found)

pub returns-else-part-self-clause-place : goal.returns-else-part-self-clause-place
returns-else-part-self-clause-place c =
    let v = c.args.self.now in
    let per : c.self.inside.per ≡ v.per = ap (λ (z : PartsView). z.per) c.self.view_is in
    sym (place-past v.parts c.args.member.now v.per c.in-Some.first c.args.part c.in-Some.ensures.found (omega arith))
