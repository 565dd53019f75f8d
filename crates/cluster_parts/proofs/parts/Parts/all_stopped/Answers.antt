use Rattle.std.proofs.Common.{◌≡◌, length, sym, ap, ◌∙◌, arith}
use Rattle.std.specs.Prelude.{map}
use Rattle.std.proofs.lemmas.List.{length-map}
use Rattle.cluster_parts.specs.Layout.{segment, are_all_stopped}
use Rattle.cluster_parts.specs.Views.{PartsView, state_in}
use Rattle.cluster_parts.proofs.Scans.{stopped-none, stopped-first, first-within}
use Rattle.cluster_parts.proofs.parts.Parts.all_stopped.Goals as goal

pub stopped_from-requires : goal.stopped_from-requires
stopped_from-requires c =
    let v = c.args.self.now in
    let per : c.stopped_from.inside.per ≡ v.per = ap (λ (z : PartsView). z.per) c.stopped_from.view_is in
    let many : length (map state_in c.stopped_from.inside.items.items) ≡ length v.parts = ap (λ (z : PartsView). length z.parts) c.stopped_from.view_is in
    let within = first-within v.parts c.args.member.now v.per c.in-Some.first c.in-Some.ensures.found in
    record { within = omega arith; fits = omega (arith, length-map c.stopped_from.inside.items.items state_in, c.stopped_from.inside.items.ok.0) }

pub returns-in-None-clause-stopped : goal.returns-in-None-clause-stopped
returns-in-None-clause-stopped c = sym (stopped-none c.args.member.now c.args.self.now.parts c.in-None.ensures.found)

pub returns-in-Some-clause-stopped : goal.returns-in-Some-clause-stopped
returns-in-Some-clause-stopped c =
    let v = c.args.self.now in
    c.stopped_from-in-Some.ensures.stopped ∙ ap (λ (z : PartsView). are_all_stopped (segment v.parts c.in-Some.first z.per)) c.stopped_from.view_is
    ∙ sym (stopped-first v.parts c.args.member.now v.per c.in-Some.first c.in-Some.ensures.found)
