use Rattle.std.proofs.Common.{◌%◌, ℕ, ap, ◌∙◌}
use Rattle.place_table.specs.Hosts.{key_place}
use Rattle.cluster_model.specs.World.{key_part, place_of_part}
use Rattle.cluster_parts.specs.Views.{PartsView}
use Rattle.cluster_parts.proofs.parts.Parts.key_place_of.Goals as goal

pub returns-clause-place : goal.returns-clause-place
unfolding key_part
returns-clause-place c =
    let v = c.args.self.now in
    c.place_of.ensures.place ∙ ap (λ (i : ℕ). place_of_part v.parts c.args.member.now i) (c.part_of.ensures ∙ ap (λ (z : PartsView). key_place c.args.key.now.id % z.per) c.self.view_is)
