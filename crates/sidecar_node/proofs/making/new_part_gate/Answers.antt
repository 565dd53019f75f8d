use Rattle.std.proofs.Common.{[], IfOk, List, ap, subst, ◌∙◌}
use Rattle.part_model.specs.declared.settings.TypeSettings.{TypeSettings}
use Rattle.part_model.specs.Machine.{PartAllows}
use Rattle.part_model.specs.Part.{new_part}
use Rattle.part_model.specs.Rooms.{PartView}
use Rattle.sidecar_node.specs.Rows.{IsNewAt}
use Rattle.sidecar_node.proofs.News.{new_told}
use Rattle.sidecar_node.proofs.making.new_part_gate.Goals as goal

pub returns : goal.returns
returns c =
    let view = λ (kinds : List TypeSettings). let v : PartView = record { state = new_part c.args.member.now c.args.number kinds; recent = [] } in v in
    subst (λ (b : PartView). IfOk c.new-2.result (λ r. IsNewAt PartAllows b r.0 r.1)) (c.in_ok-part.ensures ∙ ap view c.in_ok-copied.ensures)
    (new_told PartAllows c.in_ok-part.part c.new-2.result c.new-2.ensures.seat c.new-2.ensures.opening c.new-2.ensures.empty)
