use Rattle.std.proofs.Common.{not, Bool, ap, ◌∙◌}
use Rattle.part_core.specs.Quiet.{gives_none}
use Rattle.part_model.specs.Rooms.{PartView}
use Rattle.part_core.proofs.Closings.{none_given}
use Rattle.part_core.proofs.shard.Shard.gives_none.Goals as goal

pub returns-in_default : goal.returns-in_default
returns-in_default c =
    ap (λ (b : Bool). not b) c.gives_some.ensures
    ∙ none_given c.self.inside.standing c.self.inside.actors c.self.invariant.counted c.in_default.not-Stopped
    ∙ ap (λ (v : PartView). gives_none v.state) c.self.view_is
