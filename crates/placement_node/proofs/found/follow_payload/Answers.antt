use Rattle.std.proofs.Common.{Bool, cond, Some, None, ap, ◌∙◌}
use Rattle.placement_core.specs.Readings.{entries_of}
use Rattle.placement_node.proofs.Rooms.{entries_fit}
use Rattle.placement_node.proofs.found.follow_payload.Goals as goal

pub returns-clause-fits : goal.returns-clause-fits
returns-clause-fits c =
    entries_fit c.args.replay.now c.follow.new.self (entries_of c.in-Ok.one) c.requires c.in-Ok.ensures.fits
    (c.in_ok-follow.ensures ∙ ap (λ (b : Bool). cond b (Some c.follow.new.self) None) c.if-not-branch.false)
