use Rattle.std.proofs.Common.{◌≡◌, Ok}
use Rattle.stamp_lanes.specs.declared.answer.KeptNumber.{KeptNumber}
use Rattle.stamp_lanes.specs.declared.answer.StampLook.TheVariants.{Fresh}
use Rattle.stamp_lanes.specs.Stamps.{look}
use Rattle.stamp_lanes.proofs.NodeFacts.{sound-accept}
use Rattle.stamp_lanes.proofs.lanes.StampLanes.accept.Goals as goal

pub invariant_of-self : goal.invariant_of-self
invariant_of-self c =
    let tree = c.self.inside.tree in
    let k : KeptNumber = record { number = c.args.number; answer = c.args.answer } in
    let fresh : look c.args.member.now c.args.part c.args.number tree ≡ Ok Fresh = rw (← c.self.view_is) at c.requires.fresh in
    rw c.accept_in.ensures
    (sound-accept c.args.member.now c.args.part k tree c.self.inside.greatest c.self.inside.count c.self.invariant fresh)
