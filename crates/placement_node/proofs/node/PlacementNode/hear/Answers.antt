use Rattle.std.proofs.Common.{◌≤◌, length, [], refl, sym, ap, subst, arith}
use Rattle.placement_node.specs.Node.{NodeState}
use Rattle.placement_node.specs.Trials.{IsQuiet, Tries}
use Rattle.placement_node.proofs.Quiet.{quiet_fits, quiet_tries}
use Rattle.placement_node.proofs.Steps.{done_moves}
use Rattle.placement_node.proofs.node.PlacementNode.hear.Goals as goal

pub invariant_of-self : goal.invariant_of-self
invariant_of-self g c =
    let quiet = subst (λ (n : NodeState). IsQuiet n.state c.args.event c.args.answer) (sym c.self.view_is) c.requires.quiet in
    (quiet_fits c.self.inside.placement.state c.args.event c.args.now c.args.answer c.step-reply.new.self.state c.step-reply.result c.requires.sent c.self.invariant.0 quiet c.step-reply.ensures.gives, c.self.invariant.1)

pub returns-clause-moves : goal.returns-clause-moves
returns-clause-moves g c =
    let s = c.self.inside.placement.state in
    let t = c.step-reply.new.self.state in
    let new : NodeState = record { state = t; journal = c.self.inside.journal } in
    let quiet = subst (λ (n : NodeState). IsQuiet n.state c.args.event c.args.answer) (sym c.self.view_is) c.requires.quiet in
    let few : length s.rooms ≤ 64 = omega (arith, c.rooms-before.ensures.count, c.rooms-before.ensures.within) in
    let tries = quiet_tries s c.args.event c.args.now c.args.answer t c.step-reply.result c.requires.sent c.self.invariant.0 quiet c.step-reply.ensures.gives few c.rooms-rooms.ensures.order in
    let tried = subst (λ (n : NodeState). Tries c.args.event c.args.now n.state (record { state = t; recent = [] }) c.args.answer) c.self.view_is tries in
    done_moves c.args.self.now new c.args.event c.args.now (record { state = t; recent = [] }) c.args.answer c.requires.works tried (refl, ap (λ (n : NodeState). n.journal) c.self.view_is)
