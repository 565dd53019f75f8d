use Rattle.std.proofs.Common.{◌≡◌, subst}
use Rattle.part_model.specs.Part.{ring_owner}
use Rattle.cluster_model.specs.World.{key_part}
use Rattle.lease_core.specs.Books.{book_of}
use Rattle.lease_core.specs.Leased.{LeasedCluster, LeaseView, leased_step, leased_view, GivesLeased}
use Rattle.lease_core.proofs.Givings.{shown, promised}
use Rattle.lease_core.proofs.world.LeaseWorld.step.Goals as goal

pub invariant_of-self : goal.invariant_of-self
invariant_of-self c =
    let i = c.self.inside in
    (promised (shown i.world (book_of i.book)) (shown c.step_both.new.world (book_of c.step_both.new.book)) c.args.event c.step_both.result c.self.invariant c.step_both.ensures).reached

pub returns : goal.returns
returns c =
    let i = c.self.inside in
    let u : LeaseView = shown c.step_both.new.world (book_of c.step_both.new.book) in
    let p = promised (shown i.world (book_of i.book)) u c.args.event c.step_both.result c.self.invariant c.step_both.ensures in
    record {
      given = subst (λ (z : LeaseView). (k : LeasedCluster) → leased_view k ≡ z → GivesLeased c.step_both.result z (leased_step ring_owner key_part k c.args.event) u) c.self.view_is c.step_both.ensures;
      stopped = p.stopped;
      honest = p.honest;
    }
