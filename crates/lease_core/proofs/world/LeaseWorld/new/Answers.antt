use Rattle.std.proofs.Common.{[]}
use Rattle.lease_core.specs.Leased.{opening_leased}
use Rattle.lease_core.proofs.world.LeaseWorld.new.Goals as goal

pub invariant_of-result : goal.invariant_of-result
invariant_of-result c = record { settings = c.args.settings; events = []; leads = λ i. record { world = c.new.ensures i; book = c.new-2.ensures i } }
