use Rattle.std.proofs.Common.{◌≡◌}
use Rattle.schedule_text.specs.Firing.{following, first_after}
use Rattle.schedule_text.proofs.advance.walk.Given as goal

abbrev pub invariant-loop-most : goal.invariant-loop-most
invariant-loop-most l = first_after l.most l.period l.until l.at ≡ following l.period l.fn.moment l.until

abbrev pub decreases-loop-most : goal.decreases-loop-most
decreases-loop-most l = l.most
