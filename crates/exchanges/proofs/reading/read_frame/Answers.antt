use Rattle.std.proofs.Common.{List, ℕ, subst}
use Rattle.exchanges.specs.declared.front.Front.TheVariants as fronts
use Rattle.exchanges.specs.FrameExchanges.{BeginsWith}
use Rattle.exchanges.proofs.Readings.{first_whole, then_rest}
use Rattle.exchanges.proofs.reading.read_frame.Goals as goal

pub returns-in-Whole-clause-reads : goal.returns-in-Whole-clause-reads
returns-in-Whole-clause-reads g c =
    let begins : BeginsWith c.as_slice.result.now (fronts.Whole c.in-Whole.frame) = rw c.in-Whole.is at c.in-Ok-look_front.ensures in
    first_whole c.new-bytes.result.items c.fill.new.bytes.items c.in-Whole.frame _ _ c.new-bytes.ensures.items c.in-Ok.ensures.over c.in-Ok.ensures.most
    (subst (λ (xs : List ℕ). BeginsWith xs (fronts.Whole c.in-Whole.frame)) c.as_slice.ensures.value begins)

pub returns-else-len-lt5-clause-reads : goal.returns-else-len-lt5-clause-reads
returns-else-len-lt5-clause-reads g c =
    then_rest c.new-bytes.result.items c.fill.new.bytes.items _ _ _ c.read_rest.result c.new-bytes.ensures.items c.in-Ok.ensures.over c.read_rest.ensures.reads
