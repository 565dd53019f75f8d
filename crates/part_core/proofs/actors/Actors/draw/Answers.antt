use Rattle.std.proofs.Common.{arith, vec_capacity}
use Rattle.part_core.proofs.Kept.{kept_more}
use Rattle.part_core.proofs.actors.Actors.draw.Goals as goal

pub invariant_of-self-2 : goal.invariant_of-self-2
invariant_of-self-2 c =
    let k = c.self.invariant in
    kept_more c.self.inside.drawn c.self.inside.cells (vec_capacity c.self.inside.recent) k _ _ (omega arith) (omega arith) (let e = c.clear.ensures.capacity in omega arith)
