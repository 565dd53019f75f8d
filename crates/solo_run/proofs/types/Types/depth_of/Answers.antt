use Rattle.std.proofs.Common.{sym, ◌∙◌, arith}
use Rattle.solo_run.proofs.PlaceLemmas.{place_below}
use Rattle.solo_run.proofs.TypeLemmas.{depth_of-place, depth_of-none}
use Rattle.solo_run.proofs.types.Types.depth_of.Goals as goal

pub index-requires : goal.index-requires
index-requires c =
    let below = place_below c.args.kind.now c.self.inside.kinds c.in-Some.at (sym c.in-Some.ensures) in
    let each = c.self.invariant.each in
    let counted = c.self.inside.depths.ok.0 in
    omega arith

pub returns-in-Some-clause-depth : goal.returns-in-Some-clause-depth
returns-in-Some-clause-depth c =
    rw (← c.self.view_is)
    (c.index.ensures ∙ sym (depth_of-place c.args.kind.now c.self.inside.kinds c.self.inside.depths.items c.in-Some.at c.index.result.now c.self.invariant.each (sym c.in-Some.ensures)))

pub returns-in-Some-clause-shallow : goal.returns-in-Some-clause-shallow
returns-in-Some-clause-shallow c =
    let below = place_below c.args.kind.now c.self.inside.kinds c.in-Some.at (sym c.in-Some.ensures) in
    let each = c.self.invariant.each in
    let bound = c.self.invariant.shallow c.in-Some.at c.index.result.now (omega arith) in
    let same = c.index.ensures in
    omega arith

pub returns-in-None-clause-depth : goal.returns-in-None-clause-depth
returns-in-None-clause-depth c = rw (← c.self.view_is) (sym (depth_of-none c.args.kind.now c.self.inside.kinds c.self.inside.depths.items (sym c.in-None.ensures)))
