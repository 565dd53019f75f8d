use Rattle.std.proofs.Common.{◌++◌, ℕ, List, length, ap, ◌∙◌, arith}
use Rattle.part_cells.specs.Slots.{each_list, open_calls}
use Rattle.part_core.proofs.EachKept.{stop-ended}
use Rattle.part_core.proofs.Kept.{kept_none}
use Rattle.part_core.proofs.actors.Actors.stop.Goals as goal

pub stop-requires : goal.stop-requires
stop-requires c =
    let k = c.self.invariant in
    let h = k.has_room in
    let d = c.clear.ensures.capacity in
    let e = ap (λ (ns : List ℕ). length ns) c.clear.ensures.items in
    omega arith

pub invariant_of-self : goal.invariant_of-self
invariant_of-self c = let k = c.self.invariant in rw c.stop.ensures.cells (kept_none c.self.inside.drawn _ k.drawn_fits)

pub returns : goal.returns
returns c =
    let cells = c.self.inside.cells.cells in
    rw (← c.self.view_is) (λ i. record {
      drawn = c.self.inside.drawn;
      cells = c.stop.ensures.cells i;
      recent = (c.stop.ensures.ended ∙ ap (λ (l : List ℕ). l ++ each_list open_calls cells) c.clear.ensures.items ∙ stop-ended cells) i;
    })
