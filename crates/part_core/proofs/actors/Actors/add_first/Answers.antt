use Rattle.std.proofs.Common.{◌≡◌, ◌+◌, ◌<◌, ◌^◌, None, length, arith, vec_capacity}
use Rattle.std.specs.Option.{option_copied}
use Rattle.part_model.specs.declared.actor_cell.ActorCell.{ActorCell}
use Rattle.part_model.specs.Cells.{cell_at, keep_cell}
use Rattle.part_core.proofs.FirstAsks.{first_settled, first_one, first_numbered}
use Rattle.part_core.proofs.Kept.{fresh, kept_more, kept_first}
use Rattle.part_core.proofs.actors.Actors.add_first.Goals as goal

pub add-requires-clause-fresh : goal.add-requires-clause-fresh
add-requires-clause-fresh c = fresh c.self.inside.drawn c.self.inside.cells (vec_capacity c.self.inside.recent) c.self.invariant

pub invariant_of-self-in_default-add : goal.invariant_of-self-in_default-add
invariant_of-self-in_default-add c =
    let k = c.self.invariant in
    let r = c.reserve.ensures.capacity in
    rw c.in_default-add.ensures.err (kept_more c.self.inside.drawn c.self.inside.cells (vec_capacity c.self.inside.recent) k c.self.inside.drawn _ (omega arith) k.drawn_fits (omega arith))

pub invariant_of-self-2 : goal.invariant_of-self-2
invariant_of-self-2 c =
    let k = c.self.invariant in
    let drawn = c.self.inside.drawn in
    let v = c.self.inside.cells in
    let cell = c.args.cell in
    let chain = option_copied c.as_ref.result in
    let g = c.in-Ok-ask.ensures in
    let x : ActorCell = record cell { inner = c.ask.new.self; active = c.has_begun.result } in
    let h : c.add.new.self.cells ≡ keep_cell v.cells x = c.in-Ok-add.ensures.ok in
    let s = first_settled cell (drawn + 1) chain c.args.may_begin c.requires.first c.in-Ok-ask.asked c.ask.new.self g c.has_begun.result c.has_begun.ensures in
    let one = first_one cell (drawn + 1) chain c.args.may_begin c.requires.first c.in-Ok-ask.asked c.ask.new.self g in
    let n = first_numbered drawn cell chain c.args.may_begin c.in-Ok-ask.asked c.ask.new.self c.requires.first g in
    let absent : cell_at v.cells cell.key ≡ None = rw (← c.self.view_is) at c.requires.absent in
    let fits : drawn < 2 ^ 62 = rw (← c.self.view_is) at c.requires.numbers in
    let few : length v.cells < 65536 = rw (← c.self.view_is) at c.requires.few in
    let count = c.count.ensures in
    let room = c.in-Ok.ensures.ok in
    let wide = c.accepted.ensures.room in
    rw h (kept_first drawn v (vec_capacity c.self.inside.recent) k x _ absent s.kept n one fits few (omega arith))
