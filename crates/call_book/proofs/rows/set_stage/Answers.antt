use Rattle.std.proofs.Common.{◌≡◌, Some, None, sym, ◌∙◌}
use Rattle.lists_and_limits.specs.Lists.{without}
use Rattle.lists_and_limits.proofs.Maps.{without-none}
use Rattle.lists_and_limits.proofs.Orders.{ascends_without}
use Rattle.call_book.specs.Turns.{place, place_cmp, at_row, row_at}
use Rattle.call_book.proofs.Placed.{cut_call, cut_row, stage_none, stage_back}
use Rattle.call_book.proofs.rows.set_stage.Goals as goal

pub take-requires : goal.take-requires
take-requires c = cut_call c.args.lane.now c.args.number c.args.tree.now c.requires

pub put-requires : goal.put-requires
put-requires c = rw c.take.ensures.rest (cut_row c.restaged.result.value.element (without (at_row c.args.lane.now c.args.number) c.args.tree.now) (ascends_without place place_cmp (at_row c.args.lane.now c.args.number) c.args.tree.now c.requires))

pub returns-in-None : goal.returns-in-None
returns-in-None c =
    let none : row_at c.args.lane.now c.args.number c.args.tree.now ≡ None = sym c.in-None.ensures.taken in
    c.take.ensures.rest ∙ without-none (at_row c.args.lane.now c.args.number) c.args.tree.now none ∙ sym (stage_none c.args.lane.now c.args.number c.args.stage c.args.tree.now none)

pub returns-in-Some : goal.returns-in-Some
returns-in-Some c =
    let found : row_at c.args.lane.now c.args.number c.args.tree.now ≡ Some c.in-Some.node.value.element = sym c.in-Some.ensures.taken in
    rw (c.put.ensures, c.restaged.ensures, c.take.ensures.rest) (stage_back c.args.lane.now c.args.number c.args.stage c.in-Some.node.value.element c.args.tree.now c.requires found)
