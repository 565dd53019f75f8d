use Rattle.std.proofs.Common.{sym, ◌∙◌}
use Rattle.call_book.proofs.Placed.{moved, ascends_moved, length-map}
use Rattle.call_book.proofs.rows.Rows.set_stage.Goals as goal

pub invariant_of-self : goal.invariant_of-self
invariant_of-self c = rw c.set_stage.ensures (record {
  order = ascends_moved c.args.lane.now c.args.number c.args.stage c.self.inside.tree c.self.invariant.order;
  number = c.self.invariant.number ∙ sym (length-map (moved c.args.lane.now c.args.number c.args.stage) c.self.inside.tree);
  limit = c.self.invariant.limit;
})
