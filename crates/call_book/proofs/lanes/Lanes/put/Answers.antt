use Rattle.std.proofs.Common.{◌≡◌}
use Rattle.std.specs.Prelude.{is_some}
use Rattle.call_book.specs.Lanes.{lane_at}
use Rattle.call_book.proofs.Counted.{cut_lane, count_room, counted_put}
use Rattle.call_book.proofs.lanes.Lanes.put.Goals as goal

pub put-requires : goal.put-requires
put-requires c = cut_lane c.args.node.value.element.name c.self.inside.tree c.self.inside.count c.self.invariant

pub count_with-self-inside-requires : goal.count_with-self-inside-requires
count_with-self-inside-requires c =
    let there : c.is_there-there.result ≡ is_some (lane_at c.args.node.value.element.name c.self.inside.tree) = rw (c.deref.ensures, ← c.self.view_is) at c.is_there-there.ensures in
    count_room c.is_there-there.result c.args.node.value.element c.self.inside.tree c.self.inside.count c.self.invariant there (rw (← c.self.view_is) at c.requires)

pub invariant_of-self : goal.invariant_of-self
invariant_of-self c =
    let there : c.is_there-there.result ≡ is_some (lane_at c.args.node.value.element.name c.self.inside.tree) = rw (c.deref.ensures, ← c.self.view_is) at c.is_there-there.ensures in
    rw (c.put.ensures, c.count_with-self-inside.ensures)
    (counted_put c.is_there-there.result c.args.node.value.element c.self.inside.tree c.self.inside.count c.self.invariant there (count_room c.is_there-there.result c.args.node.value.element c.self.inside.tree c.self.inside.count c.self.invariant there (rw (← c.self.view_is) at c.requires)))
