use Rattle.std.proofs.Common.{◌≡◌, ap, ◌∙◌}
use Rattle.call_book.specs.declared.lane.LaneName.{LaneName}
use Rattle.call_book.proofs.Adding.{new_row, put_new, put_room, put_entries, put_earlier}
use Rattle.call_book.proofs.calls.Calls.add.Goals as goal

pub put-requires : goal.put-requires
put-requires c =
    let is : c.in_ok-node.node.value.element ≡ new_row c.args.lane.now c.args.number c.self.inside.next = c.in_ok-node.ensures ∙ ap (λ (n : LaneName). new_row n c.args.number c.self.inside.next) c.copy.ensures in
    let left = rw c.clear_lane.ensures at c.clear_room.ensures in
    record {
      new = put_new c.args.bare c.room_in-room.result c.args.lane.now c.args.number c.self.inside.rows c.in_ok-node.node.value.element c.self.inside.next is c.clear_room.new.rows left c.in_order.ensures.order (rw (← c.self.view_is) at c.requires);
      room = put_room c.args.bare c.room_in-room.result c.args.lane.now c.args.number c.self.inside.rows c.in_ok-node.node.value.element c.self.inside.next is c.clear_room.new.rows left c.in_order.ensures.limit (rw (← c.self.view_is) at c.room_in-room.ensures) c.in_default.not-Full;
    }

pub invariant_of-self : goal.invariant_of-self
invariant_of-self c =
    let is : c.in_ok-node.node.value.element ≡ new_row c.args.lane.now c.args.number c.self.inside.next = c.in_ok-node.ensures ∙ ap (λ (n : LaneName). new_row n c.args.number c.self.inside.next) c.copy.ensures in
    let left = rw c.clear_lane.ensures at c.clear_room.ensures in
    rw c.put.ensures (put_earlier c.args.bare c.room_in-room.result c.args.lane.now c.args.number c.self.inside.rows c.in_ok-node.node.value.element c.self.inside.next is c.clear_room.new.rows left c.self.invariant)

pub returns : goal.returns
returns c =
    let is : c.in_ok-node.node.value.element ≡ new_row c.args.lane.now c.args.number c.self.inside.next = c.in_ok-node.ensures ∙ ap (λ (n : LaneName). new_row n c.args.number c.self.inside.next) c.copy.ensures in
    let left = rw c.clear_lane.ensures at c.clear_room.ensures in
    record {
      room = c.room_in-room.ensures;
      ok = rw (c.put.ensures, ← c.self.view_is) (put_entries c.args.bare c.room_in-room.result c.args.lane.now c.args.number c.self.inside.rows c.in_ok-node.node.value.element c.self.inside.next is c.clear_room.new.rows left c.in_order.ensures.order (rw (← c.self.view_is) at c.requires) c.self.invariant c.in_default.not-Full);
      err = tt;
      cause = tt;
    }
