use Rattle.place_table.proofs.SlotOrder.{sorted_ring}
use Rattle.place_table.proofs.build.ring_of.Goals as goal

pub returns : goal.returns
returns c = sorted_ring c.args.hosts.now c.args.kind.now c.in_ok-slots.slots.items c.sort_slots.new.slots.items c.requires.order c.in_ok-slots.ensures c.sort_slots.ensures.same c.sort_slots.ensures.sorted
