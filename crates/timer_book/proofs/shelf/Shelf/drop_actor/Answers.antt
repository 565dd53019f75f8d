use Rattle.std.proofs.Common.{not, arith}
use Rattle.timer_book.specs.declared.entry.TimerEntry.{TimerEntry}
use Rattle.timer_book.specs.Entries.{entry_place, place_cmp, is_of}
use Rattle.lists_and_limits.proofs.Maps.{length_filter}
use Rattle.lists_and_limits.proofs.Orders.{ascends_filter}
use Rattle.timer_book.proofs.shelf.Shelf.drop_actor.Goals as goal

pub invariant_of-self : goal.invariant_of-self
invariant_of-self c =
    let l = length_filter (λ (e : TimerEntry). not (is_of c.args.key.now e)) c.self.inside.tree in
    let m = c.self.invariant.1 in
    rw c.remove_all_of.ensures (ascends_filter entry_place place_cmp (λ (e : TimerEntry). not (is_of c.args.key.now e)) c.self.inside.tree c.self.invariant.0, omega arith, c.self.invariant.2)
