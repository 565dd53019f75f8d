use Rattle.std.proofs.Common.{◌≡◌, ◌<◌, if◌then◌else◌, List, length, set, get_or, sym, ap, ◌∙◌, arith, rules}
use Rattle.turn_core.specs.declared.cell.Waiter.{Waiter}
use Rattle.turn_core.proofs.MovedQueue.{marked, read_moved_to, moved_to-more, unmoved-more}
use Rattle.turn_core.proofs.queue.move_queue.Goals as goal

pub loop-i-preserved : goal.loop-i-preserved
loop-i-preserved c =
    let was = c.args.queue.now.items in
    let is = c.loop-i.queue.items in
    let i = c.loop-i.i in
    let waiter = c.index_mut-waiter.result.now in
    let within : c.loop-i.i < length c.args.queue.now.items = omega arith in
    let read : waiter ≡ get_or is i waiter = c.index_mut-waiter.ensures.value in
    let unread : waiter ≡ get_or was i waiter = read ∙ ap (λ (ws : List Waiter). get_or ws i waiter) (sym c.loop-i.invariant.moved) ∙ read_moved_to was i waiter within in
    let counted = c.move_waiter-count.ensures.count ∙ ap (λ (w : Waiter). if w.moved then 0 else 1) unread in
    let more = unmoved-more was i waiter within in
    record {
      moved = moved_to-more was is i waiter within c.loop-i.invariant.moved ∙ ap (λ (w : Waiter). set is i w) (sym (c.move_waiter-count.ensures.moved ∙ ap marked read));
      count = omega arith;
      few = search rules;
      len = search rules;
      whole = omega arith;
    }
