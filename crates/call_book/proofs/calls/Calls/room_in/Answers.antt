use Rattle.std.proofs.Common.{◌≡◌, ◌<◌, true, sym, ap, ◌∙◌, arith}
use Rattle.lists_and_limits.specs.Lists.{count_at}
use Rattle.call_book.specs.Turns.{in_lane, room_of}
use Rattle.call_book.proofs.Adding.{room-lane, base-none}
use Rattle.call_book.proofs.calls.Calls.room_in.Goals as goal

pub returns-then-count_in-gt0 : goal.returns-then-count_in-gt0
returns-then-count_in-gt0 c =
    let bare : c.args.bare ≡ true = c.if-not-bare.false in
    let n = c.count_in.ensures in
    let some : 0 < count_at (in_lane c.args.lane.now) c.self.inside.rows = omega arith in
    rw (bare, ← c.self.view_is) (sym (room-lane c.args.lane.now c.self.inside.rows c.in_order.ensures.limit some))

pub returns : goal.returns
returns c =
    let bare : c.args.bare ≡ true = c.if-not-bare.false in
    let n = c.count_in.ensures in
    let none : count_at (in_lane c.args.lane.now) c.self.inside.rows ≡ 0 = omega arith in
    rw bare (c.room-2.ensures ∙ rw (← c.self.view_is) (ap room_of (sym (base-none c.args.lane.now c.self.inside.rows none))))
