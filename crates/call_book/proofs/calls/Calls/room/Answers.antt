use Rattle.std.proofs.Common.{◌<◌, ◌≤◌, length, sym, ◌∙◌, arith}
use Rattle.call_book.proofs.Adding.{room-free, room-first}
use Rattle.call_book.proofs.calls.Calls.room.Goals as goal

pub returns-then-len-lt-MOST_CALLS : goal.returns-then-len-lt-MOST_CALLS
returns-then-len-lt-MOST_CALLS c =
    let n = c.len.ensures in
    let less : length c.self.inside.rows < 4096 = omega arith in
    rw (← c.self.view_is) (sym (room-free c.self.inside.rows less))

pub returns : goal.returns
returns c =
    let n = c.len.ensures in
    let most : 4096 ≤ length c.self.inside.rows = omega arith in
    rw (← c.self.view_is) ((let e = rw c.first.ensures at c.room_by.ensures in e) ∙ sym (room-first c.self.inside.rows most))
