use Rattle.std.proofs.Common.{arith}
use Rattle.call_book.proofs.Placed.{length-without_all, ascends_without_all}
use Rattle.call_book.proofs.rows.Rows.remove_all.Goals as goal

pub overflow_cast-self : goal.overflow_cast-self
overflow_cast-self g c =
    let all = length-without_all (g.P.Probe.at c.args.place.now) c.self.inside.tree in
    let gone = c.count-gone.ensures in
    let n = c.self.invariant.number in
    let most = c.self.invariant.limit in
    omega arith

pub overflow_sub-self : goal.overflow_sub-self
overflow_sub-self g c =
    let all = length-without_all (g.P.Probe.at c.args.place.now) c.self.inside.tree in
    let gone = c.count-gone.ensures in
    let n = c.self.invariant.number in
    omega arith

pub invariant_of-self : goal.invariant_of-self
invariant_of-self g c =
    let all = length-without_all (g.P.Probe.at c.args.place.now) c.self.inside.tree in
    let gone = c.count-gone.ensures in
    let n = c.self.invariant.number in
    let most = c.self.invariant.limit in
    rw c.remove_all.ensures (record {
      order = ascends_without_all (g.P.Probe.at c.args.place.now) c.self.inside.tree c.self.invariant.order;
      number = omega arith;
      limit = omega arith;
    })
