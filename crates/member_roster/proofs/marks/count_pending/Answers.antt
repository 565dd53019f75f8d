use Rattle.std.proofs.Common.{false, add-one, arith}
use Rattle.member_roster.specs.declared.marks.Mark.{Mark}
use Rattle.member_roster.proofs.Counts.{count-take, weight_most}
use Rattle.member_roster.proofs.marks.count_pending.Goals as goal

pub loop-i-preserved : goal.loop-i-preserved
loop-i-preserved c =
    let d : Mark = record { heard = 0; target = false; pending = false } in
    let e = count-take c.args.marks.now c.loop-i.i d c.loop-i-test.true in
    let w = c.weigh_mark-count.ensures in
    let m = weight_most c.args.marks.now c.loop-i.i d in
    let v = c.loop-i.invariant.count in
    let f = c.loop-i.invariant.few in
    record { count = rw add-one (omega arith); few = omega arith }
