use Rattle.std.proofs.Common.{◌≡◌, ◌+◌, ◌-◌, ◌^◌, min, arith}
use Rattle.lease_core.proofs.Loops.{many_is}
use Rattle.lease_core.proofs.passing.are_too_many.Goals as goal

pub returns : goal.returns
returns c all e =
    let sum : c.saturating_add.result ≡ min (c.args.count + c.args.stops) (2 ^ 64 - 1) = (let a = c.saturating_add.ensures in omega arith) in
    many_is c.args.count all c.args.stops c.saturating_add.result e sum
