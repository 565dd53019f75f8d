use Rattle.std.proofs.Common.{◌≡◌, ◌≤◌, ℕ, arith}
use Rattle.lease_core.proofs.Givings.{stops_over, stops_more}
use Rattle.lease_core.proofs.passing.«+stop_parts».Goals as goal

pub returns-then-count-eq0 : goal.returns-then-count-eq0
returns-then-count-eq0 t c w e = stops_over c.args.member.now c.args.part c.args.count w c.args.world.now (omega arith) e

pub returns : goal.returns
returns t c w e = stops_more c.args.member.now c.args.part c.args.count w c.stop.new.self c.stop_parts.new.world c.stop.result (λ z. omega arith) (c.stop.ensures w e) c.stop_parts.ensures
