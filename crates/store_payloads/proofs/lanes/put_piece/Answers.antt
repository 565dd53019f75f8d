use Rattle.std.proofs.Common.{None}
use Rattle.wire_fields.specs.Fields.{in_any_order}
use Rattle.store_payloads.specs.Fields.{kept_number}
use Rattle.wire_fields.proofs.Loops.{fits_at, wrote_more}
use Rattle.store_payloads.proofs.lanes.put_piece.Goals as goal

pub put_number-requires : goal.put_number-requires
put_number-requires c = rw c.number-item.is (fits_at (in_any_order kept_number) kept_number.Fits (λ b a h. h) None c.args.numbers.now c.loop-number.number-index _ c.requires c.loop-number-test.true)

pub loop-number-preserved : goal.loop-number-preserved
loop-number-preserved c = wrote_more kept_number.spell c.args.numbers.now c.loop-number.number-index _ _ c.loop-number.out.items c.put_number.new.out.items c.loop-number-test.true c.number-item.is c.loop-number.invariant c.in_ok-put_number.ensures
