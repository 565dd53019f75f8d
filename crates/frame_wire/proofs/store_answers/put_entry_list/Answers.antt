use Rattle.std.proofs.Common.{None}
use Rattle.wire_fields.specs.Fields.{in_any_order}
use Rattle.frame_wire.specs.StoreParts.{due_entry}
use Rattle.wire_fields.proofs.Loops.{fits_at, wrote_more}
use Rattle.frame_wire.proofs.store_answers.put_entry_list.Goals as goal

pub put_due_entry-requires : goal.put_due_entry-requires
put_due_entry-requires c = rw c.one-item.is (fits_at (in_any_order due_entry) due_entry.Fits (λ b a h. h) None c.args.entries.now c.loop-one.one-index _ c.requires c.loop-one-test.true)

pub loop-one-preserved : goal.loop-one-preserved
loop-one-preserved c = wrote_more due_entry.spell c.args.entries.now c.loop-one.one-index _ _ c.loop-one.out.items c.put_due_entry.new.out.items c.loop-one-test.true c.one-item.is c.loop-one.invariant c.in_ok-put_due_entry.ensures
