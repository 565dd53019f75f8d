use Rattle.std.specs.Int.{w64, to_be_bytes}
use Rattle.store_payloads.specs.Fields.{boot_fields, table_row}
use Rattle.store_payloads.proofs.Written.{payload_written}
use Rattle.store_payloads.proofs.writing.put_boot_row.Goals as goal

pub returns : goal.returns
unfolding table_row
returns c = payload_written c.args.out.now.items (to_be_bytes w64 c.args.now) (boot_fields.spell ((c.args.space.now, c.args.node.now), c.args.boot)) c.put_head.new.out.items c.put_boot_fields.new.out.items 129 c.in_ok-put_head.ensures c.in_ok-put_boot_fields.ensures
