use Rattle.std.specs.Int.{w64, to_be_bytes}
use Rattle.store_payloads.specs.Fields.{state_fields, table_row}
use Rattle.store_payloads.proofs.Written.{payload_written}
use Rattle.store_payloads.proofs.writing.put_state_row.Goals as goal

pub returns : goal.returns
unfolding table_row
returns c = payload_written c.args.out.now.items (to_be_bytes w64 c.args.now) (state_fields.spell c.args.row.now) c.put_head.new.out.items c.put_state_fields.new.out.items 131 c.in_ok-put_head.ensures c.in_ok-put_state_fields.ensures
