use Rattle.std.specs.Int.{w64, to_be_bytes}
use Rattle.store_payloads.specs.Fields.{reminder_fields, table_row}
use Rattle.store_payloads.proofs.Written.{payload_written}
use Rattle.store_payloads.proofs.writing.put_reminder_row.Goals as goal

pub returns : goal.returns
unfolding table_row
returns c = payload_written c.args.out.now.items (to_be_bytes w64 c.args.now) (reminder_fields.spell (c.args.actor.now, (c.args.name.now, c.args.reminder.now))) c.put_head.new.out.items c.put_reminder_fields.new.out.items 132 c.in_ok-put_head.ensures c.in_ok-put_reminder_fields.ensures
