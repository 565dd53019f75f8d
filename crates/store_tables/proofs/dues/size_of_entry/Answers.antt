use Rattle.std.proofs.Common.{sym}
use Rattle.store_tables.proofs.Sizes.{entry-size}
use Rattle.store_tables.proofs.dues.size_of_entry.Goals as goal

pub returns : goal.returns
returns c = rw (c.key_size.ensures.size, c.payload_size.ensures.size, c.as_str.ensures, c.as_str-2.ensures) (sym (entry-size c.args.key.now c.args.reminder.now))
