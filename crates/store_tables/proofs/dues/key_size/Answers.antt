use Rattle.std.proofs.Common.{sym}
use Rattle.store_tables.proofs.Sizes.{key-size}
use Rattle.store_tables.proofs.dues.key_size.Goals as goal

pub returns-clause-size : goal.returns-clause-size
returns-clause-size c = rw (c.as_slice.ensures.value, c.as_slice-2.ensures.value, c.as_slice-3.ensures.value, c.as_slice-4.ensures.value) (sym (key-size c.args.key.now))
