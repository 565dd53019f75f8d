use Rattle.std.proofs.Common.{sym}
use Rattle.store_tables.proofs.Sizes.{blob-size}
use Rattle.store_tables.proofs.dues.payload_size.Goals as goal

pub returns-in-Some-clause-size : goal.returns-in-Some-clause-size
returns-in-Some-clause-size c = rw (c.in-Some.is, c.as_slice.ensures) (sym (blob-size c.in-Some.payload))
