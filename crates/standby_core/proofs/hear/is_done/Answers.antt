use Rattle.std.proofs.lemmas.Slice.Eq.{bytes_eq-Decides}
use Rattle.standby_core.proofs.Told.{done_decides}
use Rattle.standby_core.proofs.hear.is_done.Goals as goal

pub returns : goal.returns
returns c = done_decides c.args.bytes.now c.as_slice.result.now c.as_slice.ensures (bytes_eq-Decides _ _) c.eq.result c.eq.ensures
