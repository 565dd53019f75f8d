use Rattle.std.proofs.Common.{◌∙◌, ap}
use Rattle.place_table.specs.Tables.{is_known}
use Rattle.place_table.proofs.RingBuilds.{known_pushed}
use Rattle.place_table.proofs.build.add_ring.Goals as goal

pub returns-clause-known : goal.returns-clause-known
returns-clause-known c = ap (is_known c.args.kind.now) c.in_ok-push.ensures.items ∙ known_pushed c.args.kind.now c.args.rings.now.items _ c.in_ok-copy.ensures
