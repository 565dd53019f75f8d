use Rattle.standby_core.proofs.Mirrored.{cut_mirrored, one_lost}
use Rattle.standby_core.proofs.mirror.MirrorDisk.cut.Goals as goal

pub returns-in-Ok-clause-copies : goal.returns-in-Ok-clause-copies
returns-in-Ok-clause-copies g c =
    cut_mirrored g.D.Disk.told g.L.Source.read_traffic _ c.args.self.now (g.D.Disk.told c.cut.new.self) (g.L.Source.read_traffic c.tell_cut.new.self.link) c.tell_cut.new.self.unheard c.tell_cut.result c.self.view_is c.args.len c.in-Ok.ensures.cut c.tell_cut.ensures.asks

pub invariant_of-self-in-Ok : goal.invariant_of-self-in-Ok
invariant_of-self-in-Ok g c =
    one_lost g.L.Source.read_traffic c.self.inside.replica.link c.tell_cut.new.self.link c.self.inside.replica.unheard c.tell_cut.new.self.unheard _ c.tell_cut.result c.self.invariant c.tell_cut.ensures.asks
