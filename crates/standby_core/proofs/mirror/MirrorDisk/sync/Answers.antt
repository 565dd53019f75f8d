use Rattle.standby_core.proofs.Mirrored.{sync_mirrored, one_lost}
use Rattle.standby_core.proofs.mirror.MirrorDisk.sync.Goals as goal

pub returns-in-Ok-clause-copies : goal.returns-in-Ok-clause-copies
returns-in-Ok-clause-copies g c =
    sync_mirrored g.D.Disk.told g.L.Source.read_traffic _ c.args.self.now (g.D.Disk.told c.sync.new.self) (g.L.Source.read_traffic c.tell_sync.new.self.link) c.tell_sync.new.self.unheard c.tell_sync.result c.self.view_is c.in-Ok.ensures.synced c.tell_sync.ensures.asks

pub invariant_of-self-in-Ok : goal.invariant_of-self-in-Ok
invariant_of-self-in-Ok g c =
    one_lost g.L.Source.read_traffic c.self.inside.replica.link c.tell_sync.new.self.link c.self.inside.replica.unheard c.tell_sync.new.self.unheard _ c.tell_sync.result c.self.invariant c.tell_sync.ensures.asks
