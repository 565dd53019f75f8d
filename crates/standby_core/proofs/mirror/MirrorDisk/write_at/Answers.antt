use Rattle.standby_core.specs.Mirrors.{IsWrite, BeginsWrite}
use Rattle.standby_core.proofs.Mirrored.{wrote_mirrored, write_lost}
use Rattle.standby_core.proofs.mirror.MirrorDisk.write_at.Goals as goal

pub returns-in-Ok-clause-written : goal.returns-in-Ok-clause-written
returns-in-Ok-clause-written g c =
    wrote_mirrored g.D.Disk.told g.L.Source.read_traffic _ c.args.self.now (g.D.Disk.told c.write_at.new.self) (g.L.Source.read_traffic c.tell_write.new.self.link) c.tell_write.new.self.unheard c.tell_write.result c.self.view_is c.args.at c.args.bytes.now c.requires c.in-Ok.ensures.written c.tell_write.ensures.asks

pub invariant_of-self-in-Ok : goal.invariant_of-self-in-Ok
invariant_of-self-in-Ok g c =
    write_lost g.L.Source.read_traffic c.self.inside.replica.link c.tell_write.new.self.link c.self.inside.replica.unheard c.tell_write.new.self.unheard (IsWrite c.args.at c.args.bytes.now) (BeginsWrite c.args.at c.args.bytes.now) c.tell_write.result c.self.invariant c.tell_write.ensures.asks
