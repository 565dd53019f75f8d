use Rattle.placement_command.proofs.Counts.{mirror_cause}
use Rattle.placement_command.proofs.mirrored.give_both.Goals as goal

pub returns-clause-cause : goal.returns-clause-cause
returns-clause-cause g c some =
    mirror_cause g.N.Link.Source.read_traffic _ _ _ _ (g.H.Store.Disk.disk_faults c.args.mirror.disk) (g.N.Link.Source.read_faults c.args.mirror.link) c.args.mirror.unheard
    (rw c.detach-disk.ensures.disk at c.done_disk.ensures.cause) (rw c.detach-disk.ensures.link at c.done.ensures.cause) c.detach-disk.ensures.lost some
