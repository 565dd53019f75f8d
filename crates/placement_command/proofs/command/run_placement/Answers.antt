use Rattle.std.proofs.Common.{Some, None, sym, subst}
use Rattle.placement_command.proofs.Kept.{opened_disk}
use Rattle.placement_command.proofs.command.run_placement.Goals as goal

pub returns-in-None-clause-ran : goal.returns-in-None-clause-ran
returns-in-None-clause-ran g c =
    let words = c.args.words.now in
    rw c.in-None.is (opened_disk None words.server.journal.now words.server.is_new _ (g.H.Store.Disk.told c.in-Ok.disk) c.run_alone.result _ _ _ c.in-Ok.ensures.gives c.run_alone.ensures.ran)

pub returns-in-Some-clause-ran : goal.returns-in-Some-clause-ran
returns-in-Some-clause-ran g c =
    let words = c.args.words.now in
    rw c.in-Some.is (opened_disk (Some c.in-Some.at) words.server.journal.now words.server.is_new _ (g.H.Store.Disk.told c.in-Ok.disk) c.run_mirrored.result _ _ _ c.in-Ok.ensures.gives c.run_mirrored.ensures.ran)
