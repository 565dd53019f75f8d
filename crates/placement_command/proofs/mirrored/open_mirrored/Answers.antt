use Rattle.std.proofs.Common.{inl}
use Rattle.placement_command.proofs.Kept.{at_moment, opened_runs, refused_runs}
use Rattle.placement_command.proofs.Counts.{rises_cause}
use Rattle.placement_command.proofs.mirrored.open_mirrored.Goals as goal

pub returns-in-Ok-clause-ran : goal.returns-in-Ok-clause-ran
returns-in-Ok-clause-ran g c =
    let opens = c.in-Ok.ensures in
    at_moment c.args.words.now.server.is_new c.now_ms.result _ (g.H.Store.Disk.told c.args.mirror.disk) c.serve_mirrored.result _ _ c.now_ms.ensures.shows
    (opened_runs c.node_law.ensures.opens c.args.words.now.server.is_new c.now_ms.result (g.H.Store.Disk.told c.args.mirror.disk) c.in-Ok.node c.serve_mirrored.result _ _ opens.opened opens.crash opens.state.0.0 opens.state.2 c.serve_mirrored.ensures.ran)

pub returns-in-Err-clause-ran : goal.returns-in-Err-clause-ran
returns-in-Err-clause-ran g c =
    let refused = c.in-Err.ensures in
    at_moment c.args.words.now.server.is_new c.now_ms.result _ (g.H.Store.Disk.told c.args.mirror.disk) c.end_of.result _ _ c.now_ms.ensures.shows
    (refused_runs c.args.words.now.server.is_new c.now_ms.result (g.H.Store.Disk.told c.args.mirror.disk) (g.H.Store.Disk.told c.in-Err.mirror.disk) c.in-Err.error c.end_of.result _ _ c.end_of.ensures.is refused.refused.0 refused.refused.1 refused.crash_refused c.give_both.ensures.hands)

pub returns-in-Err-clause-disk_cause : goal.returns-in-Err-clause-disk_cause
returns-in-Err-clause-disk_cause g c is = c.give_both.ensures.cause (rises_cause _ _ (c.in-Err.ensures.cause (c.end_of.ensures.disk is)))

pub returns-in-Err-clause-link_back : goal.returns-in-Err-clause-link_back
returns-in-Err-clause-link_back g c = inl (c.in-Err.mirror.link, c.give_both.ensures.takes_back)
