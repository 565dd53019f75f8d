use Rattle.placement_command.proofs.Kept.{at_moment, opened_runs, refused_runs}
use Rattle.placement_command.proofs.alone.run_alone.Goals as goal

pub returns-in-Ok-clause-ran : goal.returns-in-Ok-clause-ran
returns-in-Ok-clause-ran g c =
    let opens = c.in-Ok.ensures in
    at_moment c.args.words.now.server.is_new c.now_ms.result _ (g.H.Store.Disk.told c.args.disk) c.serve_alone.result _ _ c.now_ms.ensures.shows
    (opened_runs c.node_law.ensures.opens c.args.words.now.server.is_new c.now_ms.result (g.H.Store.Disk.told c.args.disk) c.in-Ok.node c.serve_alone.result _ _ opens.opened opens.crash opens.state.0.0 opens.state.2 c.serve_alone.ensures.ran)

pub returns-in-Err-clause-ran : goal.returns-in-Err-clause-ran
returns-in-Err-clause-ran g c =
    let refused = c.in-Err.ensures in
    at_moment c.args.words.now.server.is_new c.now_ms.result _ (g.H.Store.Disk.told c.args.disk) c.end_of.result _ _ c.now_ms.ensures.shows
    (refused_runs c.args.words.now.server.is_new c.now_ms.result (g.H.Store.Disk.told c.args.disk) (g.H.Store.Disk.told c.in-Err.disk) c.in-Err.error c.end_of.result _ _ c.end_of.ensures.is refused.refused.0 refused.refused.1 refused.crash_refused c.done_disk.ensures.takes)
