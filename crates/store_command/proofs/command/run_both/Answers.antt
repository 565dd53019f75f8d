use Rattle.store_command.proofs.Kept.{opened_pair, opened_stands, refused_pair}
use Rattle.store_command.proofs.command.run_both.Goals as goal

pub serve_opened-requires-clause-stands : goal.serve_opened-requires-clause-stands
serve_opened-requires-clause-stands g c κs within = opened_stands c.args.words.now.is_new _ c.in-Ok.store c.in-Ok.ensures.opened c.in-Ok.ensures.state.0.0

pub returns-in-Ok-clause-ran : goal.returns-in-Ok-clause-ran
returns-in-Ok-clause-ran g c =
    let opens = c.in-Ok.ensures in
    opened_pair c.args.words.now.is_new _ _ c.in-Ok.store c.serve_opened.result _ _ opens.opened opens.crash opens.state.0.0 c.serve_opened.ensures.ran

pub returns-in-Err-clause-ran : goal.returns-in-Err-clause-ran
returns-in-Err-clause-ran g c =
    let refused = c.in-Err.ensures in
    refused_pair c.args.words.now.is_new (g.H.Store.Disk.told c.args.first) (g.H.Store.Disk.told c.args.second) _ _ c.in-Err.error c.end_of.result _ _ c.end_of.ensures.is refused.refused.0 refused.refused.1 refused.crash_refused c.give_both.ensures.hands
