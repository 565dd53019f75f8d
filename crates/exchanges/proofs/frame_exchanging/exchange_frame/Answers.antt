use Rattle.exchanges.proofs.Readings.{not_sent, exchanged}
use Rattle.exchanges.proofs.frame_exchanging.exchange_frame.Goals as goal

pub returns-in-Err-clause-exchanges : goal.returns-in-Err-clause-exchanges
returns-in-Err-clause-exchanges g c = not_sent _ _ c.args.text.now c.in-Err.error c.end_of.result c.end_of.ensures c.in-Err.ensures.writes

pub returns-in-Ok-clause-exchanges : goal.returns-in-Ok-clause-exchanges
returns-in-Ok-clause-exchanges g c =
    let r = c.read_frame.ensures.reads in
    exchanged _ _ _ c.args.text.now r.0 c.read_frame.result c.in-Ok.ensures.writes r.1 r.2
