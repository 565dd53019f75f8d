use Rattle.placement_beats.proofs.Turns.{no_exchange, exchange_text}
use Rattle.placement_beats.proofs.heartbeat.send_frame.Goals as goal

pub returns-in-Err-clause-exchanges : goal.returns-in-Err-clause-exchanges
returns-in-Err-clause-exchanges g c = no_exchange _ _

pub returns-in-Ok-clause-exchanges : goal.returns-in-Ok-clause-exchanges
returns-in-Ok-clause-exchanges g c = exchange_text c.args.frame.now c.in-Ok.text.items c.as_slice.result.now _ _ _ c.as_slice.ensures.value c.in-Ok.ensures c.exchange_frame.ensures.exchanges
