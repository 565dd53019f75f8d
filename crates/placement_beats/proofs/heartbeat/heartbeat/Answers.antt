use Rattle.placement_beats.proofs.Turns.{no_exchange, exchange_answer, sent_answer}
use Rattle.placement_beats.proofs.heartbeat.heartbeat.Goals as goal

pub returns-in-Err-clause-exchanges : goal.returns-in-Err-clause-exchanges
returns-in-Err-clause-exchanges g c = no_exchange _ _

pub returns-in-Ok-clause-exchanges : goal.returns-in-Ok-clause-exchanges
returns-in-Ok-clause-exchanges g c = exchange_answer c.args.host.now c.args.acked c.in-Ok.answer _ _ _ _ c.in-Ok.ensures.answer c.send_beat.ensures.exchanges

pub returns-in-Ok-clause-ack : goal.returns-in-Ok-clause-ack
returns-in-Ok-clause-ack g c = sent_answer c.args.acked c.in-Ok.answer _ _ _ c.in-Ok.ensures.answer c.send_beat.ensures.ack
