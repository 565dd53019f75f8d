use Rattle.std.proofs.Common.{◌∙◌, ap, Option}
use Rattle.part_model.specs.declared.ack.Ack.{Ack}
use Rattle.placement_beats.specs.Beats.{frame_of}
use Rattle.placement_beats.proofs.Turns.{no_exchange, exchange_frame_of}
use Rattle.placement_beats.proofs.heartbeat.send_beat.Goals as goal

pub returns-in-Err-clause-exchanges : goal.returns-in-Err-clause-exchanges
returns-in-Err-clause-exchanges g c = no_exchange _ _

pub returns-in-Ok-clause-exchanges : goal.returns-in-Ok-clause-exchanges
returns-in-Ok-clause-exchanges g c =
    exchange_frame_of _ c.in-Ok.frame _ _ _ (c.in-Ok.ensures.frame ∙ ap (λ (a : Option Ack). frame_of c.args.host.now a c.args.answer) c.new_ack-ack.ensures.ack) c.send_frame-got.ensures.exchanges
