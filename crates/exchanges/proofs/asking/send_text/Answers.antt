use Rattle.std.proofs.Common.{◌∙◌, Err}
use Rattle.exchanges.specs.Replies.{place_at}
use Rattle.exchanges.specs.declared.store_end.StoreEnd.TheVariants.{Fault, OutOfMemory}
use Rattle.exchanges.specs.Asked.{FrameCarries}
use Rattle.exchanges.proofs.Answering.{asked_carries, asked_rises}
use Rattle.exchanges.proofs.Dialled.{no_dial, failed_dial, one_exchange}
use Rattle.exchanges.proofs.asking.send_text.Goals as goal

pub returns-in-Err-Failed : goal.returns-in-Err-Failed
returns-in-Err-Failed g c =
    let said = rw c.in-Err-Failed.field-0-is at c.in-Err-Failed.ensures.dials in
    let rose = rw c.in-Err-Failed.field-0-is at c.in-Err-Failed.ensures.cause in
    failed_dial g.L.Link.Source.read_traffic (Err Fault) (Err OutOfMemory) (FrameCarries c.args.asked.now) (place_at c.args.at.now) _ _ _ _ said rose

pub returns-in-Err-OutOfMemory : goal.returns-in-Err-OutOfMemory
returns-in-Err-OutOfMemory g c =
    let said = rw c.in-Err-OutOfMemory.field-0-is at c.in-Err-OutOfMemory.ensures.dials in
    let rose = rw c.in-Err-OutOfMemory.field-0-is at c.in-Err-OutOfMemory.ensures.cause in
    no_dial g.L.Link.Source.read_traffic (Err Fault) (Err OutOfMemory) (FrameCarries c.args.asked.now) (place_at c.args.at.now) _ _ _ _ said rose

pub returns : goal.returns
returns g c =
    let x = c.exchange_frame-got.ensures.exchanges in
    one_exchange g.L.Link.Source.read_traffic (Err Fault) (Err OutOfMemory) (FrameCarries c.args.asked.now) (place_at c.args.at.now)
    _ _ _ c.in-Ok.link c.exchange_frame-got.new.conn x.0 c.answer_in.result _ _ _ _ _
    c.in-Ok.ensures.dials c.in-Ok.ensures.cause c.in-Ok.ensures.fresh x.1
    (asked_carries c.frame_law.ensures.reads c.frame_law.ensures.no_prefix c.args.asked.now c.as_slice.result.now x.0 (g.L.Link.Source.read_traffic c.in-Ok.link) (g.L.Link.Source.read_traffic c.exchange_frame-got.new.conn) c.exchange_frame-got.result c.answer_in.result
    (c.as_slice.ensures.value ∙ c.requires) c.answer_in.ensures x.2)
    (asked_rises c.args.asked.now c.exchange_frame-got.result _ _ c.answer_in.result c.answer_in.ensures c.exchange_frame-got.ensures.cause)
    c.give_back.ensures.takes_back c.give_back.ensures.cause
