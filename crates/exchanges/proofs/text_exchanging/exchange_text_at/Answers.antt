use Rattle.exchanges.specs.Replies.{place_at}
use Rattle.exchanges.proofs.Diallings.{no_dial, failed_dial, one_exchange}
use Rattle.exchanges.proofs.text_exchanging.exchange_text_at.Goals as goal

pub returns-in-Err-Failed : goal.returns-in-Err-Failed
returns-in-Err-Failed g c =
    let said = rw c.in-Err-Failed.field-0-is at c.in-Err-Failed.ensures.dials in
    let rose = rw c.in-Err-Failed.field-0-is at c.in-Err-Failed.ensures.cause in
    failed_dial g.L.Link.Source.read_traffic c.args.text.now _ _ (place_at c.args.at.now) _ _ said rose

pub returns-in-Err-OutOfMemory : goal.returns-in-Err-OutOfMemory
returns-in-Err-OutOfMemory g c =
    let said = rw c.in-Err-OutOfMemory.field-0-is at c.in-Err-OutOfMemory.ensures.dials in
    let rose = rw c.in-Err-OutOfMemory.field-0-is at c.in-Err-OutOfMemory.ensures.cause in
    no_dial g.L.Link.Source.read_traffic c.args.text.now _ _ (place_at c.args.at.now) _ _ said rose

pub returns : goal.returns
returns g c =
    one_exchange g.L.Link.Source.read_traffic c.args.text.now _ _ _ c.in-Ok.link c.exchange_text-got.new.conn (place_at c.args.at.now) c.exchange_text-got.result _ _ _ _ _
    c.in-Ok.ensures.dials c.in-Ok.ensures.cause c.in-Ok.ensures.fresh c.exchange_text-got.ensures.exchanges c.exchange_text-got.ensures.cause c.done.ensures.takes_back c.done.ensures.cause
