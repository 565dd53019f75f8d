use Rattle.exchanges.specs.Replies.{place_at}
use Rattle.sidecar_start.specs.Booting.{boot_frame, BootCarries}
use Rattle.sidecar_start.proofs.Carryings.{boot_carries}
use Rattle.sidecar_start.proofs.Tries.{no_dial, failed_dial, one_link}
use Rattle.sidecar_start.proofs.booting.try_boot.Goals as goal

pub returns-in-Err-Failed : goal.returns-in-Err-Failed
returns-in-Err-Failed g c =
    let said = rw c.in-Err-Failed.field-0-is at c.in-Err-Failed.ensures.dials in
    let rose = rw c.in-Err-Failed.field-0-is at c.in-Err-Failed.ensures.cause in
    failed_dial g.L.Link.Source.read_traffic (BootCarries (boot_frame c.args.words.now)) (place_at c.args.words.now.store_at) _ _ _ _ said rose

pub returns-in-Err-OutOfMemory : goal.returns-in-Err-OutOfMemory
returns-in-Err-OutOfMemory g c =
    let said = rw c.in-Err-OutOfMemory.field-0-is at c.in-Err-OutOfMemory.ensures.dials in
    let rose = rw c.in-Err-OutOfMemory.field-0-is at c.in-Err-OutOfMemory.ensures.cause in
    no_dial g.L.Link.Source.read_traffic (BootCarries (boot_frame c.args.words.now)) (place_at c.args.words.now.store_at) _ _ _ _ said rose

pub returns : goal.returns
returns g c =
    let x = c.exchange_frame-read.ensures.exchanges in
    one_link g.L.Link.Source.read_traffic (BootCarries (boot_frame c.args.words.now)) (place_at c.args.words.now.store_at)
    _ _ _ c.in-Ok.link c.exchange_frame-read.new.conn x.0 c.boot_in.result _ _ _ _
    c.in-Ok.ensures.dials c.in-Ok.ensures.cause x.1
    (boot_carries c.frame_law.ensures.reads c.frame_law.ensures.no_prefix (boot_frame c.args.words.now) c.args.text.now x.0
    (g.L.Link.Source.read_traffic c.in-Ok.link) (g.L.Link.Source.read_traffic c.exchange_frame-read.new.conn) c.exchange_frame-read.result c.boot_in.result _ _ _ _ _
    c.requires x.2 c.boot_in.ensures c.exchange_frame-read.ensures.cause c.in-Ok.ensures.cause c.in-Ok.ensures.fresh c.done.ensures.cause)
    c.done.ensures.takes_back c.done.ensures.cause
