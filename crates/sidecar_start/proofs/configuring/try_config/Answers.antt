use Rattle.http_edge.specs.Texts.{request_text}
use Rattle.exchanges.specs.Replies.{place_at}
use Rattle.sidecar_start.specs.Configuring.{ConfigCarries}
use Rattle.sidecar_start.proofs.Carryings.{config_carries}
use Rattle.sidecar_start.proofs.Tries.{no_dial, failed_dial, one_link}
use Rattle.sidecar_start.proofs.configuring.try_config.Goals as goal

pub returns-in-Err-Failed-clause-tries : goal.returns-in-Err-Failed-clause-tries
returns-in-Err-Failed-clause-tries g c =
    let said = rw c.in-Err-Failed.field-0-is at c.in-Err-Failed.ensures.dials in
    let rose = rw c.in-Err-Failed.field-0-is at c.in-Err-Failed.ensures.cause in
    failed_dial g.L.Link.Source.read_traffic (ConfigCarries c.args.app.now) (place_at c.args.app.now) _ _ _ _ said rose

pub returns-in-Err-OutOfMemory-clause-tries : goal.returns-in-Err-OutOfMemory-clause-tries
returns-in-Err-OutOfMemory-clause-tries g c =
    let said = rw c.in-Err-OutOfMemory.field-0-is at c.in-Err-OutOfMemory.ensures.dials in
    let rose = rw c.in-Err-OutOfMemory.field-0-is at c.in-Err-OutOfMemory.ensures.cause in
    no_dial g.L.Link.Source.read_traffic (ConfigCarries c.args.app.now) (place_at c.args.app.now) _ _ _ _ said rose

pub returns-clause-tries : goal.returns-clause-tries
returns-clause-tries g c =
    let x = c.exchange-read.ensures.exchanges in
    one_link g.L.Link.Source.read_traffic (ConfigCarries c.args.app.now) (place_at c.args.app.now)
    _ _ _ c.in-Ok.link c.exchange-read.new.conn x.0 c.read_in.result _ _ _ _
    c.in-Ok.ensures.dials c.in-Ok.ensures.cause x.1
    (config_carries c.args.app.now (request_text c.args.request.now) x.0
    (g.L.Link.Source.read_traffic c.in-Ok.link) (g.L.Link.Source.read_traffic c.exchange-read.new.conn) c.exchange-read.result c.read_in.result _ _ _ _ _
    c.requires x.2 x.3 c.read_in.ensures.comes c.exchange-read.ensures.cause c.in-Ok.ensures.cause c.in-Ok.ensures.fresh c.done.ensures.cause)
    c.done.ensures.takes_back c.done.ensures.cause
