use Rattle.std.proofs.Common.{Ok, Err, refl}
use Rattle.exchanges.specs.Replies.{place_at}
use Rattle.sidecar_start.proofs.Starts.{by_config, shallow_in, config_few}
use Rattle.sidecar_start.proofs.starting.start_with.Goals as goal

pub returns-in-Err-clause-asks : goal.returns-in-Err-clause-asks
returns-in-Err-clause-asks g c = let d = c.in-Err.ensures.asks in (Err c.in-Err.end, d.0, d.1, refl, d.2)

pub make_started-requires-clause-few : goal.make_started-requires-clause-few
make_started-requires-clause-few g c = let d = c.in-Ok.ensures.asks in config_few c.args.words.now.app_at (place_at c.args.words.now.app_at) d.0 c.in-Ok.config d.1

pub returns-in-Ok-clause-asks : goal.returns-in-Ok-clause-asks
returns-in-Ok-clause-asks g c =
    let d = c.in-Ok.ensures.asks in
    (Ok c.in-Ok.config, d.0, d.1, by_config c.args.words.now c.args.drawn c.in-Ok.config c.make_started.result c.make_started.ensures.started c.make_started.ensures.memory, d.2)

pub returns-in-Ok-clause-shallow : goal.returns-in-Ok-clause-shallow
returns-in-Ok-clause-shallow g c =
    shallow_in c.args.words.now c.args.drawn c.in-Ok.config c.make_started.result c.make_started.ensures.started c.in-Ok.ensures.shallow
