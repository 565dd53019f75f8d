use Rattle.exchanges.specs.Replies.{place_at}
use Rattle.sidecar_start.specs.Configuring.{ConfigCarries}
use Rattle.sidecar_start.proofs.Tries.{none_tried}
use Rattle.sidecar_start.proofs.configuring.ask_config.Goals as goal

pub returns-in-Err-clause-asks : goal.returns-in-Err-clause-asks
returns-in-Err-clause-asks g c = none_tried (ConfigCarries c.args.app.now) (place_at c.args.app.now) _ _
