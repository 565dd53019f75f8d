use Rattle.std.proofs.Common.{◌<◌, length, get_or, arith}
use Rattle.std.proofs.lemmas.List.{get_or_default}
use Rattle.std.proofs.lemmas.List.Edits.{map_over_more}
use Rattle.plain_commands.specs.SetupTold.{timed}
use Rattle.plain_commands.proofs.setup.set_times.Goals as goal

pub loop-kind-preserved : goal.loop-kind-preserved
loop-kind-preserved c =
    let x = get_or c.loop-kind.kind-items c.loop-kind.kind-index c.kind-item.result in
    let within : c.loop-kind.kind-index < length c.loop-kind.kind-items = omega arith in
    map_over_more (timed c.args.idle_ms c.args.drain_ms) c.deref_mut-kind-items.result.now c.loop-kind.kind-items c.loop-kind.kind-index x (omega arith) c.loop-kind.invariant (get_or_default c.loop-kind.kind-items c.loop-kind.kind-index c.kind-item.result x within)
