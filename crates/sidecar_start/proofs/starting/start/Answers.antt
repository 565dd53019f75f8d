use Rattle.exchanges.specs.Replies.{place_at}
use Rattle.sidecar_start.specs.Booting.{boot_frame}
use Rattle.sidecar_start.proofs.Starts.{without_boot, with_boot, start_fault, drawn_fits}
use Rattle.sidecar_start.proofs.starting.start.Goals as goal

pub returns-in-Err-clause-starts : goal.returns-in-Err-clause-starts
returns-in-Err-clause-starts g c = without_boot c.args.words.now c.in-Err.end _ _ _ _ c.in-Err.ensures.draws

pub returns-in-Err-clause-fault : goal.returns-in-Err-clause-fault
returns-in-Err-clause-fault g c = λ e. start_fault c.args.words.now _ _ _ _ _ (without_boot c.args.words.now c.in-Err.end _ _ _ _ c.in-Err.ensures.draws) e

pub start_with-requires-after_bounds : goal.start_with-requires-after_bounds
start_with-requires-after_bounds g c κs within =
    let d = c.in-Ok.ensures.draws in
    drawn_fits (boot_frame c.args.words.now) (place_at c.args.words.now.store_at) d.0 c.in-Ok.drawn d.1

pub returns-in-Ok-clause-starts : goal.returns-in-Ok-clause-starts
returns-in-Ok-clause-starts g c =
    let a = c.start_with.ensures.asks in
    with_boot c.args.words.now c.in-Ok.drawn a.0 c.start_with.result _ _ _ _ _ _ c.in-Ok.ensures.draws (a.1, a.2, a.4) a.3

pub returns-in-Ok-clause-fault : goal.returns-in-Ok-clause-fault
returns-in-Ok-clause-fault g c =
    let a = c.start_with.ensures.asks in
    λ e. start_fault c.args.words.now _ _ _ _ _ (with_boot c.args.words.now c.in-Ok.drawn a.0 c.start_with.result _ _ _ _ _ _ c.in-Ok.ensures.draws (a.1, a.2, a.4) a.3) e
