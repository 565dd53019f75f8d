use Rattle.std.proofs.Common.{subst}
use Rattle.store_payloads.specs.declared.payload.PayloadBody.{PayloadBody}
use Rattle.store_payloads.specs.declared.payload.PayloadBody.TheVariants.{Command, Row}
use Rattle.store_payloads.specs.declared.payload.StorePayload.{StorePayload}
use Rattle.store_payloads.specs.Fits.{PayloadFits}
use Rattle.store_payloads.proofs.Outcomes.{taken_fits}
use Rattle.store_payloads.proofs.fold.StoreFold.take.Goals as goal

pub returns-in-Command-clause-fits : goal.returns-in-Command-clause-fits
returns-in-Command-clause-fits c =
    let p : StorePayload = record { now = c.in-Ok.payload.now; body = Command c.in-Command.command } in
    let fits : PayloadFits p = subst (λ (b : PayloadBody). PayloadFits (record { now = c.in-Ok.payload.now; body = b })) c.in-Command.is c.in-Ok.ensures.fits in
    taken_fits c.act.result p c.args.self.now c.act.new.self fits c.act.ensures

pub returns-in-Row-clause-fits : goal.returns-in-Row-clause-fits
returns-in-Row-clause-fits c =
    let p : StorePayload = record { now = c.in-Ok.payload.now; body = Row c.in-Row.row } in
    let fits : PayloadFits p = subst (λ (b : PayloadBody). PayloadFits (record { now = c.in-Ok.payload.now; body = b })) c.in-Row.is c.in-Ok.ensures.fits in
    taken_fits c.set.result p c.args.self.now c.set.new.self fits c.set.ensures
