use Rattle.std.proofs.Common.{sym, ◌∙◌}
use Rattle.store_tables.specs.Contents.{Timed, outcome_of}
use Rattle.store_core.proofs.Steps.{told_fits}
use Rattle.store_core.proofs.store.list.foresee.Goals as goal

pub returns-in-Ok-Some-clause-fits : goal.returns-in-Ok-Some-clause-fits
returns-in-Ok-Some-clause-fits c =
    let timed : Timed = record { now = c.args.now; command = c.args.command } in
    told_fits (outcome_of c.args.tables.now.tables timed) c.in-Ok-Some.answer (sym c.in-Ok-Some.ensures.answer ∙ c.in-Ok-Some.field-0-is)
    (c.payload_law.ensures.answers c.args.tables.now.tables timed c.requires.may c.requires.fits c.order_law.ensures.timely)
