use Rattle.std.proofs.Common.{ap, sym, ◌∙◌}
use Rattle.store_tables.specs.Tables.{told_in}
use Rattle.store_tables.specs.Contents.{Timed, outcome_of}
use Rattle.store_core.specs.Store.{StoreState}
use Rattle.store_core.proofs.Steps.{told_fits, moves-broken, moves-told, moves-ran-out}
use Rattle.store_core.proofs.store.Store.command.Goals as goal

pub returns-then-is_broken-clause-moves : goal.returns-then-is_broken-clause-moves
returns-then-is_broken-clause-moves g c =
    moves-broken c.args.self.now (record { now = c.args.now; command = c.args.command }) c.reopen.result (ap (λ (s : StoreState). s.journal.is_broken) (sym c.self.view_is) ∙ sym c.is_broken.ensures ∙ c.if-is_broken.true) c.reopen.ensures.is

pub accept-requires-clause-works : goal.accept-requires-clause-works
accept-requires-clause-works g c = ap (λ (s : StoreState). s.journal.is_broken) (sym c.self.view_is) ∙ sym c.is_broken.ensures ∙ c.if-is_broken.false

pub accept-requires-clause-accepted : goal.accept-requires-clause-accepted
accept-requires-clause-accepted g c =
    ap (λ (s : StoreState). told_in (outcome_of s.contents (record { now = c.args.now; command = c.args.command }))) (sym c.self.view_is) ∙ sym c.in-Ok-None.ensures.answer ∙ c.in-Ok-None.field-0-is

pub returns-in-Ok-Some-clause-moves : goal.returns-in-Ok-Some-clause-moves
returns-in-Ok-Some-clause-moves g c =
    rw (← c.self.view_is) (moves-told c.self.inside.tables.tables c.self.inside.journal c.self.invariant.current (sym c.is_broken.ensures ∙ c.if-is_broken.false) (record { now = c.args.now; command = c.args.command }) c.in-Ok-Some.answer
    (sym c.in-Ok-Some.ensures.answer ∙ c.in-Ok-Some.field-0-is))

pub returns-in-Ok-Some-clause-fits : goal.returns-in-Ok-Some-clause-fits
returns-in-Ok-Some-clause-fits g c =
    let timed : Timed = record { now = c.args.now; command = c.args.command } in
    told_fits (outcome_of c.self.inside.tables.tables timed) c.in-Ok-Some.answer (sym c.in-Ok-Some.ensures.answer ∙ c.in-Ok-Some.field-0-is)
    (c.payload_law.ensures.answers c.self.inside.tables.tables timed c.requires c.self.invariant.fits c.order_law.ensures.timely)

pub returns-in-Err-clause-moves : goal.returns-in-Err-clause-moves
returns-in-Err-clause-moves g c =
    rw (← c.self.view_is, c.out_of_memory.ensures.is) (moves-ran-out c.self.inside.tables.tables c.self.inside.journal c.self.invariant.current (sym c.is_broken.ensures ∙ c.if-is_broken.false) (record { now = c.args.now; command = c.args.command }) c.in-Err.ensures.memory)
