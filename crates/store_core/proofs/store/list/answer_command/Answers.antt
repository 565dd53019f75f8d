use Rattle.std.proofs.Common.{◌≡◌, ℕ, false, List, None, Some, sym, ◌∙◌, ap, subst}
use Rattle.frame_wire.specs.declared.store_answer.StoreAnswer.{StoreAnswer}
use Rattle.frame_wire.specs.declared.store_answer.StoreAnswer.TheVariants.{Refused}
use Rattle.store_tables.specs.Tables.{Tables, Accepted}
use Rattle.store_tables.specs.Contents.{Timed, outcome_of}
use Rattle.store_tables.specs.Prepared.{prepared_outcome}
use Rattle.store_payloads.specs.Payloads.{command_payload}
use Rattle.store_core.specs.declared.store.list.Foreseen.TheVariants.{Told}
use Rattle.store_core.specs.Listings.{IsForeseen, Stages, AnswersCommand}
use Rattle.store_core.proofs.Steps.{accepted_is, answer_fits}
use Rattle.store_core.proofs.Ahead.{ready_is}
use Rattle.store_core.proofs.Answering.{command_told, command_joined, command_left_out}
use Rattle.store_core.proofs.store.list.answer_command.Goals as goal

pub returns-in-Told-clause-answers : goal.returns-in-Told-clause-answers
returns-in-Told-clause-answers g c =
    let timed : Timed = record { now = c.args.now; command = c.args.command } in
    let foreseen = subst (λ b. IsForeseen b timed c.args.tables.now.tables (Told c.in-Told.answer) c.foresee.new.tables) c.is_broken.ensures c.in-Told.ensures.foreseen in
    subst (λ (t : Tables). AnswersCommand g.G.Guard.rules timed c.in-Told.answer c.args.list.now.answers.items c.args.journal.now c.args.tables.now.tables c.args.list.now.batch c.args.list.now.first c.args.list.now.answers.items c.args.journal.now t c.args.list.now.batch c.args.list.now.first) (sym c.foresee.ensures.tables)
    (command_told g.G.Guard.rules timed c.in-Told.answer c.args.list.now.answers.items c.args.journal.now c.args.tables.now.tables c.args.list.now.batch c.args.list.now.first c.foresee.new.tables foreseen)

pub returns-in-None-clause-answers : goal.returns-in-None-clause-answers
returns-in-None-clause-answers g c =
    let timed : Timed = record { now = c.args.now; command = c.args.command } in
    let t : Tables = c.args.tables.now.tables in
    let ready = ready_is c.is_broken.result timed t c.in-Ready.payload c.in-Ready.prepared c.foresee.new.tables c.in-Ready.ensures.foreseen in
    let works : c.args.journal.now.is_broken ≡ false = sym c.is_broken.ensures ∙ ready.0 in
    let o : outcome_of t timed ≡ Accepted c.apply.result c.apply.new.self.tables =
    sym (ready.1.2 t) ∙ ap (λ (u : Tables). prepared_outcome c.in-Ready.prepared u) (sym c.foresee.ensures.tables) ∙ c.apply.ensures in
    let payload : c.as_slice.result.now ≡ command_payload timed = c.as_slice.ensures.value ∙ ready.1.1 in
    let stages = subst (λ (p : List ℕ). Stages g.G.Guard.rules p None t c.args.list.now.answers.items c.args.journal.now c.args.list.now.batch c.args.list.now.first c.stage.new.list.answers.items c.stage.new.journal c.stage.new.list.batch c.stage.new.list.first) payload (c.in-None.ensures.stages t) in
    command_joined g.G.Guard.rules timed c.apply.result c.apply.new.self.tables t c.args.list.now.answers.items c.stage.new.list.answers.items c.args.journal.now c.stage.new.journal c.args.list.now.batch c.stage.new.list.batch c.args.list.now.first c.stage.new.list.first works o
    c.requires.may (c.payload_law.ensures.fits t timed c.apply.result c.apply.new.self.tables c.requires.may o c.requires.fits) stages

pub returns-in-None-clause-fits : goal.returns-in-None-clause-fits
returns-in-None-clause-fits g c =
    let timed : Timed = record { now = c.args.now; command = c.args.command } in
    let t : Tables = c.args.tables.now.tables in
    let ready = ready_is c.is_broken.result timed t c.in-Ready.payload c.in-Ready.prepared c.foresee.new.tables c.in-Ready.ensures.foreseen in
    let o : outcome_of t timed ≡ Accepted c.apply.result c.apply.new.self.tables =
    sym (ready.1.2 t) ∙ ap (λ (u : Tables). prepared_outcome c.in-Ready.prepared u) (sym c.foresee.ensures.tables) ∙ c.apply.ensures in
    answer_fits (outcome_of t timed) c.apply.result c.apply.new.self.tables o (c.payload_law.ensures.answers t timed c.requires.may c.requires.fits c.order_law.ensures.timely)

pub returns-in-None-clause-tables : goal.returns-in-None-clause-tables
returns-in-None-clause-tables g c =
    let timed : Timed = record { now = c.args.now; command = c.args.command } in
    let t : Tables = c.args.tables.now.tables in
    let ready = ready_is c.is_broken.result timed t c.in-Ready.payload c.in-Ready.prepared c.foresee.new.tables c.in-Ready.ensures.foreseen in
    let o : outcome_of t timed ≡ Accepted c.apply.result c.apply.new.self.tables =
    sym (ready.1.2 t) ∙ ap (λ (u : Tables). prepared_outcome c.in-Ready.prepared u) (sym c.foresee.ensures.tables) ∙ c.apply.ensures in
    c.payload_law.ensures.fits t timed c.apply.result c.apply.new.self.tables c.requires.may o c.requires.fits

pub returns-clause-answers : goal.returns-clause-answers
returns-clause-answers g c =
    let timed : Timed = record { now = c.args.now; command = c.args.command } in
    let t : Tables = c.args.tables.now.tables in
    let ready = ready_is c.is_broken.result timed t c.in-Ready.payload c.in-Ready.prepared c.foresee.new.tables c.in-Ready.ensures.foreseen in
    let works : c.args.journal.now.is_broken ≡ false = sym c.is_broken.ensures ∙ ready.0 in
    let o = accepted_is (outcome_of t timed) ready.1.0 in
    let payload : c.as_slice.result.now ≡ command_payload timed = c.as_slice.ensures.value ∙ ready.1.1 in
    let stages = subst (λ (p : List ℕ). Stages g.G.Guard.rules p (Some c.in-Some.refusal) t c.args.list.now.answers.items c.args.journal.now c.args.list.now.batch c.args.list.now.first c.stage.new.list.answers.items c.stage.new.journal c.stage.new.list.batch c.stage.new.list.first) payload (c.in-Some.ensures.stages t) in
    let answers = command_left_out g.G.Guard.rules timed o.0 o.1 t c.args.list.now.answers.items c.stage.new.list.answers.items c.args.journal.now c.stage.new.journal c.args.list.now.batch c.stage.new.list.batch c.args.list.now.first c.stage.new.list.first works o.2 c.in-Some.refusal g.met.G.Guard.reopens stages in
    subst (λ (answer : StoreAnswer). AnswersCommand g.G.Guard.rules timed answer c.args.list.now.answers.items c.args.journal.now t c.args.list.now.batch c.args.list.now.first c.stage.new.list.answers.items c.stage.new.journal c.foresee.new.tables.tables c.stage.new.list.batch c.stage.new.list.first) (sym c.refused.ensures.is)
    (subst (λ (u : Tables). AnswersCommand g.G.Guard.rules timed (Refused c.in-Some.refusal) c.args.list.now.answers.items c.args.journal.now t c.args.list.now.batch c.args.list.now.first c.stage.new.list.answers.items c.stage.new.journal u c.stage.new.list.batch c.stage.new.list.first) (sym c.foresee.ensures.tables) answers)
