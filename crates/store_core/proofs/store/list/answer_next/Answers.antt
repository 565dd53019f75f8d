use Rattle.std.proofs.Common.{◌≡◌, List, [], ◌∷◌, ◌++◌, refl, sym, ◌∙◌, ap, subst}
use Rattle.std.specs.List.{AllByRecursion}
use Rattle.lists_and_limits.proofs.Each.{each_append}
use Rattle.store_payloads.specs.Laws.{MayCome}
use Rattle.store_core.specs.Store.{StoreState}
use Rattle.store_core.specs.Listings.{AnswersNext}
use Rattle.store_core.proofs.Answering.{next_told}
use Rattle.store_core.proofs.store.list.answer_next.Goals as goal

pub returns-in-Answer-clause-answers : goal.returns-in-Answer-clause-answers
returns-in-Answer-clause-answers g c =
    subst (λ l. AnswersNext g.G.Guard.rules c.args.asked c.args.list.now.answers.items c.args.journal.now c.args.tables.now.tables c.args.list.now.batch c.args.list.now.first l c.args.journal.now c.args.tables.now.tables c.args.list.now.batch c.args.list.now.first) (sym c.push_reserved.ensures.items)
    (next_told g.G.Guard.rules g.G.Guard.fits c.args.asked c.in-Answer.answer c.args.list.now.answers.items c.args.journal.now c.args.tables.now.tables c.args.list.now.batch c.args.list.now.first
    (λ s same works. c.in-Answer.ensures.decides s same (works ∙ sym c.is_broken.ensures)))

pub returns-in-Answer-clause-fits : goal.returns-in-Answer-clause-fits
returns-in-Answer-clause-fits g c =
    let here : StoreState = record { contents = c.args.tables.now.tables; journal = c.args.journal.now } in
    let decides = c.in-Answer.ensures.decides here refl (sym c.is_broken.ensures) in
    λ all. subst (λ l. AllByRecursion g.G.Guard.fits l) (sym c.push_reserved.ensures.items) (each_append g.G.Guard.fits c.args.list.now.answers.items (c.in-Answer.answer ∷ []) all (decides.0, tt))

pub answer_command-given-requires-clause-may : goal.answer_command-given-requires-clause-may
answer_command-given-requires-clause-may g c =
    let here : StoreState = record { contents = c.args.tables.now.tables; journal = c.args.journal.now } in
    let decides = c.in-Pass.ensures.decides here refl (sym c.is_broken.ensures) in
    subst MayCome decides.1 decides.2

pub returns-in-Pass-clause-answers : goal.returns-in-Pass-clause-answers
returns-in-Pass-clause-answers g c =
    let here : StoreState = record { contents = c.args.tables.now.tables; journal = c.args.journal.now } in
    let decides = c.in-Pass.ensures.decides here refl (sym c.is_broken.ensures) in
    let answers = c.answer_command-given.ensures.answers c.args.asked decides.1 (λ s same works. (c.in-Pass.ensures.decides s same (works ∙ sym c.is_broken.ensures)).0) in
    subst (λ l. AnswersNext g.G.Guard.rules c.args.asked c.args.list.now.answers.items c.args.journal.now c.args.tables.now.tables c.args.list.now.batch c.args.list.now.first l c.answer_command-given.new.journal c.answer_command-given.new.tables.tables c.answer_command-given.new.list.batch c.answer_command-given.new.list.first)
    (ap (λ b. c.answer_command-given.new.list.answers.items ++ b ∷ []) (sym c.told.ensures.is) ∙ sym c.push_reserved-in-Pass.ensures.items) answers

pub returns-in-Pass-clause-fits : goal.returns-in-Pass-clause-fits
returns-in-Pass-clause-fits g c =
    λ all. subst (λ l. AllByRecursion g.G.Guard.fits l) (sym c.push_reserved-in-Pass.ensures.items)
    (each_append g.G.Guard.fits c.answer_command-given.new.list.answers.items (c.told.result ∷ []) (c.answer_command-given.ensures.others all) (c.told.ensures.fits c.answer_command-given.ensures.fits, tt))
