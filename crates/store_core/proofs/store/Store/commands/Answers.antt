use Rattle.std.proofs.Common.{◌≡◌, [], ◌∙◌, subst}
use Rattle.store_core.specs.Store.{StoreState}
use Rattle.store_core.specs.Lists.{AnswersAll}
use Rattle.store_core.proofs.Answering.{list_answers, list_whole}
use Rattle.store_core.proofs.store.Store.commands.Goals as goal

pub invariant_of-self : goal.invariant_of-self
invariant_of-self g c =
    let s : StoreState = record { contents = c.self.inside.tables.tables; journal = c.self.inside.journal } in
    let none : c.replace.result.items ≡ [] = rw c.replace.ensures.value c.requires.room.0 in
    list_whole g.G.Guard.rules s c.self.invariant c.args.asked.now.items c.replace.result.items c.answer_each.new.list.answers.items c.put.new.list.answers.items c.answer_each.new.journal c.put.new.journal c.answer_each.new.tables.tables
    c.clear.new.self c.answer_each.new.list.batch c.put.new.list.batch c.answer_each.new.list.first c.put.new.list.first none c.clear.ensures c.put.ensures.batch c.put.ensures.first
    c.answer_each.ensures.answers (c.put.ensures.goes_on c.answer_each.new.tables.tables)

pub returns-clause-answers : goal.returns-clause-answers
returns-clause-answers g c =
    let s : StoreState = record { contents = c.self.inside.tables.tables; journal = c.self.inside.journal } in
    let same : s ≡ c.args.self.now = c.self.view_is ∙ c.take_batch.ensures in
    let none : c.replace.result.items ≡ [] = rw c.replace.ensures.value c.requires.room.0 in
    λ _. subst (λ (old : StoreState). AnswersAll g.G.Guard.rules old c.args.asked.now.items c.put.new.list.answers.items (record { contents = c.answer_each.new.tables.tables; journal = c.put.new.journal })) same
    (list_answers g.G.Guard.rules s c.self.invariant c.args.asked.now.items c.replace.result.items c.answer_each.new.list.answers.items c.put.new.list.answers.items c.answer_each.new.journal c.put.new.journal c.answer_each.new.tables.tables
    c.clear.new.self c.answer_each.new.list.batch c.put.new.list.batch c.answer_each.new.list.first c.put.new.list.first none c.clear.ensures c.put.ensures.batch c.put.ensures.first
    c.answer_each.ensures.answers (c.put.ensures.goes_on c.answer_each.new.tables.tables))
