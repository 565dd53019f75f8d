use Rattle.std.proofs.Common.{append_assoc, append-nil, length-append, ◌≡◌, ℕ, ◌+◌, List, [], ◌∷◌, ◌++◌, length, refl, sym, ◌∙◌, ap, subst, arith}
use Rattle.std.specs.Prelude.{reverse}
use Rattle.std.specs.List.{AllByRecursion}
use Rattle.std.proofs.lemmas.List.{reverse-append, reverse-reverse}
use Rattle.lists_and_limits.proofs.Each.{each_append}
use Rattle.store_core.specs.Listings.{AnswersEach}
use Rattle.store_core.proofs.Answering.{none_of, each_none, each_next}
use Rattle.store_core.proofs.store.list.answer_each.Goals as goal

pub loop-one-init : goal.loop-one-init
loop-one-init g c =
    let back : reverse c.reverse.new.self.items ≡ c.args.asked.now.items = ap reverse c.reverse.ensures.items ∙ reverse-reverse c.args.asked.now.items in
    let none : length c.args.list.now.answers.items ≡ length c.args.list.now.answers.items + 0 = omega arith in
    record {
      done = ([], back, none, tt, each_none g.G.Guard.rules c.args.list.now.answers.items c.args.journal.now c.args.tables.now.tables c.args.list.now.batch c.args.list.now.first);
      may = subst (λ l. AllByRecursion g.G.Guard.may l) (sym back) c.requires.may;
      tables = c.requires.fits;
      waits = c.requires.waits;
      fits = λ all. all;
      asked_room = c.reverse.ensures.capacity;
      room = refl;
    }

pub loop-one-preserved : goal.loop-one-preserved
loop-one-preserved g c =
    let inv = c.loop-one.invariant in
    let one = c.in-Some.one in
    let done = inv.done.0 in
    let popped : c.loop-one.asked.items ≡ c.pop.new.self.items ++ one ∷ [] = rw c.in-Some.is at c.pop.ensures.items in
    let back : reverse c.loop-one.asked.items ≡ one ∷ reverse c.pop.new.self.items = ap reverse popped ∙ reverse-append c.pop.new.self.items (one ∷ []) in
    let may = subst (λ l. AllByRecursion g.G.Guard.may l) back inv.may in
    let before = inv.done.2 in
    let here = c.answer_next.ensures.count in
    let count : length c.answer_next.new.list.answers.items ≡ length c.args.list.now.answers.items + length (done ++ one ∷ []) = omega (arith, before, here, length-append done (one ∷ [])) in
    record {
      done = (
        done ++ one ∷ [],
        append_assoc done (one ∷ []) (reverse c.pop.new.self.items) ∙ ap (λ l. done ++ l) (sym back) ∙ inv.done.1,
        count,
        each_append g.G.Guard.short done (one ∷ []) inv.done.3 (c.answer_next.ensures.short, tt),
        each_next g.G.Guard.rules done one _ _ _ _ _ _ _ _ _ _ _ _ _ _ _ inv.done.4 c.answer_next.ensures.answers,
      );
      may = may.1;
      tables = c.answer_next.ensures.tables;
      waits = c.answer_next.ensures.waits;
      fits = λ all. c.answer_next.ensures.fits (inv.fits all);
      asked_room = c.pop.ensures.capacity ∙ inv.asked_room;
      room = c.answer_next.ensures.capacity ∙ inv.room;
    }

pub returns-clause-answers : goal.returns-clause-answers
returns-clause-answers g c =
    let inv = c.loop-one.invariant in
    let done = inv.done.0 in
    let none = rw c.in_default.is at c.pop.ensures.cases in
    let zero : length c.loop-one.asked.items ≡ 0 = omega (arith, none.0, c.loop-one.asked.ok.0) in
    let empty : c.loop-one.asked.items ≡ [] = none_of c.loop-one.asked.items zero in
    let all : done ≡ c.args.asked.now.items = sym (append-nil done) ∙ ap (λ l. done ++ reverse l) (sym empty) ∙ inv.done.1 in
    subst (λ l. AnswersEach g.G.Guard.rules l c.args.list.now.answers.items c.args.journal.now c.args.tables.now.tables c.args.list.now.batch c.args.list.now.first c.loop-one.list.answers.items c.loop-one.journal c.loop-one.tables.tables c.loop-one.list.batch c.loop-one.list.first) all inv.done.4
