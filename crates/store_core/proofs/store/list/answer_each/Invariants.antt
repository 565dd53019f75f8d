use Rattle.std.proofs.Common.{◌≡◌, ◌++◌, ◌+◌, length, vec_len}
use Rattle.std.specs.Prelude.{reverse}
use Rattle.std.specs.List.{AllByRecursion}
use Rattle.std.specs.Vec.{vec_capacity}
use Rattle.store_payloads.specs.Fits.{TablesFit}
use Rattle.store_core.specs.Listings.{MayPut, AnswersEach}
use Rattle.store_core.proofs.store.list.answer_each.Given as goal

abbrev pub invariant-loop-one : goal.invariant-loop-one
invariant-loop-one g l = record {
  done : (done : _) × (done ++ reverse l.asked.items ≡ l.fn.asked.items) × (length l.list.answers.items ≡ length l.fn.list.answers.items + length done) × AllByRecursion g.G.Guard.short done × AnswersEach g.G.Guard.rules done l.fn.list.answers.items l.fn.journal l.fn.tables.tables l.fn.list.batch l.fn.list.first l.list.answers.items l.journal l.tables.tables l.list.batch l.list.first;
  may : AllByRecursion g.G.Guard.may (reverse l.asked.items);
  tables : TablesFit l.tables.tables;
  waits : MayPut l.list.first l.list.batch l.journal (length l.list.answers.items);
  fits : AllByRecursion g.G.Guard.fits l.fn.list.answers.items → AllByRecursion g.G.Guard.fits l.list.answers.items;
  asked_room : vec_capacity l.asked ≡ vec_capacity l.fn.asked;
  room : vec_capacity l.list.answers ≡ vec_capacity l.fn.list.answers;
}

abbrev pub decreases-loop-one : goal.decreases-loop-one
decreases-loop-one g l = vec_len l.asked
