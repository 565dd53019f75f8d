use Rattle.std.proofs.Common.{◌++◌, [], ◌∷◌, subst}
use Rattle.step_gate.specs.History.{entry}
use Rattle.call_book.specs.declared.event.BookEvent.{BookEvent}
use Rattle.call_book.specs.Book.{new_book}
use Rattle.call_book.specs.Machine.{BookMoves}
use Rattle.call_book.proofs.Promise.{new_once, kept_answer, leads_snoc}
use Rattle.call_book.proofs.book.CallBook.step.Goals as goal

pub returns-clause-once : goal.returns-clause-once
returns-clause-once c = λ es by origin part number h.
    new_once origin part number (es ++ entry by c.args.event c.answer.result ∷ []) c.answer.new.self
    (leads_snoc es new_book c.args.self.now c.answer.new.self (entry by c.args.event c.answer.result) h c.answer.ensures)

pub returns-clause-kept : goal.returns-clause-kept
returns-clause-kept c = λ es origin part number h k e.
    kept_answer origin part number es c.args.self.now c.answer.new.self c.answer.result h k
    (subst (λ (event : BookEvent). BookMoves c.args.self.now event c.answer.result c.answer.new.self) e c.answer.ensures)
