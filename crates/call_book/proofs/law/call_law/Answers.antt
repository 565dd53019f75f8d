use Rattle.call_book.proofs.Promise.{new_once, kept_begun, kept_answer, gone_answer}
use Rattle.call_book.proofs.law.call_law.Goals as goal

pub returns : goal.returns
returns c = record {
  once = λ es book origin part number h. new_once origin part number es book h;
  begun = λ es book origin part number h k. kept_begun origin part number es book h k;
  kept = λ es book next origin part number reply h k m. kept_answer origin part number es book next reply h k m;
  gone = λ es book next origin part number reply h n k m. gone_answer origin part number es book next reply h n k m;
}
