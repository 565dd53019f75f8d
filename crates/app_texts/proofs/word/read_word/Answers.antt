use Rattle.std.proofs.Common.{◌≡◌, ◌∙◌, ap, sym, ℕ, true, false, arith, rules}
use Rattle.std.specs.Prelude.{find, bytes_eq}
use Rattle.app_texts.specs.Words.{word_text, all_words}
use Rattle.app_texts.specs.declared.word.RefusalWord.TheVariants.{NoRoute}
use Rattle.app_texts.proofs.Found.{found_at, passed_at}
use Rattle.app_texts.proofs.word.read_word.Goals as goal

pub returns-then-eq : goal.returns-then-eq
returns-then-eq c = sym (found_at (λ w. bytes_eq (word_text w) c.args.text.now) all_words c.loop-word.word-index _ (omega arith) (search rules)) ∙ c.loop-word.invariant

pub loop-word-preserved : goal.loop-word-preserved
loop-word-preserved c = sym (passed_at (λ w. bytes_eq (word_text w) c.args.text.now) all_words c.loop-word.word-index NoRoute (omega arith) (search rules)) ∙ c.loop-word.invariant
