use Rattle.std.proofs.Common.{◌≡◌, drop}
use Rattle.std.specs.Prelude.{find, bytes_eq}
use Rattle.app_texts.specs.Words.{word_text, word_of}
use Rattle.app_texts.proofs.word.read_word.Given as goal

abbrev pub invariant-loop-word : goal.invariant-loop-word
invariant-loop-word l = find (λ w. bytes_eq (word_text w) l.text) (drop l.word-index l.word-items) ≡ word_of l.text
