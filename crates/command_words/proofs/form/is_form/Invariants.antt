use Rattle.std.proofs.Common.{drop, map, option_map, string_bytes}
use Rattle.command_words.specs.Told.{told_option}
use Rattle.command_words.proofs.Forms.{StandsAt}
use Rattle.command_words.proofs.form.is_form.Given as goal

abbrev pub invariant-loop-word : goal.invariant-loop-word
invariant-loop-word l =
    StandsAt (map told_option l.options) (map string_bytes l.words) (map (λ n. n.now) l.names.items) (option_map (λ n. n.now) l.awaited) (map string_bytes (drop l.word-index l.words))
