use Rattle.std.proofs.Common.{◌≡◌, drop, map}
use Rattle.command_words.specs.Options.{kind_of}
use Rattle.command_words.specs.Told.{told_option}
use Rattle.command_words.proofs.options.kind_of.Given as goal

abbrev pub invariant-loop-option : goal.invariant-loop-option
invariant-loop-option l = kind_of (map told_option (drop l.option-index l.options)) l.name ≡ kind_of (map told_option l.options) l.name
