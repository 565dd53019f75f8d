use Rattle.std.proofs.Common.{◌≡◌, map, take}
use Rattle.clap.specs.Simple.{app_of}
use Rattle.command_words.specs.Commands.{option_app}
use Rattle.command_words.specs.Told.{told_option}
use Rattle.command_words.proofs.matches.command_of.Given as goal

abbrev pub invariant-loop-option : goal.invariant-loop-option
invariant-loop-option l = app_of l.command ≡ option_app l.fn.name (map told_option (take l.option-index l.options))
