use Rattle.std.proofs.Common.{ap₂, ◌∙◌}
use Rattle.clap.specs.Simple.{with_rule}
use Rattle.command_words.specs.Told.{told_option}
use Rattle.command_words.proofs.Rules.{option_app-more}
use Rattle.command_words.proofs.matches.command_of.Goals as goal

pub loop-option-preserved : goal.loop-option-preserved
loop-option-preserved c =
    c.in_ok-command.ensures.shape c.arg_of.ensures.local
    ∙ ap₂ with_rule c.loop-option.invariant c.arg_of.ensures.rule
    ∙ option_app-more c.args.name.now told_option c.args.options.now c.loop-option.option-index _ c.loop-option-test.true
