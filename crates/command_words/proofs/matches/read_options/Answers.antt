use Rattle.std.proofs.Common.{◌≡◌, true, map, string_bytes, is_some, ap, subst, ◌∙◌, rules}
use Rattle.clap.specs.Simple.{App, HasMatchesOf}
use Rattle.clap.specs.Takes.{takes}
use Rattle.command_words.specs.Options.{options_given}
use Rattle.command_words.specs.Told.{told_option}
use Rattle.command_words.proofs.Bridge.{form_passes, form_holds}
use Rattle.command_words.proofs.matches.read_options.Goals as goal

pub returns-in-Ok : goal.returns-in-Ok
returns-in-Ok c =
    let options = map told_option c.args.options.now in
    let words = map string_bytes c.args.words.now in
    let is : is_some (options_given options words) ≡ true = search rules in
    form_holds c.args.name.now options words c.in-Ok.matches is (subst (λ (a : App). HasMatchesOf a words c.in-Ok.matches) c.in_ok-command.ensures c.in-Ok.ensures.matches)

pub returns-in-Err : goal.returns-in-Err
returns-in-Err c usage =
    let options = map told_option c.args.options.now in
    let words = map string_bytes c.args.words.now in
    let is : is_some (options_given options words) ≡ true = search rules in
    let memory = c.error_of.ensures (c.in-Err.ensures.passes (ap (λ (a : App). takes a words) c.in_ok-command.ensures ∙ form_passes c.args.name.now options words is)) in
    cc
