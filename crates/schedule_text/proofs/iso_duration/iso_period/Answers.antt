use Rattle.std.proofs.Common.{◌≡◌, true, arith, sym, ◌∙◌}
use Rattle.std.proofs.lemmas.Grind.{common_steps}
use Rattle.schedule_text.specs.IsoDurations.{begins_with}
use Rattle.schedule_text.proofs.Sums.{iso_period_behind}
use Rattle.schedule_text.proofs.iso_duration.iso_period.Goals as goal

pub returns-in-Ok : goal.returns-in-Ok
returns-in-Ok c =
    let begins : begins_with 82 c.args.text.now ≡ true = grind (arith, common_steps) in
    c.repeated.ensures ∙ sym (iso_period_behind c.args.text.now (c.in-Ok.count, c.in-Ok.behind.now) begins c.in-Ok.ensures)
