use Rattle.std.proofs.Common.{◌≡◌, ◌-◌, ap, sym, ◌∙◌, arith}
use Rattle.plain_commands.proofs.Moments.{lines_left, lines_left-zero}
use Rattle.plain_commands.proofs.schedule.push_firings.Goals as goal

pub returns-clause-added : goal.returns-clause-added
returns-clause-added c =
    let none : c.args.count - c.loop.counter ≡ 0 = omega (arith, c.loop-test.false) in
    sym (lines_left-zero c.loop.text.items c.loop.rest c.loop.next)
    ∙ ap (λ n. lines_left c.loop.text.items n c.loop.rest c.loop.next) (sym none)
    ∙ c.loop.invariant
