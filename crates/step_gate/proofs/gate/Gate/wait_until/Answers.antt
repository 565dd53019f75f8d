use Rattle.std.proofs.Common.{[], refl}
use Rattle.step_gate.proofs.Waits.{tries_none, tries_more, tries_end}
use Rattle.step_gate.proofs.gate.Gate.wait_until.Goals as goal

pub loop-init : goal.loop-init
loop-init g c = (c.requires.seat, ([], tries_none _ _ c.args.seat))

pub returns-then-done-clause-entries : goal.returns-then-done-clause-entries
returns-then-done-clause-entries g c = let t = c.loop.invariant.1 in
    tries_end _ _ t.0 c.args.seat c.loop.seat c.make_step.new.seat c.make-event.result c.in-Ok.reply t.1 c.in-Ok.ensures.entry c.make-event.ensures record { shown = _; shows = refl; says = record { met = c.if-done.ensures } }

pub loop-preserved : goal.loop-preserved
loop-preserved g c = let t = c.loop.invariant.1 in (
  c.make_step.ensures.seat,
  tries_more _ _ t.0 c.args.seat c.loop.seat c.make_step.new.seat c.make-event.result c.in-Ok.reply t.1 c.in-Ok.ensures.entry c.make-event.ensures record { shown = _; shows = refl; says = record { met = c.if-done.ensures } },
)
