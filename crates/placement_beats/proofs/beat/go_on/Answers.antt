use Rattle.placement_beats.proofs.Turns.{goes_hindered, goes_on, hindrance_calm}
use Rattle.placement_beats.proofs.beat.go_on.Goals as goal

pub returns-in-Some-clause-goes_on : goal.returns-in-Some-clause-goes_on
returns-in-Some-clause-goes_on g c = goes_hindered _ _ c.args.ticks.now _ _ _ _ c.in-Some.end c.in-Some.ensures

pub returns-in-Some-clause-cause : goal.returns-in-Some-clause-cause
returns-in-Some-clause-cause g c = hindrance_calm c.args.ticks.now c.in-Some.end _ c.in-Some.ensures

pub returns-in-None-clause-goes_on : goal.returns-in-None-clause-goes_on
returns-in-None-clause-goes_on g c = goes_on _ _ c.args.ticks.now _ _ _ _ _ _ _ _ c.in-None.ensures c.after_ticks.ensures.beats
