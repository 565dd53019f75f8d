use Rattle.http_edge.proofs.Carried.{over_nothing}
use Rattle.placement_sessions.specs.StateTexts.{closing}
use Rattle.placement_sessions.proofs.StateTurning.{look_answered, look_broken, look_spent}
use Rattle.placement_sessions.proofs.state_turn.answer_look.Goals as goal

pub returns-in-Err-clause-answers : goal.returns-in-Err-clause-answers
returns-in-Err-clause-answers g c = look_spent c.args.request.now c.args.asked.now _ _ _ _ _ _ c.requires.asks c.in-Err.spent c.in-Err.ensures.looks (over_nothing _)

pub returns-in-None-clause-answers : goal.returns-in-None-clause-answers
returns-in-None-clause-answers g c = look_broken c.args.request.now c.args.asked.now _ _ _ _ _ _ c.requires.asks c.in-Ok.reply c.in-Ok.ensures.looks c.in-None.ensures (over_nothing _)

pub returns-in-Some-clause-answers : goal.returns-in-Some-clause-answers
returns-in-Some-clause-answers g c =
    let made = c.in-Some.ensures in
    look_answered c.args.request.now c.args.asked.now _ _ _ _ _ _ c.requires.asks c.in-Ok.reply c.answer_with.result made.0 c.in-Ok.ensures.looks made.1 (c.answer_with.ensures.answers (closing c.args.request.now.close made.0) made.2)
