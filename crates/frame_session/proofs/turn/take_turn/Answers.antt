use Rattle.std.proofs.Common.{refl, sym}
use Rattle.frame_session.proofs.Replying.{step_foreign, step_spent, step_answered, step_cut}
use Rattle.frame_session.proofs.turn.take_turn.Goals as goal

pub returns-in-None-clause-turn : goal.returns-in-None-clause-turn
returns-in-None-clause-turn g c =
    step_foreign g.G.Askable.made g.G.Askable.known g.A.AnswersFrames.event_of g.A.AnswersFrames.answer_of g.A.AnswersFrames.breaks_off c.args.frame c.now_ms-now.result c.args.seat.now c.args.seat.now _ _ c.now_ms-now.ensures.shows c.now_ms-now.ensures.never_falls
    _ c.in-None.ensures.event refl

pub reply_with-broken-requires-after_bounds : goal.reply_with-broken-requires-after_bounds
reply_with-broken-requires-after_bounds g c κs within = (c.args.frame, c.now_ms-now.result, c.in-Some.event, c.requires.frame, sym c.in-Some.ensures.event, c.in-Ok.ensures.reply)

pub returns-in-Err-clause-turn : goal.returns-in-Err-clause-turn
returns-in-Err-clause-turn g c =
    step_spent g.G.Askable.made g.G.Askable.known g.A.AnswersFrames.event_of g.A.AnswersFrames.answer_of g.A.AnswersFrames.breaks_off c.args.frame c.now_ms-now.result c.args.seat.now c.ask.new.seat _ _ c.now_ms-now.ensures.shows c.now_ms-now.ensures.never_falls
    c.in-Some.event _ c.in-Err.spent.count c.in-Some.ensures.event c.in-Err.ensures.spent

pub returns-in-Err-written-clause-turn : goal.returns-in-Err-written-clause-turn
returns-in-Err-written-clause-turn g c =
    step_cut g.G.Askable.made g.G.Askable.known g.A.AnswersFrames.event_of g.A.AnswersFrames.answer_of g.A.AnswersFrames.breaks_off c.args.frame c.now_ms-now.result c.args.seat.now c.ask.new.seat _ _ c.now_ms-now.ensures.shows c.now_ms-now.ensures.never_falls
    c.in-Some.event c.in-Ok.reply c.requires.frame c.in-Some.ensures.event c.in-Ok.ensures.one c.in-Ok.ensures.longer
    c.in-Err-written.error c.reply_with-broken.result.0 c.reply_with-broken.result.1 c.in-Err-written.is _ _ c.reply_with-broken.ensures.replies c.reply_with-broken.ensures.says

pub returns-in-Ok-written-clause-turn : goal.returns-in-Ok-written-clause-turn
returns-in-Ok-written-clause-turn g c =
    step_answered g.G.Askable.made g.G.Askable.known g.A.AnswersFrames.event_of g.A.AnswersFrames.answer_of g.A.AnswersFrames.breaks_off c.args.frame c.now_ms-now.result c.args.seat.now c.ask.new.seat _ _ c.now_ms-now.ensures.shows c.now_ms-now.ensures.never_falls
    c.in-Some.event c.in-Ok.reply c.requires.frame c.in-Some.ensures.event c.in-Ok.ensures.one c.in-Ok.ensures.longer
    c.reply_with-broken.result.0 c.reply_with-broken.result.1 c.in-Ok-written.is _ _ c.reply_with-broken.ensures.replies c.reply_with-broken.ensures.says
