use Rattle.std.proofs.Common.{[], refl, sym, arith}
use Rattle.actors_api.specs.declared.refusal.ApiRefusal.TheVariants as api
use Rattle.placement_sessions.specs.StateTexts.{closing, refused_with}
use Rattle.placement_sessions.proofs.StateTurning.{answered, grows_none}
use Rattle.placement_sessions.proofs.state_turn.answer_request.Goals as goal

pub returns-in-None-clause-answers : goal.returns-in-None-clause-answers
returns-in-None-clause-answers g c =
    let q = c.args.request.now in
    let r = closing q.close (refused_with api.NoRoute) in
    answered q [] r c.args.seat.now c.args.seat.now _ _ _ _ (sym c.in-None.ensures, refl) (grows_none _) (omega arith) c.answer_with.result (c.answer_with.ensures.answers r c.refused_with-made.ensures)
