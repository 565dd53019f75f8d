use Rattle.std.proofs.lemmas.Result.{IfOk-weaker, IfErr-weaker}
use Rattle.frame_session.proofs.Stepping.{added_step, added_one, added_longer, added_none}
use Rattle.frame_session.proofs.at_step_gate.GateAskable.ask.Goals as goal

pub returns-clause-reply : goal.returns-clause-reply
returns-clause-reply g c =
    IfOk-weaker c.call_in.result _ _ (λ r adds. added_step g.M.Machine.moves c.args.self.now c.args.event r c.args.seat.now c.call_in.new.seat c.call_in.ensures.seat adds) c.call_in.ensures.entry

pub returns-clause-one : goal.returns-clause-one
returns-clause-one g c = IfOk-weaker c.call_in.result _ _ (λ r adds. added_one c.args.event r c.args.seat.now c.call_in.new.seat adds) c.call_in.ensures.entry

pub returns-clause-longer : goal.returns-clause-longer
returns-clause-longer g c = IfOk-weaker c.call_in.result _ _ (λ r adds. added_longer c.args.event r c.args.seat.now c.call_in.new.seat adds) c.call_in.ensures.entry

pub returns-clause-spent : goal.returns-clause-spent
returns-clause-spent g c = IfErr-weaker c.call_in.result _ _ (λ e spent. added_none e.count c.args.seat.now c.call_in.new.seat spent) c.call_in.ensures.spent
