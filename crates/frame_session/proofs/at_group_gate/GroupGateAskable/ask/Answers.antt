use Rattle.std.proofs.Common.{refl}
use Rattle.std.proofs.lemmas.Result.{IfOk-weaker, IfErr-weaker}
use Rattle.frame_session.proofs.PlacedSeats.{some_reply, asked_one, asked_longer, asked_none}
use Rattle.frame_session.proofs.at_group_gate.GroupGateAskable.ask.Goals as goal

pub returns-clause-reply : goal.returns-clause-reply
returns-clause-reply g c = IfOk-weaker c.call_in.result _ _ (λ r a. some_reply g.M.Grouped.moves _ _ _ r _ _ c.call_in.ensures.seat a) c.call_in.ensures.answer

pub returns-clause-one : goal.returns-clause-one
returns-clause-one g c = IfOk-weaker c.call_in.result _ _ (λ r a. asked_one c.args.seat.now (record { seat = c.call_in.new.seat; place = c.args.seat.now.place }) refl c.args.event r a) c.call_in.ensures.answer

pub returns-clause-longer : goal.returns-clause-longer
returns-clause-longer g c = IfOk-weaker c.call_in.result _ _ (λ r a. asked_longer c.args.seat.now (record { seat = c.call_in.new.seat; place = c.args.seat.now.place }) refl c.args.event r a) c.call_in.ensures.answer

pub returns-clause-spent : goal.returns-clause-spent
returns-clause-spent g c = IfErr-weaker c.call_in.result _ _ (λ e spent. asked_none c.args.seat.now (record { seat = c.call_in.new.seat; place = c.args.seat.now.place }) refl e.count spent) c.call_in.ensures.spent
