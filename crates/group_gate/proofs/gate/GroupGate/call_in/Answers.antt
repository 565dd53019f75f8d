use Rattle.std.proofs.Common.{subst}
use Rattle.group_gate.specs.Gates.{AnsweredIn}
use Rattle.group_gate.proofs.Views.{answered_on}
use Rattle.group_gate.proofs.gate.GroupGate.call_in.Goals as goal

pub returns-in-Some-fetch-clause-answer : goal.returns-in-Some-fetch-clause-answer
returns-in-Some-fetch-clause-answer g c =
    let place = c.args.place.now.at in let answer = c.in-Some-fetch.answer in let old = c.args.seat.now in let new = c.fetch.new.seat in
    subst (λ (a : g.row.M-Ask.Denot). AnsweredIn place a answer old new) c.of-said.ensures (answered_on place _ answer old c.loop.seat new c.loop.invariant.1 c.in-Some-fetch.ensures.fetched)
