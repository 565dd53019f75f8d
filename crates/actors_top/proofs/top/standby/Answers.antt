use Rattle.actors_top.proofs.top.standby.Goals as goal

pub returns-clause-ran : goal.returns-clause-ran
returns-clause-ran g c =
    let ran = c.run_standby.ensures in
    (c.run_standby.result, record { asks = ran.asks; given = ran.ran.0; hands = ran.ran.1; ran = ran.ran.2; limit = λ is. (ran.done is).2; bound = ran.bound; sound = λ is. ((ran.done is).0, (ran.done is).1) }, c.standby_status.ensures.is)
