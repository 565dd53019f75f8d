use Rattle.actors_top.proofs.Same.{disk_by, port_by}
use Rattle.actors_top.proofs.top.placement.Goals as goal

pub returns-clause-ran : goal.returns-clause-ran
returns-clause-ran g c =
    let ran = c.run_placement-end.ensures in
    (c.run_placement-end.result, record { asks = ran.asks; given = ran.ran.0; hands = ran.ran.1; ran = ran.ran.2; limit = λ is. (ran.done is).2; bound = ran.bound; sound = λ is. ((ran.done is).0, (ran.done is).1) }, ran.link_back, c.tell_placement.ensures.tells)

pub returns-clause-disk : goal.returns-clause-disk
returns-clause-disk g c is = disk_by g.N.Link.Source.read_traffic c.args.words.now.standby _ _ _ _ (c.run_placement-end.ensures.disk_cause (c.tell_placement.ensures.disk is))

pub returns-clause-port : goal.returns-clause-port
returns-clause-port g c is = port_by c.args.words.now.standby _ _ _ _ (c.run_placement-end.ensures.port_cause (c.tell_placement.ensures.port is))
