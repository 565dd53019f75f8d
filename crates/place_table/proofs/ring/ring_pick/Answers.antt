use Rattle.place_table.proofs.Picks.{empty_from_none, picks_owner, picks_some}
use Rattle.place_table.proofs.ring.ring_pick.Goals as goal

pub returns-in-None-clause-empty : goal.returns-in-None-clause-empty
returns-in-None-clause-empty c = (λ none. empty_from_none c.args.points.now c.args.key c.in-None.ensures, λ nil. search)

pub returns-in-Some-clause-owner : goal.returns-in-Some-clause-owner
returns-in-Some-clause-owner c = picks_owner c.args.points.now c.args.key c.in-Some.point c.in-Some.ensures c.point_at.result c.point_at.ensures

pub returns-in-Some-clause-empty : goal.returns-in-Some-clause-empty
returns-in-Some-clause-empty c = picks_some c.args.points.now c.args.key c.in-Some.point c.in-Some.ensures c.point_at.result c.point_at.ensures
