use Rattle.placement_beats.proofs.Laws.{reported, justified, answered}
use Rattle.placement_beats.proofs.law.beat_law.Goals as goal

pub returns-clause-reported : goal.returns-clause-reported
returns-clause-reported c = reported

pub returns-clause-justified : goal.returns-clause-justified
returns-clause-justified c = justified

pub returns-clause-answered : goal.returns-clause-answered
returns-clause-answered c = answered
