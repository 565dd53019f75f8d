use Rattle.standby_session.proofs.Imaged.{attach_covers, answered_covers, under_way_covers}
use Rattle.standby_session.proofs.law.image_law.Goals as goal

pub returns-clause-attach : goal.returns-clause-attach
returns-clause-attach c = attach_covers

pub returns-clause-answered : goal.returns-clause-answered
returns-clause-answered c = answered_covers

pub returns-clause-under_way : goal.returns-clause-under_way
returns-clause-under_way c = under_way_covers
