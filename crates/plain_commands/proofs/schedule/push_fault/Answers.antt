use Rattle.std.proofs.Common.{codes, decimal, append_assoc}
use Rattle.plain_commands.proofs.schedule.push_fault.Goals as goal

pub returns-in-BadMoment : goal.returns-in-BadMoment
returns-in-BadMoment c = rw (c.in-BadMoment.is, ← append_assoc c.args.text.now.items (codes "bad-moment ") (decimal c.in-BadMoment.at)) c.push_number.ensures

pub returns-in-BadDuration : goal.returns-in-BadDuration
returns-in-BadDuration c = rw (c.in-BadDuration.is, ← append_assoc c.args.text.now.items (codes "bad-duration ") (decimal c.in-BadDuration.at)) c.push_number-in-BadDuration.ensures
