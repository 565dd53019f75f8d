use Rattle.std.proofs.Common.{sym, ◌∙◌}
use Rattle.lease_core.proofs.Givings.{lasts_given, ended_given}
use Rattle.lease_core.proofs.passing.stop_if_ended.Goals as goal

pub returns-then-not-ended : goal.returns-then-not-ended
returns-then-not-ended c w e = lasts_given c.args.parts c.args.member.now w c.args.world.now (sym c.ended.ensures ∙ c.if-not-ended.true) e

pub returns : goal.returns
returns c w e = ended_given c.args.parts c.args.member.now w c.stop_parts.new.world (sym c.ended.ensures ∙ c.if-not-ended.false) (c.stop_parts.ensures w e)
