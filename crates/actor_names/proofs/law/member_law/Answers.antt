use Rattle.actor_names.proofs.MemberTexts.{member-form, member-only}
use Rattle.actor_names.proofs.law.member_law.Goals as goal

pub returns-clause-form : goal.returns-clause-form
returns-clause-form c = member-form

pub returns-clause-only : goal.returns-clause-only
returns-clause-only c = member-only
