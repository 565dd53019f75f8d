use Rattle.schedule_text.proofs.MomentLaws.{read_moment-form, read_moment-answers}
use Rattle.schedule_text.proofs.law.moment_law.Goals as goal

pub returns-clause-form : goal.returns-clause-form
returns-clause-form c = read_moment-form

pub returns-clause-answers : goal.returns-clause-answers
returns-clause-answers c = read_moment-answers
