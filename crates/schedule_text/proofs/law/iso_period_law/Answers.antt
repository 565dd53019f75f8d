use Rattle.schedule_text.proofs.IsoPeriods.{iso_period-form, iso_period-zero, iso_period-answers}
use Rattle.schedule_text.proofs.law.iso_period_law.Goals as goal

pub returns-clause-form : goal.returns-clause-form
returns-clause-form c = iso_period-form

pub returns-clause-zero : goal.returns-clause-zero
returns-clause-zero c = iso_period-zero

pub returns-clause-answers : goal.returns-clause-answers
returns-clause-answers c = iso_period-answers
