use Rattle.schedule_text.proofs.GoTexts.{go_nanos-form, go_nanos-answers}
use Rattle.schedule_text.proofs.law.go_duration_law.Goals as goal

pub returns-clause-form : goal.returns-clause-form
returns-clause-form c = go_nanos-form

pub returns-clause-answers : goal.returns-clause-answers
returns-clause-answers c = go_nanos-answers
