use Rattle.schedule_text.proofs.IsoTexts.{iso_duration-form, iso_duration-answers}
use Rattle.schedule_text.proofs.law.iso_duration_law.Goals as goal

pub returns-clause-form : goal.returns-clause-form
returns-clause-form c = iso_duration-form

pub returns-clause-answers : goal.returns-clause-answers
returns-clause-answers c = iso_duration-answers
