use Rattle.actors_api.proofs.refusal_text.add_schedule_word.Goals as goal

pub returns-in-BadMoment : goal.returns-in-BadMoment
returns-in-BadMoment c = rw c.in-BadMoment.is c.add_placed.ensures

pub returns-in-BadDuration : goal.returns-in-BadDuration
returns-in-BadDuration c = rw c.in-BadDuration.is c.add_placed-in-BadDuration.ensures

pub returns-in-ZeroRepeats : goal.returns-in-ZeroRepeats
returns-in-ZeroRepeats c = rw c.in-ZeroRepeats.is c.add-in-ZeroRepeats.ensures

pub returns-in-OutOfRange : goal.returns-in-OutOfRange
returns-in-OutOfRange c = rw c.in-OutOfRange.is c.add-in-OutOfRange.ensures
