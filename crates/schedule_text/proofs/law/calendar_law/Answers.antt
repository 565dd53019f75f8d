use Rattle.schedule_text.proofs.Calendars.{days_to-day_count, date_of-date}
use Rattle.schedule_text.proofs.MonthSums.{date_after-months, months_on-day}
use Rattle.schedule_text.proofs.law.calendar_law.Goals as goal

pub returns-clause-days : goal.returns-clause-days
returns-clause-days c = days_to-day_count

pub returns-clause-dates : goal.returns-clause-dates
returns-clause-dates c = λ day low. (date_of-date day low).civil

pub returns-clause-days_of_dates : goal.returns-clause-days_of_dates
returns-clause-days_of_dates c = λ day low. (date_of-date day low).days

pub returns-clause-months : goal.returns-clause-months
returns-clause-months c = date_after-months

pub returns-clause-sums : goal.returns-clause-sums
returns-clause-sums c = λ moment months low. (months_on-day moment months low).0

pub returns-clause-times : goal.returns-clause-times
returns-clause-times c = λ moment months low. (months_on-day moment months low).1
