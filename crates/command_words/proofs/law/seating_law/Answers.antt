use Rattle.command_words.proofs.Seated.{reading_seated}
use Rattle.command_words.proofs.law.seating_law.Goals as goal

pub returns : goal.returns
returns c = record { seated = reading_seated }
