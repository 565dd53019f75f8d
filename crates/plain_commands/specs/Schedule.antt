-- What the command `schedule` prints. Own: docs/schedules.md has the words.
use Rattle.std.specs.Prelude.{◌≡◌, ℕ, List, ◌++◌, flat_map, codes, decimal, Option, None, Some, Result, Ok, Err}
use Rattle.schedule_text.specs.declared.error.ScheduleError.{ScheduleError}
use Rattle.schedule_text.specs.declared.error.ScheduleError.TheVariants.{BadMoment, BadDuration, Negative, ZeroRepeats, OutOfRange, OutOfMemory}
use Rattle.schedule_text.specs.declared.advance.Schedule.{Schedule}
use Rattle.schedule_text.specs.Reading.{◌>>=◌}
use Rattle.schedule_text.specs.Moments.{read_moment, moment_text}
use Rattle.schedule_text.specs.Schedules.{read_schedule}
use Rattle.schedule_text.specs.Firing.{firing_list}
use Rattle.command_words.specs.Reading.{Asking}
use Rattle.plain_commands.specs.declared.status.Status.{Status}
use Rattle.plain_commands.specs.declared.status.Status.TheVariants as status
use Rattle.plain_commands.specs.ReplayTold.{Writes, WritesFrontOf}

-- a fault's name, with its place; the readers take no memory, so the last is never printed
abbrev pub fault_text : ScheduleError → List ℕ
fault_text (BadMoment at) = codes "bad-moment " ++ decimal at
fault_text (BadDuration at) = codes "bad-duration " ++ decimal at
fault_text Negative = codes "negative"
fault_text ZeroRepeats = codes "zero-repeats"
fault_text OutOfRange = codes "out-of-range"
fault_text OutOfMemory = codes "out-of-memory"

abbrev pub refused_line : ScheduleError → List ℕ
refused_line fault = codes "refused " ++ fault_text fault ++ codes "\n"

-- one moment to a line
abbrev pub moment_line : ℕ → List ℕ
moment_line moment = moment_text moment ++ codes "\n"

-- the moments one after another
abbrev pub moment_lines : List ℕ → List ℕ
moment_lines moments = flat_map moment_line moments

-- the schedule of the texts, or the first fault: the moment of `--now` is read before everything else
abbrev pub read_asking : Asking → Result Schedule ScheduleError
read_asking asking = read_moment asking.now >>= λ now. read_schedule asking.due asking.period asking.ttl now

-- how a run ends and all that it prints
pub record ScheduleRun : Type 0 where
  pub status : ℕ
  pub text : List ℕ

-- the moments of a schedule, at most `count` of them, or the line of the fault
abbrev pub run_of : ℕ → Result Schedule ScheduleError → ScheduleRun
run_of count (Ok schedule) = record { status = 0; text = moment_lines (firing_list count schedule) }
run_of count (Err fault) = record { status = 3; text = refused_line fault }

-- the run that the words of `schedule` ask for
abbrev pub schedule_of : Asking → ScheduleRun
schedule_of asking = run_of asking.count (read_asking asking)

-- all of the run was made, and the status is its own; out of memory nothing is said of the text
abbrev pub Makes : ScheduleRun → Status → List ℕ → Type 0
Makes run status.Done text = (run.status ≡ 0) × (text ≡ run.text)
Makes run status.Refused text = (run.status ≡ 3) × (text ≡ run.text)
Makes run status.OutOfMemory text = Unit {0}
Makes run status.Usage text = ⊥
Makes run status.SourceFault text = ⊥
Makes run status.SinkFault text = ⊥
Makes run status.Limit text = ⊥

-- if the sink shows its bytes, nothing was written
abbrev pub WritesNothing : Option (List ℕ) → Option (List ℕ) → Type 0
WritesNothing None after = Unit {0}
WritesNothing (Some held) after = after ≡ Some held

-- All of the run was written, and the status is its own; after a fault of the sink a prefix of it, and out of memory
-- nothing.
abbrev pub ScheduleEnds : ScheduleRun → Status → Option (List ℕ) → Option (List ℕ) → Type 0
ScheduleEnds run status.Done before after = (run.status ≡ 0) × Writes before after run.text
ScheduleEnds run status.Refused before after = (run.status ≡ 3) × Writes before after run.text
ScheduleEnds run status.SinkFault before after = WritesFrontOf before after run.text
ScheduleEnds run status.OutOfMemory before after = WritesNothing before after
ScheduleEnds run status.Usage before after = ⊥
ScheduleEnds run status.SourceFault before after = ⊥
ScheduleEnds run status.Limit before after = ⊥
